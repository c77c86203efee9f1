-- What a scale is: codes that are values, their operations, and the laws that these keep.
use Rattle.std.specs.Prelude.{◌≡◌, ℕ, ◌^◌, ◌<◌, ◌≤◌, Bool, true, false, ◌≢◌}

-- A scale's values are some of the codes of 64 bits. Operations take any number, a value or not.
pub record Algebra : Type 0 where
  pub value : ℕ → Bool
  pub lowest : ℕ
  pub highest : ℕ
  pub join : ℕ → ℕ → ℕ
  pub meet : ℕ → ℕ → ℕ
  pub complement : ℕ → ℕ
  -- how far up a value stands, from 0 to the height
  pub rank : ℕ → ℕ
  pub height : ℕ

-- x is a value of the scale
abbrev pub Value : Algebra → ℕ → Type 0
Value A x = A.value x ≡ true

-- x is no value of the scale
abbrev pub Stray : Algebra → ℕ → Type 0
Stray A x = A.value x ≡ false

-- x is at or below y: two values whose join is y
pub record Under (A : Algebra) (x y : ℕ) : Type 0 where
  pub low : Value A x
  pub high : Value A y
  pub joined : A.join x y ≡ y

-- What every scale shows of its operations.
pub record Laws (A : Algebra) : Type 0 where
  -- a value is a code of 64 bits
  pub coded : (x : ℕ) → Value A x → x < 2 ^ 64
  pub lowest_value : Value A A.lowest
  pub highest_value : Value A A.highest
  -- every operation answers a value
  pub join_value : (x y : ℕ) → Value A (A.join x y)
  pub meet_value : (x y : ℕ) → Value A (A.meet x y)
  pub complement_value : (x : ℕ) → Value A (A.complement x)
  -- and the lowest where it is given a code that is no value
  pub join_stray : (x y : ℕ) → Stray A x → A.join x y ≡ A.lowest
  pub meet_stray : (x y : ℕ) → Stray A x → A.meet x y ≡ A.lowest
  pub complement_stray : (x : ℕ) → Stray A x → A.complement x ≡ A.lowest
  -- a distributive lattice; the first two hold of any codes, so that a stray may stand on either side
  pub join_comm : (x y : ℕ) → A.join x y ≡ A.join y x
  pub meet_comm : (x y : ℕ) → A.meet x y ≡ A.meet y x
  pub join_assoc : (x y z : ℕ) → Value A x → Value A y → Value A z → A.join (A.join x y) z ≡ A.join x (A.join y z)
  pub meet_assoc : (x y z : ℕ) → Value A x → Value A y → Value A z → A.meet (A.meet x y) z ≡ A.meet x (A.meet y z)
  pub join_meet : (x y : ℕ) → Value A x → Value A y → A.join x (A.meet x y) ≡ x
  pub meet_join : (x y : ℕ) → Value A x → Value A y → A.meet x (A.join x y) ≡ x
  pub distributes : (x y z : ℕ) → Value A x → Value A y → Value A z → A.meet x (A.join y z) ≡ A.join (A.meet x y) (A.meet x z)
  -- the complement
  pub twice : (x : ℕ) → Value A x → A.complement (A.complement x) ≡ x
  pub complement_join : (x y : ℕ) → Value A x → Value A y → A.complement (A.join x y) ≡ A.meet (A.complement x) (A.complement y)
  -- lowest and highest
  pub lowest_join : (x : ℕ) → Value A x → A.join A.lowest x ≡ x
  pub highest_meet : (x : ℕ) → Value A x → A.meet A.highest x ≡ x
  pub apart : A.lowest ≡ A.highest → ⊥
  -- the rank of any code is within the height, and a value strictly below another has the smaller one
  pub rank_within : (x : ℕ) → A.rank x ≤ A.height
  pub rank_stray : (x : ℕ) → Stray A x → A.rank x ≡ 0
  pub rank_rises : (x y : ℕ) → Under A x y → (x ≢ y) → A.rank x < A.rank y
  pub tall : 1 ≤ A.height
  pub short : A.height ≤ 255
