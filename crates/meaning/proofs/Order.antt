-- What the laws of a scale give of its order.
use Rattle.std.proofs.Common.{◌≡◌, ℕ, sym, ap, ◌∙◌, subst, arith}
use Rattle.records.specs.declared.Kind.{Kind}
use Rattle.records.specs.declared.Kind.TheVariants.{AnyOf, AllOf, Fixed}
use Rattle.records.specs.declared.Sign.{Sign}
use Rattle.records.specs.declared.Sign.TheVariants.{Least, Greatest}
use Rattle.scale.specs.Algebra.{Algebra, Value, Under, Laws}
use Rattle.meaning.specs.System.{share, Toward}

-- the other way
abbrev pub opposite : Sign → Sign
opposite Least = Greatest
opposite Greatest = Least

pub least_greatest : Least ≡ Greatest → ⊥
least_greatest e = let z : ◌≡◌ {A = ℕ} 0 1 = cc in omega arith

pub turned : {A : Algebra} (σ : Sign) {x y : ℕ} → Toward A σ x y → Toward A (opposite σ) y x
turned Least a = record { ordered = a.ordered }
turned Greatest a = record { ordered = a.ordered }

pub turned_back : {A : Algebra} (σ : Sign) {x y : ℕ} → Toward A (opposite σ) x y → Toward A σ y x
turned_back Least a = record { ordered = a.ordered }
turned_back Greatest a = record { ordered = a.ordered }

module _ {A : Algebra} (L : Laws A) where
  join_self : {x : ℕ} → Value A x → A.join x x ≡ x
  join_self {x} v = ap (A.join x) (sym (L.meet_join x x v v)) ∙ L.join_meet x (A.join x x) v (L.join_value x x)

  pub under_refl : {x : ℕ} → Value A x → Under A x x
  under_refl v = record { low = v; high = v; joined = join_self v }

  pub under_eq : {x y : ℕ} → Value A x → x ≡ y → Under A x y
  under_eq {x} v e = subst (Under A x) e (under_refl v)

  pub under_trans : {x y z : ℕ} → Under A x y → Under A y z → Under A x z
  under_trans {x} {y} {z} a b = record {
    low = a.low;
    high = b.high;
    joined = ap (A.join x) (sym b.joined) ∙ sym (L.join_assoc x y z a.low a.high b.high) ∙ ap (λ w. A.join w z) a.joined ∙ b.joined;
  }

  pub under_antisym : {x y : ℕ} → Under A x y → Under A y x → x ≡ y
  under_antisym {x} {y} a b = sym b.joined ∙ L.join_comm y x ∙ a.joined

  pub join_left : {x y : ℕ} → Value A x → Value A y → Under A x (A.join x y)
  join_left {x} {y} v w = record {
    low = v;
    high = L.join_value x y;
    joined = sym (L.join_assoc x x y v v w) ∙ ap (λ z. A.join z y) (join_self v);
  }

  pub join_right : {x y : ℕ} → Value A x → Value A y → Under A y (A.join x y)
  join_right {x} {y} v w = subst (Under A y) (L.join_comm y x) (join_left w v)

  pub join_least : {x y z : ℕ} → Under A x z → Under A y z → Under A (A.join x y) z
  join_least {x} {y} {z} a b = record {
    low = L.join_value x y;
    high = a.high;
    joined = L.join_assoc x y z a.low b.low a.high ∙ ap (A.join x) b.joined ∙ a.joined;
  }

  -- the order by meets
  pub under_meet : {x y : ℕ} → Under A x y → A.meet x y ≡ x
  under_meet {x} {y} a = ap (A.meet x) (sym a.joined) ∙ L.meet_join x y a.low a.high

  pub meet_under : {x y : ℕ} → Value A x → Value A y → A.meet x y ≡ x → Under A x y
  meet_under {x} {y} v w e = record {
    low = v;
    high = w;
    joined = ap (λ z. A.join z y) (sym e) ∙ L.join_comm (A.meet x y) y ∙ ap (A.join y) (L.meet_comm x y) ∙ L.join_meet y x w v;
  }

  pub meet_left : {x y : ℕ} → Value A x → Value A y → Under A (A.meet x y) x
  meet_left {x} {y} v w = record {
    low = L.meet_value x y;
    high = v;
    joined = L.join_comm (A.meet x y) x ∙ L.join_meet x y v w;
  }

  pub meet_right : {x y : ℕ} → Value A x → Value A y → Under A (A.meet x y) y
  meet_right {x} {y} v w = subst (λ z. Under A z y) (L.meet_comm y x) (meet_left w v)

  pub meet_greatest : {x y z : ℕ} → Under A z x → Under A z y → Under A z (A.meet x y)
  meet_greatest {x} {y} {z} a b =
      meet_under a.low (L.meet_value x y) (sym (L.meet_assoc z x y a.low a.high b.high) ∙ ap (λ w. A.meet w y) (under_meet a) ∙ under_meet b)

  pub lowest_under : {x : ℕ} → Value A x → Under A A.lowest x
  lowest_under v = record { low = L.lowest_value; high = v; joined = L.lowest_join _ v }

  pub under_highest : {x : ℕ} → Value A x → Under A x A.highest
  under_highest {x} v = meet_under v L.highest_value (L.meet_comm x A.highest ∙ L.highest_meet x v)

  pub complement_turns : {x y : ℕ} → Under A x y → Under A (A.complement y) (A.complement x)
  complement_turns {x} {y} a =
      meet_under (L.complement_value y) (L.complement_value x)
      (L.meet_comm (A.complement y) (A.complement x) ∙ sym (L.complement_join x y a.low a.high) ∙ ap A.complement a.joined)

  pub complement_lowest : A.complement A.lowest ≡ A.highest
  complement_lowest =
      under_antisym (under_highest (L.complement_value A.lowest))
      (rw (L.twice A.highest L.highest_value) at (complement_turns (lowest_under (L.complement_value A.highest))))

  pub meet_mono : {x y z w : ℕ} → Under A x y → Under A z w → Under A (A.meet x z) (A.meet y w)
  meet_mono a b = meet_greatest (under_trans (meet_left a.low b.low) a) (under_trans (meet_right a.low b.low) b)

  pub join_mono : {x y z w : ℕ} → Under A x y → Under A z w → Under A (A.join x z) (A.join y w)
  join_mono a b = join_least (under_trans a (join_left a.high b.high)) (under_trans b (join_right a.high b.high))

  -- What holds in both orientations.
  pub toward_refl : (σ : Sign) {x : ℕ} → Value A x → Toward A σ x x
  toward_refl Least v = record { ordered = under_refl v }
  toward_refl Greatest v = record { ordered = under_refl v }

  pub toward_trans : {σ : Sign} {x y z : ℕ} → Toward A σ x y → Toward A σ y z → Toward A σ x z
  toward_trans {σ = Least} a b = record { ordered = under_trans a.ordered b.ordered }
  toward_trans {σ = Greatest} a b = record { ordered = under_trans b.ordered a.ordered }

  pub toward_antisym : {σ : Sign} {x y : ℕ} → Toward A σ x y → Toward A σ y x → x ≡ y
  toward_antisym {σ = Least} a b = under_antisym a.ordered b.ordered
  toward_antisym {σ = Greatest} a b = under_antisym b.ordered a.ordered

  pub toward_eq : (σ : Sign) {x y : ℕ} → Value A x → x ≡ y → Toward A σ x y
  toward_eq σ {x} v e = subst (Toward A σ x) e (toward_refl σ v)

  pub toward_from : {σ : Sign} {x y : ℕ} → Toward A σ x y → Value A x
  toward_from {σ = Least} a = a.ordered.low
  toward_from {σ = Greatest} a = a.ordered.high

  pub toward_to : {σ : Sign} {x y : ℕ} → Toward A σ x y → Value A y
  toward_to {σ = Least} a = a.ordered.high
  toward_to {σ = Greatest} a = a.ordered.low

  -- what is before every value
  abbrev pub first_of : Sign → ℕ
  first_of Least = A.lowest
  first_of Greatest = A.highest

  pub first_value : (σ : Sign) → Value A (first_of σ)
  first_value Least = L.lowest_value
  first_value Greatest = L.highest_value

  pub first_toward : (σ : Sign) {x : ℕ} → Value A x → Toward A σ (first_of σ) x
  first_toward Least v = record { ordered = lowest_under v }
  first_toward Greatest v = record { ordered = under_highest v }

  -- the nearer of two values
  abbrev pub nearer : Sign → ℕ → ℕ → ℕ
  nearer Least x y = A.meet x y
  nearer Greatest x y = A.join x y

  pub nearer_value : (σ : Sign) (x y : ℕ) → Value A (nearer σ x y)
  nearer_value Least x y = L.meet_value x y
  nearer_value Greatest x y = L.join_value x y

  pub nearer_left : (σ : Sign) {x y : ℕ} → Value A x → Value A y → Toward A σ (nearer σ x y) x
  nearer_left Least v w = record { ordered = meet_left v w }
  nearer_left Greatest v w = record { ordered = join_left v w }

  pub nearer_right : (σ : Sign) {x y : ℕ} → Value A x → Value A y → Toward A σ (nearer σ x y) y
  nearer_right Least v w = record { ordered = meet_right v w }
  nearer_right Greatest v w = record { ordered = join_right v w }

  pub nearer_last : {σ : Sign} {x y z : ℕ} → Toward A σ z x → Toward A σ z y → Toward A σ z (nearer σ x y)
  nearer_last {σ = Least} a b = record { ordered = meet_greatest a.ordered b.ordered }
  nearer_last {σ = Greatest} a b = record { ordered = join_least a.ordered b.ordered }

  -- the farther of two values
  abbrev pub farther : Sign → ℕ → ℕ → ℕ
  farther Least x y = A.join x y
  farther Greatest x y = A.meet x y

  pub farther_value : (σ : Sign) (x y : ℕ) → Value A (farther σ x y)
  farther_value Least x y = L.join_value x y
  farther_value Greatest x y = L.meet_value x y

  pub farther_left : (σ : Sign) {x y : ℕ} → Value A x → Value A y → Toward A σ x (farther σ x y)
  farther_left Least v w = record { ordered = join_left v w }
  farther_left Greatest v w = record { ordered = meet_left v w }

  pub farther_right : (σ : Sign) {x y : ℕ} → Value A x → Value A y → Toward A σ y (farther σ x y)
  farther_right Least v w = record { ordered = join_right v w }
  farther_right Greatest v w = record { ordered = meet_right v w }

  pub farther_first : {σ : Sign} {x y z : ℕ} → Toward A σ x z → Toward A σ y z → Toward A σ (farther σ x y) z
  farther_first {σ = Least} a b = record { ordered = join_least a.ordered b.ordered }
  farther_first {σ = Greatest} a b = record { ordered = meet_greatest a.ordered b.ordered }

  pub farther_mono : (σ : Sign) {x y z w : ℕ} → Under A x y → Under A z w → Under A (farther σ x z) (farther σ y w)
  farther_mono Least a b = join_mono a b
  farther_mono Greatest a b = meet_mono a b

  pub share_value : (k : Kind) (w : ℕ) {v : ℕ} → Value A v → Value A (share A k w v)
  share_value AnyOf w {v} h = L.meet_value w v
  share_value AllOf w {v} h = L.join_value (A.complement w) v
  share_value Fixed w {v} h = L.meet_value w v

  -- an edge's contribution follows the value behind it
  pub share_up : (k : Kind) {w x y : ℕ} → Value A w → Under A x y → Under A (share A k w x) (share A k w y)
  share_up AnyOf v a = meet_mono (under_refl v) a
  share_up AllOf {w} v a = join_mono (under_refl (L.complement_value w)) a
  share_up Fixed v a = meet_mono (under_refl v) a

  pub share_toward : {σ : Sign} (k : Kind) {w x y : ℕ} → Value A w → Toward A σ x y → Toward A σ (share A k w x) (share A k w y)
  share_toward {σ = Least} k v a = record { ordered = share_up k v a.ordered }
  share_toward {σ = Greatest} k v a = record { ordered = share_up k v a.ordered }
