-- The bitwise operations of a code, one bit at a time: codes are equal when their bits are, so the laws are those of single bits.
use Rattle.std.specs.Prelude.{◌≡◌, ℕ, zero, suc, ◌+◌, ◌-◌, ◌/◌, ◌%◌, ◌^◌, ◌<◌, ◌≤◌, min, max, count_ones}
use Rattle.std.proofs.Common.{sym, ap, ◌∙◌, pow-suc, one-add, arith, pow_mono, shr-shr}
use Rattle.std.specs.Int.Bits.{bit_and, bit_or, and_step, or_step, and_lt}
use Rattle.std.proofs.lemmas.Nat.{and_shr, or_shr, or_lt}
use Rattle.std.specs.Int.Count.{ones_step}

-- bit v of a number
abbrev pub bit : ℕ → ℕ → ℕ
bit v x = x / 2 ^ v % 2

-- the bits of the half are those of the number from bit 1 on
pub bit_half : (v x : ℕ) → bit v (x / 2) ≡ bit (suc v) x
bit_half v x = ap (λ n. n % 2) (shr-shr x 1 v) ∙ ap (λ n. x / 2 ^ n % 2) (one-add v)

-- ---- the bits of each operation

pub bit_of_or : (v x y : ℕ) → bit v (bit_or x y) ≡ max (bit v x) (bit v y)
bit_of_or v x y = rw or_shr (omega (arith, or_step (x / 2 ^ v) (y / 2 ^ v)))

pub bit_of_and : (v x y : ℕ) → bit v (bit_and x y) ≡ min (bit v x) (bit v y)
bit_of_and v x y = rw and_shr (omega (arith, and_step (x / 2 ^ v) (y / 2 ^ v)))

-- the complement among the numbers of k bits
pub bit_complement : (v k x : ℕ) → v < k → x < 2 ^ k → bit v (2 ^ k - 1 - x) ≡ 1 - bit v x
bit_complement zero zero x hv hx = omega arith
bit_complement (suc v) zero x hv hx = omega arith
bit_complement zero (suc k) x hv hx = omega (arith, pow-suc 2 k)
bit_complement (suc v) (suc k) x hv hx =
    let half : (2 ^ suc k - 1 - x) / 2 ≡ 2 ^ k - 1 - x / 2 = omega (arith, pow-suc 2 k) in
    sym (bit_half v (2 ^ suc k - 1 - x)) ∙ ap (bit v) half
    ∙ bit_complement v k (x / 2) (omega arith) (omega (arith, pow-suc 2 k))
    ∙ ap (λ b. 1 - b) (bit_half v x)

-- ---- numbers with the same bits are equal

pub same_bits : (k x y : ℕ) → x < 2 ^ k → y < 2 ^ k → ((v : ℕ) → v < k → bit v x ≡ bit v y) → x ≡ y
same_bits zero x y hx hy same = omega arith
same_bits (suc k) x y hx hy same =
    let low : bit 0 x ≡ bit 0 y = same 0 (omega arith) in
    let high : x / 2 ≡ y / 2 =
    same_bits k (x / 2) (y / 2) (omega (arith, pow-suc 2 k)) (omega (arith, pow-suc 2 k))
    (λ v h. bit_half v x ∙ same (suc v) (omega arith) ∙ sym (bit_half v y)) in
    omega arith

below_pow : (n : ℕ) → n < 2 ^ n
below_pow zero = omega arith
below_pow (suc n) = omega (arith, below_pow n, pow-suc 2 n)

pub all_bits : (x y : ℕ) → ((v : ℕ) → bit v x ≡ bit v y) → x ≡ y
all_bits x y same =
    let px : 2 ^ x ≤ 2 ^ (x + y) = pow_mono (omega arith) in
    let py : 2 ^ y ≤ 2 ^ (x + y) = pow_mono (omega arith) in
    same_bits (x + y) x y (omega (arith, below_pow x)) (omega (arith, below_pow y)) (λ v h. same v)

-- ---- the laws; those with no bound hold of all numbers

pub or_assoc : (x y z : ℕ) → bit_or (bit_or x y) z ≡ bit_or x (bit_or y z)
or_assoc x y z = all_bits _ _ (λ v. simp bit_of_or (omega arith))

pub and_assoc : (x y z : ℕ) → bit_and (bit_and x y) z ≡ bit_and x (bit_and y z)
and_assoc x y z = all_bits _ _ (λ v. simp bit_of_and (omega arith))

pub or_and : (x y : ℕ) → bit_or x (bit_and x y) ≡ x
or_and x y = all_bits _ _ (λ v. simp (bit_of_or, bit_of_and) (omega arith))

pub and_or : (x y : ℕ) → bit_and x (bit_or x y) ≡ x
and_or x y = all_bits _ _ (λ v. simp (bit_of_or, bit_of_and) (omega arith))

pub and_distributes : (x y z : ℕ) → bit_and x (bit_or y z) ≡ bit_or (bit_and x y) (bit_and x z)
and_distributes x y z = all_bits _ _ (λ v. simp (bit_of_or, bit_of_and) (omega arith))

-- the complement of a join is the meet of the complements
pub complement_or : (k x y : ℕ) → x < 2 ^ k → y < 2 ^ k → 2 ^ k - 1 - bit_or x y ≡ bit_and (2 ^ k - 1 - x) (2 ^ k - 1 - y)
complement_or k x y hx hy =
    let hor = or_lt k x y hx hy in
    same_bits k _ _ (omega arith) (and_lt k _ _ (omega arith) (omega arith))
    (λ v h.
    omega (
      arith,
      bit_complement v k (bit_or x y) h hor,
      bit_of_or v x y,
      bit_of_and v (2 ^ k - 1 - x) (2 ^ k - 1 - y),
      bit_complement v k x h hx,
      bit_complement v k y h hy,
    ))

-- a number whose bits all stand in another has fewer ones, or is the other
pub ones_rise : (k x y : ℕ) → x < 2 ^ k → y < 2 ^ k → bit_or x y ≡ y → (count_ones x ≤ count_ones y) × (count_ones x ≡ count_ones y → x ≡ y)
ones_rise zero x y hx hy e =
    let s : x ≡ y = omega arith in (rw s (omega arith), λ _. s)
ones_rise (suc k) x y hx hy e =
    let high : bit_or (x / 2) (y / 2) ≡ y / 2 = omega (arith, or_step x y) in
    let low : x % 2 ≤ y % 2 = omega (arith, or_step x y) in
    let rest = ones_rise k (x / 2) (y / 2) (omega (arith, pow-suc 2 k)) (omega (arith, pow-suc 2 k)) high in
    let ox = ones_step x in
    let oy = ones_step y in (
      omega (arith, rest.0),
      λ same. let halves : x / 2 ≡ y / 2 = rest.1 (omega (arith, rest.0)) in omega (arith, ap count_ones halves),
    )
