-- The places left as a number, bit by bit.
use Rattle.std.proofs.Common.{◌≡◌, ℕ, ◌-◌, ◌/◌, ◌%◌, ◌^◌, ◌<◌, ◌≤◌, min, true, eqb, ltb, sym, ap, ◌∙◌, ⊎_elim, arith, pow_mono}
use mathlib.Core.Path.{fun_ext}
use native.Mathlib.Nat.{div-eq_of_lt}
use lib.Bits.{bit_and}
use lib.Pow.{pow-lt}
use Rattle.std.proofs.lemmas.Bool.{cases_eq, cases_lt, eq-eqb, ne_eqb, eqb-true, lt-ltb, le-ltb}
use Rattle.scale.specs.Bitwise.{bit_of_and, bit_complement}
use Rattle.meaning.specs.Quotient.{without}
use Rattle.meaning.proofs.Cut.{pow_bit_same, pow_bit_other, zero_bit}
use Rattle.meaning.proofs.Removal.{without_same, without_other}
use Rattle.calls.specs.Left.{left_places, all_left, left_without}

raise : (j k : ℕ) → j ≤ k → 2 ^ j ≤ 2 ^ k
raise j k h = pow_mono h

-- a number below 2 ^ n has no bit from n on
pub no_bit : (l n p : ℕ) → l < 2 ^ n → n ≤ p → l / 2 ^ p % 2 ≡ 0
no_bit l n p small past =
    let low : l < 2 ^ p = omega (arith, small, raise n p past) in
    ap (λ x. x % 2) (div-eq_of_lt low)

pub left_below : (l n p : ℕ) → l < 2 ^ n → left_places l p ≡ true → p < n
left_below l n p small t =
    ⊎_elim (λ h. h) (λ past. absurd (omega (arith, no_bit l n p small past, eqb-true (l / 2 ^ p % 2) 1 t))) (cases_lt p n)

-- all of the first n places
pub all_left_is : (n p : ℕ) → left_places (all_left n) p ≡ ltb p n
all_left_is n p =
    ⊎_elim
    (λ lt.
    let one : (2 ^ n - 1) / 2 ^ p % 2 ≡ 1 = ap (λ x. x / 2 ^ p % 2) (omega arith) ∙ bit_complement p n 0 lt (omega (arith, raise 0 n (omega arith))) ∙ ap (λ b. 1 - b) (zero_bit p) in
    eq-eqb ((2 ^ n - 1) / 2 ^ p % 2) 1 one ∙ sym (lt-ltb p n lt))
    (λ past.
    let none : (2 ^ n - 1) / 2 ^ p % 2 ≡ 0 = no_bit (2 ^ n - 1) n p (omega (arith, raise 0 n (omega arith))) past in
    ne_eqb ((2 ^ n - 1) / 2 ^ p % 2) 1 (λ e. absurd (omega arith)) ∙ sym (le-ltb p n past))
    (cases_lt p n)

-- without a place
pub left_without_is : (l p : ℕ) → l < 2 ^ 8 → p < 8 → left_places (left_without l p) ≡ without (left_places l) p
left_without_is l p small near = fun_ext λ x.
    ⊎_elim
    (λ e.
    let gone : bit_and l (255 - 2 ^ p) / 2 ^ x % 2 ≡ 0 =
    bit_of_and x l (255 - 2 ^ p)
    ∙ ap (min (l / 2 ^ x % 2)) (ap (λ y. (255 - 2 ^ p) / 2 ^ y % 2) e ∙ bit_complement p 8 (2 ^ p) near (pow-lt near) ∙ ap (λ b. 1 - b) (pow_bit_same p)) ∙ omega arith in
    ap (λ b. eqb b 1) gone ∙ sym (ap (without (left_places l) p) e ∙ without_same (left_places l) p))
    (λ apart.
    ap (λ b. eqb b 1) (kept x apart) ∙ sym (without_other (left_places l) p x apart))
    (cases_eq x p)
  where
    kept : (x : ℕ) → (x ≡ p → ⊥) → bit_and l (255 - 2 ^ p) / 2 ^ x % 2 ≡ l / 2 ^ x % 2
    kept x apart =
        bit_of_and x l (255 - 2 ^ p)
        ∙ ⊎_elim
        (λ near-x.
        let one : (255 - 2 ^ p) / 2 ^ x % 2 ≡ 1 = bit_complement x 8 (2 ^ p) near-x (pow-lt near) ∙ ap (λ b. 1 - b) (pow_bit_other x p apart) in
        omega arith)
        (λ past. omega (arith, no_bit l 8 x small past))
        (cases_lt x 8)
