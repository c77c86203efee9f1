-- Sixteen digits with zeros in front are the digits of the definition.
use Rattle.std.proofs.Common.{◌≡◌, ℕ, zero, suc, ◌+◌, ◌-◌, ◌*◌, ◌/◌, ◌%◌, ◌^◌, ◌<◌, ◌≤◌, true, false, List, [], ◌∷◌, ◌++◌, length, replicate, refl, sym, ap, ◌∙◌, eq-eqb, ne_eqb, inl, inr, pow-suc, add-one, append_assoc, append-nil, arith}
use Rattle.std.specs.Fmt.{digits, digits_onto, digit_glyph, padded_integral, format_spec, char_count}
use Rattle.std.proofs.lemmas.Bool.{cases_eq, cond-true, cond-false}
use Rattle.std.proofs.lemmas.Nat.{shr-shr}
use Rattle.std.proofs.lemmas.List.{replicate_more}
use Rattle.lines.specs.Gathered.{gathered}
use Rattle.lines.specs.Hex.{hex, hex_digit}

-- the last k digits of n before what follows
unfoldable last_digits : ℕ → ℕ → List ℕ → List ℕ
last_digits zero n rest = rest
last_digits (suc k) n rest = last_digits k (n / 16) (digit_glyph true (n % 16) ∷ rest)

-- those of 0 are zeros
zeros : (k : ℕ) (rest : List ℕ) → replicate k 48 ++ rest ≡ last_digits k 0 rest
unfolding last_digits
zeros zero rest = refl
zeros (suc k) rest =
    let last : replicate k 48 ++ (48 ∷ []) ≡ replicate (suc k) 48 = rw add-one at (replicate_more {X = ℕ} k 48) in
    ap (λ l. l ++ rest) (sym last) ∙ append_assoc (replicate k 48) (48 ∷ []) rest ∙ zeros k (48 ∷ rest)

-- what is written of n before what follows: one digit, or more than one
unfoldable written : ℕ → ℕ → List ℕ → List ℕ
written m n rest = digits_onto (suc m) 16 true n rest

one : (m n : ℕ) (rest : List ℕ) → n / 16 ≡ 0 → written m n rest ≡ digit_glyph true (n % 16) ∷ rest
unfolding written
one m n rest e = cond-true _ _ _ (eq-eqb _ 0 e)

more : (m n : ℕ) (rest : List ℕ) → (n / 16 ≡ 0 → ⊥) → written (suc m) n rest ≡ written m (n / 16) (digit_glyph true (n % 16) ∷ rest)
unfolding written
more m n rest e = cond-false _ _ _ (ne_eqb _ 0 e)

-- text with zeros in front up to a width
abbrev at_width : ℕ → List ℕ → List ℕ
at_width w text = replicate (w - length text) 48 ++ text

filled_one : (k m n : ℕ) (rest : List ℕ) → n / 16 ≡ 0 → at_width (suc k + length rest) (written m n rest) ≡ last_digits (suc k) n rest
unfolding last_digits
filled_one k m n rest e =
    let z : suc k + length rest - suc (length rest) ≡ k = omega arith in
    rw (one m n rest e, e, z) (zeros k _)

filled : (k m n : ℕ) (rest : List ℕ) → k ≤ m → n < 16 ^ suc k → at_width (suc k + length rest) (written m n rest) ≡ last_digits (suc k) n rest
unfolding last_digits
filled zero m n rest l s = filled_one zero m n rest (omega arith)
filled (suc k) zero n rest l s = absurd (omega arith)
filled (suc k) (suc m) n rest l s = elim (cases_eq (n / 16) 0) [
  | inl e ↦ filled_one (suc k) (suc m) n rest e
  | inr other ↦
      let w : suc (suc k) + length rest ≡ suc k + suc (length rest) = omega arith in
      rw (more m n rest other, w) (filled k m (n / 16) (digit_glyph true (n % 16) ∷ rest) (omega arith) (omega (arith, pow-suc 16 (suc k))))
]

-- the digits gathered from the left are the last of what stands before
from_left : (x k : ℕ) (rest : List ℕ) → k ≤ 16 → gathered k (λ j. hex_digit x j ∷ []) ++ rest ≡ last_digits k (x / 2 ^ (64 - 4 * k)) rest
unfolding gathered last_digits
from_left x zero rest l = refl
from_left x (suc k) rest l =
    let after : x / 2 ^ (60 - 4 * k) / 16 ≡ x / 2 ^ (60 - 4 * k + 4) = shr-shr x (60 - 4 * k) 4 in
    let e : 64 - 4 * suc k ≡ 60 - 4 * k = omega arith in
    let f : 60 - 4 * k + 4 ≡ 64 - 4 * k = omega arith in
    let before : List ℕ = gathered k (λ j. hex_digit x j ∷ []) in
    append_assoc before (hex_digit x k ∷ []) rest ∙ rw (e, after, f) (from_left x k (hex_digit x k ∷ rest) (omega arith))

-- the width that the format asks for
padded : (text : List ℕ) → padded_integral (format_spec 32 0 4 16 (2 ^ 64 - 1)) false [] text ≡ at_width 16 text
unfolding padded_integral char_count
padded text =
    let none : 16 - length text - 0 - 0 ≡ 16 - length text = omega arith in
    ap (λ n. replicate n 48 ++ (text ++ [])) none ∙ ap (λ l. replicate (16 - length text) 48 ++ l) (append-nil text)

all_written : (x : ℕ) → digits 16 true x ≡ written 63 x []
unfolding digits written
all_written x = refl

-- what the format writes
pub sixteen : (x : ℕ) → x < 2 ^ 64 → padded_integral (format_spec 32 0 4 16 (2 ^ 64 - 1)) false [] (digits 16 true x) ≡ hex x
unfolding hex
sixteen x s =
    let whole : x / 2 ^ (64 - 4 * 16) ≡ x = omega arith in
    let gathered_is = rw whole at (from_left x 16 [] (omega arith)) in
    padded _ ∙ ap (at_width 16) (all_written x) ∙ filled 15 63 x [] (omega arith) s ∙ sym gathered_is ∙ append-nil _
