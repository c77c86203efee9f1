-- What a read of the bytes answers.
use Rattle.std.proofs.Common.{◌≡◌, ℕ, ◌+◌, List, get_or, drop, ap, ◌∙◌, arith}
use Rattle.std.proofs.lemmas.List.{get_or-drop}
use Rattle.format.specs.Bytes.{byte, two, four, eight}

-- a number in what stands from a place on
pub byte_tail : (xs t : List ℕ) (i k : ℕ) → t ≡ drop i xs → byte t k ≡ byte xs (i + k)
unfolding byte
byte_tail xs t i k e = ap (λ l. get_or l k 0) e ∙ get_or-drop i xs k 0

pub two_tail : (xs t : List ℕ) (i k : ℕ) → t ≡ drop i xs → two t k ≡ two xs (i + k)
unfolding two
two_tail xs t i k e =
    let next : byte t (k + 1) ≡ byte xs (i + k + 1) = byte_tail xs t i (k + 1) e ∙ ap (byte xs) (omega arith) in
    omega (arith, byte_tail xs t i k e)

pub four_tail : (xs t : List ℕ) (i k : ℕ) → t ≡ drop i xs → four t k ≡ four xs (i + k)
unfolding four
four_tail xs t i k e =
    let next : two t (k + 2) ≡ two xs (i + k + 2) = two_tail xs t i (k + 2) e ∙ ap (two xs) (omega arith) in
    omega (arith, two_tail xs t i k e)

-- a number at a place from the one at the start of what stands there
pub two_at : (xs t : List ℕ) (i : ℕ) → t ≡ drop i xs → two t 0 ≡ two xs i
two_at xs t i e = two_tail xs t i 0 e ∙ ap (two xs) (omega arith)

pub four_at : (xs t : List ℕ) (i : ℕ) → t ≡ drop i xs → four t 0 ≡ four xs i
four_at xs t i e = four_tail xs t i 0 e ∙ ap (four xs) (omega arith)

pub eight_at : (xs t : List ℕ) (i : ℕ) → t ≡ drop i xs → eight t 0 ≡ eight xs i
unfolding eight
eight_at xs t i e = omega (arith, four_at xs t i e, four_tail xs t i 4 e)
