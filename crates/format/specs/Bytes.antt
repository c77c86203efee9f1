-- Numbers in bytes, the least byte first. What stands past the end is read as 0.
use Rattle.std.specs.Prelude.{ℕ, ◌+◌, ◌*◌, ◌^◌, List, slice_index}

unfoldable pub byte : List ℕ → ℕ → ℕ
byte bs at = slice_index bs at

unfoldable pub two : List ℕ → ℕ → ℕ
two bs at = byte bs at + byte bs (at + 1) * 2 ^ 8

unfoldable pub four : List ℕ → ℕ → ℕ
four bs at = two bs at + two bs (at + 2) * 2 ^ 16

unfoldable pub eight : List ℕ → ℕ → ℕ
eight bs at = four bs at + four bs (at + 4) * 2 ^ 32
