-- A code of 64 bits as sixteen hexadecimal digits.
use Rattle.std.specs.Prelude.{ℕ, ◌+◌, ◌-◌, ◌*◌, ◌/◌, ◌%◌, ◌^◌, cond, List, [], ◌∷◌, nat_lt}
use Rattle.lines.specs.Gathered.{gathered}

-- the digit of a number below 16: 0 to 9, then A to F
abbrev pub capital : ℕ → ℕ
capital d = cond (nat_lt d 10) (48 + d) (55 + d)

-- digit k from the left; sixteen of them have four bits each
abbrev pub hex_digit : ℕ → ℕ → ℕ
hex_digit x k = capital (x / 2 ^ (60 - 4 * k) % 16)

unfoldable pub hex : ℕ → List ℕ
hex x = gathered 16 (λ k. hex_digit x k ∷ [])
