-- The places left as a number: bit p is 1 where place p is left.
use Rattle.std.specs.Prelude.{ℕ, ◌-◌, ◌/◌, ◌%◌, ◌^◌, ◌==◌, bit_and}
use Rattle.meaning.specs.Network.{Places}

abbrev pub left_places : ℕ → Places
left_places l p = l / 2 ^ p % 2 == 1

-- all of the first n places
abbrev pub all_left : ℕ → ℕ
all_left n = 2 ^ n - 1

-- without place p, of at most eight
abbrev pub left_without : ℕ → ℕ → ℕ
left_without l p = bit_and l (255 - 2 ^ p)
