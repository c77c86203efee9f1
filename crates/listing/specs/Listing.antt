-- The lines of a session: a call's name, the place if one is removed, and the counts of what was written, in decimal
-- with one space between, and a line feed.
use Rattle.std.specs.Prelude.{ℕ, List, ◌++◌, codes, decimal}
use Rattle.calls.specs.declared.remainder.Remainder.{Remainder}

-- the nodes and edges of a remainder
abbrev pub counts : Remainder → List ℕ
counts r = decimal r.nodes ++ (codes " " ++ (decimal r.edges ++ codes "\n"))

abbrev pub open_line : Remainder → List ℕ
open_line r = codes "open " ++ counts r

abbrev pub remove_line : ℕ → Remainder → List ℕ
remove_line p r = codes "remove " ++ (decimal p ++ (codes " " ++ counts r))
