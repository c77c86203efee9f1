-- A rule book that holds no case, and which case one can hold.
use Rattle.std.specs.Prelude.{Bool, ◌&&◌, List, ℕ, [], nat_le}
use Rattle.format.specs.Layout.{rule_row}
use Rattle.format.specs.declared.header.Header.{Header}
use Rattle.meaning.specs.Check.{all}
use Rattle.meaning.specs.Network.{Book}
use Rattle.book.specs.Parts.{has_part}

-- a book that holds no case yet
abbrev pub blank : Book
blank = record { places = 0; rules = []; signs = [] }

-- a book can hold the case: there is room for it, and every rule has a participant within the places
abbrev pub holds : List ℕ → Header → Bool
holds bs h = nat_le h.rules 256 && (nat_le h.blocks 16 && all h.rules (λ r. has_part h.places (rule_row bs h r)))
