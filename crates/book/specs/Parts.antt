-- A rule with a participant within the places of its book.
use Rattle.std.specs.Prelude.{ℕ, Bool}
use Rattle.records.specs.Codes.{takes_part}
use Rattle.records.specs.declared.Rule.{Rule}
use Rattle.meaning.specs.Quotient.{any}

-- one of the first `places` places takes part in it
abbrev pub has_part : ℕ → Rule → Bool
has_part places r = any places (takes_part r)
