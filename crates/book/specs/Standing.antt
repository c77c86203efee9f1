-- What a rule book shows of its fields, and what holds of every rule book.
use Rattle.std.specs.Prelude.{◌≡◌, ◌≤◌, true, vec_items, vec_capacity}
use Rattle.meaning.specs.Check.{every}
use Rattle.meaning.specs.Network.{Book}
use Rattle.book.specs.Parts.{has_part}
use Rattle.book.specs.declared.rule_book.RuleBook.TheInside.{Inside}

abbrev pub shown : Inside → Book
shown b = record { places = b.places; rules = vec_items b.rules; signs = vec_items b.signs }

-- there is room for the rules and blocks of any case, and every rule has a participant within the places
pub record Standing (b : Inside) : Type 0 where
  pub rule_room : 256 ≤ vec_capacity b.rules
  pub sign_room : 16 ≤ vec_capacity b.signs
  pub parts : every (has_part b.places) (vec_items b.rules) ≡ true
