-- The table of one place: its fields, and the process that it means.
-- A table is given by the bytes t from its own start on, to the end of the file.
use Rattle.std.specs.Prelude.{ℕ, zero, suc, ◌+◌, ◌-◌, ◌*◌, cond, List, [], map, drop, nat_lt}
use Rattle.std.specs.List.{range_with_len}
use Rattle.std.proofs.lemmas.Bool.{cond-false, le-ltb}
use Rattle.process.specs.Lts.{Lts, Bounded}
use Rattle.process.specs.declared.Transition.{Transition}
use Rattle.format.specs.Bytes.{two, four, eight}

-- three numbers of four bytes, then a start for each state and one more, then the transitions
abbrev pub states : List ℕ → ℕ
states t = four t 0

abbrev pub transitions : List ℕ → ℕ
transitions t = four t 4

abbrev pub initial : List ℕ → ℕ
initial t = four t 8

abbrev pub start_at : ℕ → ℕ
start_at i = 12 + 4 * i

-- the number of state i's first transition; the transitions of a state end where the next one's start
abbrev pub start : List ℕ → ℕ → ℕ
start t i = four t (start_at i)

-- a transition is a label of two bytes, a target of four and a weight of eight
abbrev pub transition_at : List ℕ → ℕ → ℕ
transition_at t k = start_at (states t + 1) + 14 * k

abbrev pub transition_row : List ℕ → ℕ → Transition
transition_row t k = record {
  label = two t (transition_at t k);
  target = four t (transition_at t k + 2);
  weight = eight t (transition_at t k + 6);
}

-- the length of the whole table
abbrev pub size : List ℕ → ℕ
size t = transition_at t (transitions t)

-- the process that the table means
abbrev pub table_lts : List ℕ → Lts
table_lts t = record {
  states = states t;
  initial = initial t;
  transitions = λ s. cond (nat_lt s (states t)) (map (transition_row t) (range_with_len (start t s) (start t (s + 1) - start t s))) [];
}

-- no state past the table's states lists anything
pub table_bounded : (t : List ℕ) → Bounded (table_lts t)
table_bounded t s h = cond-false _ _ _ (le-ltb s (states t) h)

-- the tables follow one another without gaps: the bytes from table p on
unfoldable pub table_from : ℕ → List ℕ → List ℕ
table_from zero t = t
table_from (suc p) t = table_from p (drop (size t) t)
