-- The tables of a case file: a check finds nothing exactly where its rule is kept.
use Rattle.std.proofs.Common.{◌≡◌, ℕ, ◌+◌, ◌-◌, ◌<◌, ◌≤◌, List, length, None, ap, ◌∙◌, inl, inr, arith}
use Rattle.std.proofs.lemmas.Bool.{cases_lt}
use Rattle.std.proofs.lemmas.Bool.Decides.{nat_tests}
use Rattle.fault.specs.First.{earliest}
use Rattle.format.specs.Table as table
use Rattle.format.specs.Table.{states, transitions, start, size}
use Rattle.casefile.specs.TableFault.{counts_fault, start_fault, transition_fault, table_fault, excess_fault}
use Rattle.casefile.specs.WellFormed.{FineTable}
use Rattle.fault.proofs.First.{neither, first_later, earliest_at, earliest_all}
use Rattle.casefile.proofs.Tables.{table_small}

-- what each check shows
rises_at : (t : List ℕ) (i : ℕ) → start_fault t (i + 1) ≡ None → start t i ≤ start t (i + 1)
rises_at t i h =
    let e : (i + 1) - 1 ≡ i = omega arith in
    let rise : start t ((i + 1) - 1) ≤ start t (i + 1) = grind (arith, nat_tests) in
    rw e at rise

begins_at : (t : List ℕ) → start_fault t 0 ≡ None → start t 0 ≡ 0
begins_at t h = grind (arith, nat_tests)

ends_at : (t : List ℕ) → start_fault t (states t) ≡ None → (start t (states t) ≡ transitions t) × (table.start_at (states t) + 4 ≤ length t)
ends_at t h = (grind (arith, nat_tests), grind (arith, nat_tests))

held_at : (t : List ℕ) (k : ℕ) → transition_fault t k ≡ None → table.transition_at t k + 14 ≤ length t
held_at t k h = grind (arith, nat_tests)

counts_states : (t : List ℕ) → counts_fault t ≡ None → (1 ≤ states t) × (table.initial t < states t)
counts_states t h = (grind (arith, nat_tests), grind (arith, nat_tests))

-- what each check asks
counts_none : (t : List ℕ) → FineTable t → counts_fault t ≡ None
counts_none t f = grind (arith, nat_tests)

transition_none : (t : List ℕ) → FineTable t → (k : ℕ) → k < transitions t → transition_fault t k ≡ None
transition_none t f k l = grind (arith, nat_tests)

start_none : (t : List ℕ) → FineTable t → (i : ℕ) → i < states t + 1 → start_fault t i ≡ None
start_none t f i l =
    let first : i ≡ 0 → start t i ≡ 0 = λ e. ap (start t) e ∙ f.begins in
    let rise : 0 < i → start t (i - 1) ≤ start t i = λ b.
    let e : (i - 1) + 1 ≡ i = omega arith in
    rw e at (f.rises (i - 1) (omega arith)) in
    let last : i ≡ states t → start t i ≡ transitions t = λ e. ap (start t) e ∙ f.ends in
    grind (arith, nat_tests)

-- the file holds the starts, and every transition behind them
held : (t : List ℕ) → start_fault t (states t) ≡ None → ((k : ℕ) → k < transitions t → transition_fault t k ≡ None) → size t ≤ length t
held t s h = elim (cases_lt 0 (transitions t)) [
  | inl some ↦ omega (arith, held_at t (transitions t - 1) (h (transitions t - 1) (omega arith)))
  | inr none ↦ omega (arith, (ends_at t s).1)
]

pub table_fine : (t : List ℕ) → table_fault t ≡ None → FineTable t
table_fine t h =
    let parts = neither (counts_fault t) _ h in
    let lists = neither (earliest (states t + 1) (start_fault t)) _ parts.1 in
    let small = table_small t h in
    let counts = counts_states t parts.0 in
    let starts : (i : ℕ) → i < states t + 1 → start_fault t i ≡ None = λ i l. earliest_at _ _ i lists.0 l in
    record {
      whole = held t (starts (states t) (omega arith)) (λ k l. earliest_at _ _ k lists.1 l);
      states = (counts.0, small.0);
      transitions = small.1;
      initial = counts.1;
      begins = begins_at t (starts 0 (omega arith));
      rises = λ i l. rises_at t i (starts (i + 1) (omega arith));
      ends = (ends_at t (starts (states t) (omega arith))).0;
    }

pub table_none : (t : List ℕ) → FineTable t → table_fault t ≡ None
table_none t f =
    first_later _ _ (counts_none t f)
    (first_later _ _ (earliest_all _ _ (start_none t f)) (earliest_all _ _ (transition_none t f)))

pub excess_fine : (t : List ℕ) → excess_fault t ≡ None → length t ≤ size t
excess_fine t h = grind (arith, nat_tests)

pub excess_none : (t : List ℕ) → length t ≤ size t → excess_fault t ≡ None
excess_none t h = grind (arith, nat_tests)
