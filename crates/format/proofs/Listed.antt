-- The transitions that a table lists for a state.
use Rattle.std.proofs.Common.{◌≡◌, ℕ, ◌+◌, ◌-◌, ◌<◌, ◌≤◌, List, map, length, Some, ap, ◌∙◌, inl, inr, arith}
use Rattle.std.specs.List.{slice_get, range_with_len}
use Rattle.std.proofs.lemmas.Bool.{cond-true, lt-ltb, cases_lt}
use Rattle.std.proofs.lemmas.List.FromFn.{length-map-range_with_len, get_or-map-range_with_len}
use Rattle.std.proofs.lemmas.Option.{slice_get-get_or}
use Rattle.process.specs.declared.Transition.{Transition}
use Rattle.format.specs.Table.{states, start, transition_row, table_lts, table_bounded}

-- state s lists the transitions from its start up to the next one
abbrev run : List ℕ → ℕ → List Transition
run t s = map (transition_row t) (range_with_len (start t s) (start t (s + 1) - start t s))

pub listed : (t : List ℕ) (s : ℕ) → s < states t → (table_lts t).transitions s ≡ run t s
listed t s h = cond-true _ _ _ (lt-ltb s (states t) h)

pub listed_count : (t : List ℕ) (s : ℕ) → s < states t → length ((table_lts t).transitions s) ≡ start t (s + 1) - start t s
listed_count t s h = ap length (listed t s h) ∙ length-map-range_with_len (transition_row t) (start t s) _

pub listed_none : (t : List ℕ) (s : ℕ) → states t ≤ s → length ((table_lts t).transitions s) ≡ 0
listed_none t s h = ap length (table_bounded t s h)

pub listed_at : (t : List ℕ) (s e : ℕ) → e < length ((table_lts t).transitions s)
    → slice_get ((table_lts t).transitions s) e ≡ Some (transition_row t (start t s + e))
listed_at t s e h = elim (cases_lt s (states t)) [
  | inl below ↦
      let e_in : e < start t (s + 1) - start t s = omega (arith, listed_count t s below) in
      let long : e < length (run t s) = omega (arith, length-map-range_with_len (transition_row t) (start t s) (start t (s + 1) - start t s)) in
      ap (λ l. slice_get l e) (listed t s below)
      ∙ slice_get-get_or (run t s) e (transition_row t 0) long
      ∙ ap Some (get_or-map-range_with_len (transition_row t) (start t s) (start t (s + 1) - start t s) e (start t s + e) (transition_row t 0) e_in (omega arith))
  | inr past ↦ absurd (omega (arith, listed_none t s past))
]
