-- The tables one after another.
use Rattle.std.proofs.Common.{◌≡◌, ℕ, ◌-◌, ◌≤◌, ◌||◌, eqb, ltb, List, Some, None, Option, refl, ap, ◌∙◌, arith}
use Rattle.std.specs.Option.{option_map}
use Rattle.std.proofs.lemmas.Bool.{ltb-false, or_parts}
use Rattle.fault.specs.declared.Fault.TheVariants.{Table}
use Rattle.fault.specs.declared.TableFault.{TableFault}
use Rattle.fault.specs.declared.TableFault.TheVariants.{States, Transitions, CutOff}
use Rattle.fault.specs.First.{flag, earliest}
use Rattle.format.specs.Table.{states, transitions, table_from}
use Rattle.casefile.specs.TableFault.{cut_off, counts_fault, table_fault}
use Rattle.fault.proofs.First.{neither, flag_failed, earliest_at}

-- a table without fault is small
pub table_small : (t : List ℕ) → table_fault t ≡ None → (states t ≤ 4096) × (transitions t ≤ 16384)
table_small t h =
    let counts = (neither (counts_fault t) _ h).0 in
    let after_states = (neither (flag (cut_off t 0 4) (CutOff 0)) _ counts).1 in
    let in_states = neither (flag (eqb (states t) 0 || ltb 4096 (states t)) States) _ after_states in
    let in_transitions = neither (flag (ltb 16384 (transitions t)) Transitions) _ (neither (flag (cut_off t 4 4) (CutOff 4)) _ in_states.1).1 in
    (ltb-false _ _ (or_parts _ _ (flag_failed _ _ in_states.0)).1, ltb-false _ _ (flag_failed _ _ in_transitions.0))

-- a fault's place is there when the fault is
pub placed_none : (p : ℕ) (o : Option TableFault) → option_map (Table p) o ≡ None → o ≡ None
placed_none p (Some f) h = let z : ◌≡◌ {A = ℕ} 0 1 = cc in absurd (omega arith)
placed_none p None h = refl

-- after the tables of all places, the last one is small
pub last_small : (tables t : List ℕ) (i n : ℕ) → 1 ≤ n → n ≤ i → earliest i (λ p. option_map (Table p) (table_fault (table_from p tables))) ≡ None
    → t ≡ table_from (n - 1) tables → (states t ≤ 4096) × (transitions t ≤ 16384)
last_small tables t i n b l h e =
    table_small t (ap table_fault e ∙ placed_none (n - 1) _ (earliest_at _ i (n - 1) h (omega arith)))
