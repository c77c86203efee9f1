-- Why a process is refused: its shape first, then its transitions.
use Rattle.std.specs.Prelude.{ℕ, not, ◌||◌, length, Some, None, Option, ◌==◌, nat_lt}
use Rattle.std.specs.List.{slice_get}
use Rattle.fault.specs.declared.Fault.{Fault}
use Rattle.fault.specs.declared.Fault.TheVariants.{Shape, Step}
use Rattle.process.specs.Lts.{Lts}
use Rattle.process.specs.declared.Transition.{Transition}
use Rattle.scale.specs.Algebra.{Algebra}
use Rattle.meaning.specs.Check.{transition_test}
use Rattle.fault.specs.First.{flag, or_else, earliest}

-- 9: no states or over 65,536, an initial state that is none, or over 65,535 transitions in a state
abbrev pub shape_fault : Lts → Option Fault
shape_fault l =
    or_else (flag (l.states == 0 || nat_lt 65536 l.states) (Shape 0))
    (or_else (flag (not (nat_lt l.initial l.states)) (Shape 0))
    (earliest l.states (λ s. flag (nat_lt 65535 (length (l.transitions s))) (Shape s))))

-- transition e of state s is not what it must be
abbrev pub step_wrong : Algebra → Lts → ℕ → ℕ → Option Transition → Option Fault
step_wrong A l s e None = None
step_wrong A l s e (Some t) = flag (not (transition_test A l t)) (Step s e)

-- 10: a transition with label 65,535, a target past the states, or a weight that is no value
abbrev pub step_fault : Algebra → Lts → Option Fault
step_fault A l = earliest l.states (λ s. earliest (length (l.transitions s)) (λ e. step_wrong A l s e (slice_get (l.transitions s) e)))

abbrev pub process_fault : Algebra → Lts → Option Fault
process_fault A l = or_else (shape_fault l) (step_fault A l)
