-- What a process means: a labelled transition system whose transitions have weights.
use Rattle.std.specs.Prelude.{◌≡◌, ℕ, ◌≤◌, List, []}
use Rattle.process.specs.declared.Transition.{Transition}

-- States are the numbers below `states`; each has an ordered list of transitions.
pub record Lts : Type 0 where
  pub states : ℕ
  pub initial : ℕ
  pub transitions : ℕ → List Transition

-- a state from the number of states on has no transitions
abbrev pub Bounded : Lts → Type 0
Bounded l = (s : ℕ) → l.states ≤ s → l.transitions s ≡ []
