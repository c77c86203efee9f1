-- What a process means when one variant alone is looked at.
use Rattle.std.proofs.Common.{ap}
use Rattle.std.specs.Prelude.{ℕ, ◌/◌, ◌%◌, ◌^◌, cond, map, nat_lt}
use Rattle.process.specs.Lts.{Lts, Bounded}
use Rattle.process.specs.declared.Transition.{Transition}

-- bit v of a code; there is none above 63
abbrev pub bit : ℕ → ℕ → ℕ
bit v w = cond (nat_lt v 64) (w / 2 ^ v % 2) 0

-- the transition with bit v of its weight
abbrev pub cut_transition : ℕ → Transition → Transition
cut_transition v t = record { label = t.label; weight = bit v t.weight; target = t.target }

abbrev pub single_variant : ℕ → Lts → Lts
single_variant v l = record {
  states = l.states;
  initial = l.initial;
  transitions = λ s. map (cut_transition v) (l.transitions s);
}

pub single_variant_bounded : (v : ℕ) (l : Lts) → Bounded l → Bounded (single_variant v l)
single_variant_bounded v l bounded s h = ap (map (cut_transition v)) (bounded s h)
