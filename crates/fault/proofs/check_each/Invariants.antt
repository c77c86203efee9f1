use Rattle.std.proofs.Common.{◌≡◌, ℕ, None, Option}
use Rattle.fault.specs.Each.{Each}
use Rattle.fault.specs.First.{earliest, Passes}
use Rattle.fault.proofs.check_each.Given as goal

abbrev pub invariant-loop-i : goal.invariant-loop-i
invariant-loop-i g l = (due : ℕ → Option g.row.E.Denot) → Each l.n (goal.F-post g l.check) (λ i r. Passes (due i) r) → earliest l.i due ≡ None
