use Rattle.std.proofs.Common.{of_calls}
use Rattle.admission.proofs.check_steps_of.Goals as goal

pub returns : goal.returns
returns g c = rw (← c.count.ensures) (c.check_each.ensures _ (λ i r h p. search of_calls))
