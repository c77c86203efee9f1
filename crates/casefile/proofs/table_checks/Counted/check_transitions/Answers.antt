use Rattle.std.proofs.Common.{of_calls}
use Rattle.casefile.proofs.table_checks.Counted.check_transitions.Goals as goal

pub returns : goal.returns
returns c = rw (← c.transitions.ensures) (c.check_each.ensures _ (λ i r h p. search of_calls))
