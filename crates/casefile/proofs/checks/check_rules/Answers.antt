use Rattle.std.proofs.Common.{of_calls}
use Rattle.casefile.proofs.checks.check_rules.Goals as goal

pub returns : goal.returns
returns c = rw (← c.from.ensures) (c.check_each.ensures _ (λ i r h p. search of_calls))
