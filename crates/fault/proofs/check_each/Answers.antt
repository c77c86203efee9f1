use Rattle.fault.proofs.First.{earliest_none, earliest_more, earliest_found, passed_up}
use Rattle.fault.proofs.check_each.Goals as goal

pub loop-i-init : goal.loop-i-init
loop-i-init g c due each = earliest_none _

pub loop-i-preserved : goal.loop-i-preserved
loop-i-preserved g c due each =
    earliest_more due _ (c.loop-i.invariant due each) (each _ _ c.loop-i-test.true (c.in_ok-check.ensures)).0

pub returns-in_err-check : goal.returns-in_err-check
returns-in_err-check g c due each =
    passed_up _ _ c.from_residual.ensures.1
    (earliest_found due _ _ _ (c.loop-i.invariant due each) (each _ _ c.loop-i-test.true (c.in_err-check.ensures)) c.loop-i-test.true)
