-- The part of the promise that the contract states.
use Rattle.calls.proofs.Reaches.{every_order_reaches}
use Rattle.calls.proofs.every_order_reaches_a_verdict.Goals as goal

pub returns : goal.returns
returns c = every_order_reaches
