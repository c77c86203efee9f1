-- The part of the promise that the contract states.
use Rattle.calls.proofs.Promise.{order_does_not_matter}
use Rattle.calls.proofs.order_does_not_matter.Goals as goal

pub returns : goal.returns
returns c = order_does_not_matter
