-- The part of the promise that the contract states.
use Rattle.calls.proofs.Promise.{verdict_is_value}
use Rattle.calls.proofs.verdict_is_the_value.Goals as goal

pub returns : goal.returns
returns c = verdict_is_value
