-- The part of the promise that the contract states.
use Rattle.calls.proofs.Promise.{variant_is_judged}
use Rattle.calls.proofs.every_variant_is_judged.Goals as goal

pub returns : goal.returns
returns c = variant_is_judged
