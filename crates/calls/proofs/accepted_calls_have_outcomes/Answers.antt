-- The theorem that the contract states.
use Rattle.calls.proofs.Exist.{outcomes_exist}
use Rattle.calls.proofs.accepted_calls_have_outcomes.Goals as goal

pub returns : goal.returns
returns c = outcomes_exist
