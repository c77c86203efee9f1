-- The theorem that the contract states.
use Rattle.calls.proofs.FitsAgain.{fits_again_all}
use Rattle.calls.proofs.accepted_calls_fit_again.Goals as goal

pub returns : goal.returns
returns c = fits_again_all
