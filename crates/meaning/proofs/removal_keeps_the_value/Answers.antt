-- The theorem that the contract states.
use Rattle.meaning.proofs.Theorems.{removal_keeps}
use Rattle.meaning.proofs.removal_keeps_the_value.Goals as goal

pub returns : goal.returns
returns c = removal_keeps
