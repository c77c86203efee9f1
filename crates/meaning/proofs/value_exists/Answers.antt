-- The theorem that the contract states.
use Rattle.meaning.proofs.Theorems.{value_exists}
use Rattle.meaning.proofs.value_exists.Goals as goal

pub returns : goal.returns
returns c = value_exists
