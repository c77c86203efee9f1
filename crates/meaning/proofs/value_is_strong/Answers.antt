-- The theorem that the contract states.
use Rattle.meaning.proofs.Theorems.{value_strong}
use Rattle.meaning.proofs.value_is_strong.Goals as goal

pub returns : goal.returns
returns c = value_strong
