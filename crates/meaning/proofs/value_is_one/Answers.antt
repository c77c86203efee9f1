-- The theorem that the contract states.
use Rattle.meaning.proofs.Theorems.{value_unique}
use Rattle.meaning.proofs.value_is_one.Goals as goal

pub returns : goal.returns
returns c = value_unique
