-- The theorem that the contract states.
use Rattle.meaning.proofs.Theorems.{readings_bound}
use Rattle.meaning.proofs.readings_bound_the_value.Goals as goal

pub returns : goal.returns
returns c = readings_bound
