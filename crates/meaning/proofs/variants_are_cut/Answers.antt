-- The theorem that the contract states.
use Rattle.meaning.proofs.Theorems.{cut_to_variant}
use Rattle.meaning.proofs.variants_are_cut.Goals as goal

pub returns : goal.returns
returns c = cut_to_variant
