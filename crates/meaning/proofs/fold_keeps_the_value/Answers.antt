-- The theorem that the contract states.
use Rattle.meaning.proofs.Kept.{fold_keeps}
use Rattle.meaning.proofs.fold_keeps_the_value.Goals as goal

pub returns : goal.returns
returns c = fold_keeps
