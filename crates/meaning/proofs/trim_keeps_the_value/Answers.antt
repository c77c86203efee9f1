-- The theorem that the contract states.
use Rattle.meaning.proofs.Kept.{trim_keeps}
use Rattle.meaning.proofs.trim_keeps_the_value.Goals as goal

pub returns : goal.returns
returns c = trim_keeps
