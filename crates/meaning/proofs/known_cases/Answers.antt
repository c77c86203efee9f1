-- The cases that the contract states.
use Rattle.meaning.proofs.Known.{known_cases}
use Rattle.meaning.proofs.known_cases.Goals as goal

pub returns : goal.returns
returns c = known_cases
