-- The theorems that the contract states.
use Rattle.meaning.proofs.Theorems.{reading_exists, reading_unique}
use Rattle.meaning.proofs.reading_exists.Goals as goal

pub returns : goal.returns
returns c = record { exists = reading_exists; one = reading_unique }
