-- Each line is that of the edge read.
use Rattle.std.proofs.Common.{of_calls}
use Rattle.account.proofs.sections.edges_text.Goals as goal

pub returns : goal.returns
returns c = c.section.ensures _ (λ i r n p. search of_calls)
