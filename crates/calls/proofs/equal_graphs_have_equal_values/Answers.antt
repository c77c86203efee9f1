-- The theorem that the contract states.
use Rattle.calls.proofs.Agree.{equal_below}
use Rattle.calls.proofs.equal_graphs_have_equal_values.Goals as goal

pub returns : goal.returns
returns c = equal_below
