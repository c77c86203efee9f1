use Rattle.std.proofs.Common.{ap, of_calls}
use Rattle.casefile.proofs.checks.check_edges_of.Goals as goal

pub returns : goal.returns
returns c =
    let first = ap (λ n. n.first) c.node-node.ensures in
    let count = ap (λ n. n.count) c.node-node.ensures in
    rw (← count) (c.check_each.ensures _ (λ k r h p. rw (← first) (search of_calls)))
