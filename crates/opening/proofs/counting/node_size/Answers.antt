use Rattle.std.proofs.Common.{arith}
use Rattle.format.specs.Layout.{edge_row}
use Rattle.calls.specs.Opening.{book_in, opened_edge}
use Rattle.opening.proofs.Ruled.{sum_more}
use Rattle.opening.proofs.counting.node_size.Goals as goal

pub loop-k-preserved : goal.loop-k-preserved
loop-k-preserved c =
    let bs = c.args.file.now.bytes.now in
    let h = c.args.file.now.header in
    let few = c.edge_size-total.ensures.few in
    (λ A. sum_more (λ e. opened_edge A (book_in bs h).rules (edge_row bs h e)) c.node-node.result.first c.loop-k.k c.loop-k.total c.edge_size-total.result (c.loop-k.invariant.0 A) (c.edge_size-total.ensures.result A), omega (arith, few, c.requires.rules, c.loop-k.invariant.1))
