use Rattle.std.proofs.Common.{◌≡◌, ◌*◌, ◌≤◌, length}
use Rattle.std.specs.List.{range_with_len}
use Rattle.format.specs.Layout.{edge_row}
use Rattle.meaning.specs.Quotient.{gathered}
use Rattle.scale.specs.Algebra.{Algebra}
use Rattle.calls.specs.Opening.{book_in, opened_edge}
use Rattle.opening.proofs.counting.node_size.Given as goal

-- the edges that come of the node's first ones
abbrev pub invariant-loop-k : goal.invariant-loop-k
invariant-loop-k l =
    let bs = l.file.bytes.now in
    let h = l.file.header in
    ((A : Algebra) → l.total ≡ length (gathered (λ e. opened_edge A (book_in bs h).rules (edge_row bs h e)) (range_with_len l.node.first l.k)))
    × (l.total ≤ 257 * l.k)
