use Rattle.std.proofs.Common.{◌≡◌, ◌≤◌, length}
use Rattle.std.specs.List.{range_with_len}
use Rattle.meaning.specs.Quotient.{gathered}
use Rattle.calls.specs.Outcome.{most_edges}
use Rattle.writing.proofs.drawing.count_edges.Given as goal

-- the edges of the nodes so far are counted, and are within the limit
abbrev pub invariant-loop-q : goal.invariant-loop-q
invariant-loop-q g l = (l.total ≡ length (gathered (g.C.Shaped.graph l.counted).edges (range_with_len 0 l.q))) × (l.total ≤ most_edges)
