use Rattle.std.proofs.Common.{◌≡◌, map, length}
use Rattle.std.specs.List.{range_with_len}
use Rattle.meaning.specs.Quotient.{gathered}
use Rattle.calls.specs.Memory.{node_row, over}
use Rattle.writing.proofs.drawing.write.Given as goal

-- the nodes so far are written, with their edges
abbrev pub invariant-loop-q : goal.invariant-loop-q
invariant-loop-q g l =
    let G = g.D.Shaped.graph l.drawn in
    (l.at ≡ length (gathered G.edges (range_with_len 0 l.q)))
    × (l.row-items ≡ over (map (node_row G) (range_with_len 0 l.q)) l.initial.row-items)
    × (l.edges ≡ over (gathered G.edges (range_with_len 0 l.q)) l.initial.edges)
