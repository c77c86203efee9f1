use Rattle.std.proofs.Common.{◌≡◌, ◌<◌, ◌≤◌, ◌++◌, map, length, drop, ap, ◌∙◌, length-drop, length-take, arith}
use Rattle.std.specs.List.{range_with_len}
use Rattle.std.proofs.lemmas.List.FromFn.{length-map-range_with_len}
use Rattle.calls.specs.Memory.{node_row, over}
use Rattle.writing.proofs.Filling.{edges_with, length_more, behind, edges_step, nodes_step, over_front}
use Rattle.writing.proofs.drawing.write.Goals as goal

pub put_edges-count-requires-clause-room : goal.put_edges-count-requires-clause-room
put_edges-count-requires-clause-room g c =
    let G = g.D.Shaped.graph c.args.drawn.now in
    let within : c.loop-q.q < G.nodes = omega (arith, length-take c.nodes.result c.args.nodes.now) in
    omega (arith, length-take c.nodes.result c.args.nodes.now, edges_with G c.loop-q.q within, c.loop-q.invariant.0, c.loop-q.auto.edges, length-drop c.loop-q.at c.loop-q.edges)

pub overflow_cast-at : goal.overflow_cast-at
overflow_cast-at g c =
    let G = g.D.Shaped.graph c.args.drawn.now in
    let within : c.loop-q.q < G.nodes = omega (arith, length-take c.nodes.result c.args.nodes.now) in
    omega (arith, length-take c.nodes.result c.args.nodes.now, edges_with G c.loop-q.q within, c.loop-q.invariant.0, c.requires.few_edges)

pub overflow_cast-count : goal.overflow_cast-count
overflow_cast-count g c =
    let G = g.D.Shaped.graph c.args.drawn.now in
    let within : c.loop-q.q < G.nodes = omega (arith, length-take c.nodes.result c.args.nodes.now) in
    omega (arith, length-take c.nodes.result c.args.nodes.now, edges_with G c.loop-q.q within, c.put_edges-count.ensures.count, c.requires.few_edges)

pub loop-q-preserved : goal.loop-q-preserved
loop-q-preserved g c =
    let G = g.D.Shaped.graph c.args.drawn.now in
    let q = c.loop-q.q in
    let at = c.loop-q.at in
    let here = c.loop-q.invariant.0 in
    let count = c.put_edges-count.ensures.count in
    let within : q < G.nodes = omega (arith, length-take c.nodes.result c.args.nodes.now) in
    let all = edges_with G q within in
    let room : at ≤ length c.loop-q.edges = omega (arith, c.loop-q.auto.edges) in (
      omega (arith, length_more G q, here, count),
      nodes_step G q at here c.put_edges-count.result _ c.loop-q.row-items c.node.result (omega (arith, length-take c.nodes.result c.args.nodes.now)) count c.loop-q.invariant.1 c.node.ensures,
      edges_step G q at here c.args.edges.now c.loop-q.edges _ c.loop-q.invariant.2 (behind at (G.edges q) c.loop-q.edges c.put_edges-count.new.room room c.put_edges-count.ensures.room),
    )

pub returns-clause-nodes : goal.returns-clause-nodes
returns-clause-nodes g c =
    let G = g.D.Shaped.graph c.args.drawn.now in
    let all : c.loop-q.q ≡ G.nodes = omega (arith, length-take c.nodes.result c.args.nodes.now) in
    ap (λ l. l ++ drop c.nodes.result c.args.nodes.now) c.loop-q.invariant.1
    ∙ over_front (map (node_row G) (range_with_len 0 c.loop-q.q)) c.args.nodes.now c.nodes.result (omega (arith, length-map-range_with_len (node_row G) 0 c.loop-q.q))
    ∙ ap (λ k. over (map (node_row G) (range_with_len 0 k)) c.args.nodes.now) all
