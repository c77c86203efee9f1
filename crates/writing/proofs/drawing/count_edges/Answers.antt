use Rattle.std.proofs.Common.{◌<◌, length, rules, arith}
use Rattle.calls.specs.Memory.{edge_rows}
use Rattle.calls.specs.Outcome.{most_edges}
use Rattle.writing.proofs.Filling.{edges_with, length_more, past_limit}
use Rattle.writing.proofs.drawing.count_edges.Goals as goal

pub returns-in_err-more : goal.returns-in_err-more
returns-in_err-more g c =
    let G = g.C.Shaped.graph c.args.counted.now in
    let within : c.loop-q.q < G.nodes = omega arith in
    let past : most_edges < length (edge_rows G) = omega (arith, edges_with G c.loop-q.q within, c.in_err-more.ensures) in
    search rules

pub returns-then-more-total : goal.returns-then-more-total
returns-then-more-total g c =
    let G = g.C.Shaped.graph c.args.counted.now in
    let within : c.loop-q.q < G.nodes = omega arith in
    past_limit G c.loop-q.q c.loop-q.total c.in_ok-more.more 4194304 within c.loop-q.invariant.0 c.in_ok-more.ensures c.if-more-total.true

pub loop-q-preserved : goal.loop-q-preserved
loop-q-preserved g c =
    let G = g.C.Shaped.graph c.args.counted.now in
    (omega (arith, length_more G c.loop-q.q, c.in_ok-more.ensures, c.loop-q.invariant.0), omega arith)
