use Rattle.std.proofs.Common.{◌+◌, ◌-◌, ◌≤◌, length, take, drop, ap, ◌∙◌, length-drop, arith}
use Rattle.std.proofs.lemmas.List.FromFn.{length-map-range_with_len}
use Rattle.format.specs.Layout.{rule_row}
use Rattle.calls.specs.Memory.{over}
use Rattle.calls.specs.Opening.{opened_edge}
use Rattle.writing.proofs.Filling.{behind, gathered_end, gathered_room, gathered_next}
use Rattle.opening.proofs.Ruled.{opened_at, node_edges}
use Rattle.opening.proofs.drawing.Formula.put_node.Goals as goal

pub put_opened-count-requires-clause-rules : goal.put_opened-count-requires-clause-rules
put_opened-count-requires-clause-rules g c =
    let h = c.args.self.now.file.header in
    omega (arith, ap length c.requires.rules, length-map-range_with_len (rule_row c.args.self.now.file.bytes.now h) 0 h.rules, c.requires.measured.rules)

pub put_opened-count-requires-clause-room : goal.put_opened-count-requires-clause-room
put_opened-count-requires-clause-room g c =
    let A = g.S.Scale.algebra in
    let rs = c.args.self.now.rules.now in
    let bs = c.args.self.now.file.bytes.now in
    let h = c.args.self.now.file.header in
    let n = c.node-node.result in
    let all = ap length (node_edges A rs bs h c.args.q n c.requires.rules c.node-node.ensures) in
    let more = gathered_room (opened_at A rs bs h) n.first c.loop-k.k n.count c.loop-k.count c.args.room.now c.loop-k.room c.loop-k-test.true c.loop-k.invariant.0 c.loop-k.invariant.1 in
    let edge = ap (λ e. length (opened_edge A rs e)) c.edge-edge.ensures in
    omega (arith, c.requires.room, c.loop-k.auto.room, length-drop c.loop-k.count c.loop-k.room)

pub loop-k-preserved : goal.loop-k-preserved
loop-k-preserved g c =
    let A = g.S.Scale.algebra in
    let rs = c.args.self.now.rules.now in
    let bs = c.args.self.now.file.bytes.now in
    let h = c.args.self.now.file.header in
    let n = c.node-node.result in
    let inv = c.loop-k.invariant in
    let all = ap length (node_edges A rs bs h c.args.q n c.requires.rules c.node-node.ensures) in
    let more = gathered_room (opened_at A rs bs h) n.first c.loop-k.k n.count c.loop-k.count c.args.room.now c.loop-k.room c.loop-k-test.true inv.0 inv.1 in
    let within : c.loop-k.count ≤ length c.loop-k.room = omega (arith, c.requires.room, c.loop-k.auto.room) in
    let edge = c.edge-edge.ensures in
    let written = behind c.loop-k.count (opened_at A rs bs h (n.first + c.loop-k.k)) c.loop-k.room c.put_opened-count.new.room within
    (c.put_opened-count.ensures.room ∙ ap (λ e. over (opened_edge A rs e) (take (length c.loop-k.room - c.loop-k.count) (drop c.loop-k.count c.loop-k.room))) edge) in (
      gathered_end (opened_at A rs bs h) n.first c.loop-k.k n.count c.loop-k.count c.args.room.now c.loop-k.room c.loop-k-test.true inv.0 inv.1
          c.put_opened-count.result (c.put_opened-count.ensures.count ∙ ap (λ e. length (opened_edge A rs e)) edge),
      gathered_next (opened_at A rs bs h) n.first c.loop-k.k n.count c.loop-k.count c.args.room.now c.loop-k.room c.loop-k-test.true inv.0 inv.1 _ written,
    )
