use Rattle.std.proofs.Common.{set, ap, ◌∙◌, arith}
use Rattle.opening.proofs.Ruled.{written_taken, written_left, end_taken, end_left, room_left}
use Rattle.opening.proofs.drawing.Formula.put_ruled.Goals as goal
use Rattle.opening.proofs.drawing.Formula.put_ruled.Goals.{then-rule-edge, else-rule-edge}

pub bounds-room-count : goal.bounds-room-count
bounds-room-count g c =
    omega (arith, room_left c.args.edge.label c.args.self.now.rules.now c.loop-number.number c.loop-number-test.true c.if-rule-edge.true, c.loop-number.invariant.0, c.requires.room, c.loop-number.auto.room)

pub loop-number-preserved : goal.loop-number-preserved
loop-number-preserved g c =
    let label = c.args.edge.label in
    let rs = c.args.self.now.rules.now in
    let i = c.loop-number.number in
    let lt = c.loop-number-test.true in
    let inv = c.loop-number.invariant in
    let weight = g.S.Scale.algebra.highest in
    let target = c.args.edge.target in
    let count = c.loop-number.count in
    elim c.if-rule-edge.branch [
      | then-rule-edge w ↦ (
        w.count-is ∙ end_taken label rs i lt weight target count c.args.room.now c.loop-number.room inv.0 inv.1 w.if-rule-edge.true,
        w.room-is ∙ ap (set c.loop-number.room count) w.opened.ensures ∙ written_taken label rs i lt weight target count c.args.room.now c.loop-number.room inv.0 inv.1 c.requires.room w.if-rule-edge.true,
      )
      | else-rule-edge w ↦ (
        w.count-is ∙ end_left label rs i lt weight target count c.args.room.now c.loop-number.room inv.0 inv.1 w.if-rule-edge.false,
        w.room-is ∙ written_left label rs i lt weight target count c.args.room.now c.loop-number.room inv.0 inv.1 w.if-rule-edge.false,
      )
    ]
