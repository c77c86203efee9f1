use Rattle.std.proofs.Common.{◌≡◌, map, length, take}
use Rattle.calls.specs.Memory.{over}
use Rattle.calls.specs.Opening.{rules_for}
use Rattle.opening.specs.Ruled.{ruled}
use Rattle.opening.proofs.drawing.Formula.put_ruled.Given as goal

-- the edges of the rules so far are written
abbrev pub invariant-loop-number : goal.invariant-loop-number
invariant-loop-number g l =
    let so_far = rules_for l.edge.label 0 (take l.number l.self.rules.now) in
    (l.count ≡ length so_far)
    × (l.room ≡ over (map (ruled g.S.Scale.algebra.highest l.edge.target) so_far) l.initial.room)
