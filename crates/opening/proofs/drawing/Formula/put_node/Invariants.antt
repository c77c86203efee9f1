use Rattle.std.proofs.Common.{◌≡◌, length}
use Rattle.std.specs.List.{range_with_len}
use Rattle.meaning.specs.Quotient.{gathered}
use Rattle.calls.specs.Memory.{over}
use Rattle.opening.proofs.Ruled.{opened_at}
use Rattle.opening.proofs.drawing.Formula.put_node.Given as goal

-- what the node's first edges become is written
abbrev pub invariant-loop-k : goal.invariant-loop-k
invariant-loop-k g l =
    let out = gathered (opened_at g.S.Scale.algebra l.self.rules.now l.self.file.bytes.now l.self.file.header) (range_with_len l.node.first l.k) in
    (l.count ≡ length out) × (l.room ≡ over out l.initial.room)
