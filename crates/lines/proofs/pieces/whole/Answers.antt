-- All pieces are gathered.
use Rattle.std.proofs.Common.{◌∙◌, arith}
use Rattle.lines.proofs.Gathered.{begun, one_more}
use Rattle.lines.proofs.pieces.whole.Goals as goal

pub loop-i-init : goal.loop-i-init
loop-i-init g c text each = begun _ _ c.new-text.ensures.bytes

pub loop-i-preserved : goal.loop-i-preserved
loop-i-preserved g c text each =
    one_more _ _ _ _ _ (c.loop-i.invariant text each) (c.as_str.ensures.value ∙ each _ _ (omega arith) c.in_ok-piece.ensures) c.in_ok-push_str.ensures.bytes
