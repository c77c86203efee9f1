use Rattle.std.proofs.Common.{arith}
use Rattle.std.proofs.lemmas.Grind.{common_steps}
use Rattle.casefile.proofs.Codes.{no_kind}
use Rattle.casefile.proofs.checks.check_node.Goals as goal

pub returns-then-wrong : goal.returns-then-wrong
returns-then-wrong g c =
    let k = no_kind _ _ c.try_from.ensures in
    grind (arith, common_steps)
