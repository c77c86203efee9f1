use Rattle.std.proofs.Common.{arith}
use Rattle.format.proofs.Listed.{listed_count}
use Rattle.format.proofs.table.TableProcess.count.Goals as goal

pub returns-then-s-states : goal.returns-then-s-states
returns-then-s-states c =
    omega (arith, listed_count c.args.self.now.bytes.now c.args.s (omega arith))
