use Rattle.format.proofs.Tables.{table_start, table_step}
use Rattle.format.proofs.file.CaseFile.table_at.Goals as goal

pub loop-init : goal.loop-init
loop-init c = table_start _ _ _ _ c.tail.ensures c.tables_at.ensures.at

pub loop-preserved : goal.loop-preserved
loop-preserved c = table_step _ _ _ _ _ c.loop.invariant c.size.ensures c.tail-in-loop.ensures
