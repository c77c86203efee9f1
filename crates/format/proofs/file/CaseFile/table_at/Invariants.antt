use Rattle.std.proofs.Common.{◌≡◌, drop}
use Rattle.format.specs.Layout.{tables_at}
use Rattle.format.specs.Table.{table_from}
use Rattle.format.proofs.file.CaseFile.table_at.Given as goal

abbrev pub invariant-loop : goal.invariant-loop
invariant-loop l = l.table.bytes.now ≡ table_from l.counter (drop (tables_at l.self.header) l.self.bytes.now)
