use Rattle.std.proofs.Common.{le_refl, of_calls}
use Rattle.std.specs.Option.{option_map}
use Rattle.fault.specs.declared.Fault.TheVariants.{Table}
use Rattle.format.specs.Layout.{table_in}
use Rattle.casefile.specs.TableFault.{table_fault}
use Rattle.casefile.proofs.Tables.{last_small}
use Rattle.casefile.proofs.checks.check_tables.Goals as goal

pub invariant_of-table : goal.invariant_of-table
invariant_of-table c =
    let f = c.args.file.now in
    let passed = (c.in_ok-check_each.ensures (λ p. option_map (Table p) (table_fault (table_in f.bytes.now f.header p))) (λ i r h p. search of_calls)).0 in
    let small = last_small _ _ _ _ c.requires (le_refl _) (rw c.from.ensures at passed) c.table_at.ensures in
    record { few = small.0; short = small.1 }
