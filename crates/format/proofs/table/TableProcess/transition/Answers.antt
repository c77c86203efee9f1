use Rattle.std.proofs.Common.{Some, sym, ap, ◌∙◌, arith}
use Rattle.format.specs.Table.{transition_row}
use Rattle.format.proofs.Listed.{listed_at}
use Rattle.format.proofs.table.TableProcess.transition.Goals as goal

pub returns-then-e-count : goal.returns-then-e-count
returns-then-e-count c =
    let t = c.args.self.now.bytes.now in
    ap Some (c.row.ensures ∙ ap (transition_row t) (omega arith))
    ∙ sym (listed_at t c.args.s c.args.e (omega arith))
