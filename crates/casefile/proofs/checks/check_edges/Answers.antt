use Rattle.std.proofs.Common.{arith, of_calls}
use Rattle.fault.proofs.First.{passed_up}
use Rattle.casefile.specs.Refusal.{own_fault}
use Rattle.casefile.proofs.Ranges.{edges_found, edges_none, edges_left}
use Rattle.casefile.proofs.checks.check_edges.Goals as goal

pub returns-in_err-check_each : goal.returns-in_err-check_each
returns-in_err-check_each c =
    let own = own_fault c.args.file.now.bytes.now c.args.file.now.header in
    passed_up _ _ c.from_residual.ensures.1
    (edges_found _ _ c.requires _ (rw c.from.ensures at (c.in_err-check_each.ensures own (λ i r h p. search of_calls))))

pub returns-then-end-from : goal.returns-then-end-from
returns-then-end-from c =
    let own = own_fault c.args.file.now.bytes.now c.args.file.now.header in
    edges_left _ _ c.requires _ c.due-end.ensures (omega arith) (rw c.from.ensures at (c.in_ok-check_each.ensures own (λ i r h p. search of_calls)).0)

pub returns-else-end-from : goal.returns-else-end-from
returns-else-end-from c =
    let own = own_fault c.args.file.now.bytes.now c.args.file.now.header in
    (edges_none _ _ c.requires _ c.due-end.ensures (omega arith) (rw c.from.ensures at (c.in_ok-check_each.ensures own (λ i r h p. search of_calls)).0), tt)
