use Rattle.std.proofs.Common.{of_calls}
use Rattle.casefile.specs.Refusal.{node_fault}
use Rattle.casefile.proofs.checks.check_nodes.Goals as goal

pub returns : goal.returns
returns g c =
    let f = c.args.file.now in
    rw c.from.ensures at (c.check_each.ensures (node_fault g.S.Scale.algebra f.bytes.now f.header) (λ i r h p. search of_calls))
