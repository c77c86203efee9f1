use Rattle.std.proofs.Common.{Bool, rules, ap, ◌∙◌}
use Rattle.std.proofs.lemmas.Iterator.{YieldsList-from_slice}
use Rattle.std.proofs.lemmas.Iterator.Search.{all_from_yields_List}
use borrow.Author.Tests.{tests}
use Rattle.records.specs.declared.Edge.{Edge}
use Rattle.meaning.specs.Check.{edge_test}
use Rattle.meaning.proofs.Listed.{every_listed}
use Rattle.calls.specs.Left.{left_places}
use Rattle.calls.specs.Memory.{Memory, node_in, edges_of, held}
use Rattle.fit.proofs.Reading.{part_is}
use Rattle.fit.proofs.view.View.edges_fit.Goals as goal

pub returns : goal.returns
returns g c =
    let v = c.args.self.now in
    let r = v.remainder.now in
    let m = v.memory.now in
    let n = node_in m c.args.q in
    let test : Edge → Bool = edge_test g.S.Scale.algebra v.book.now (left_places r.left) (held r m) c.args.q in
    let inside : Memory = record { nodes = c.memory.inside.nodes.now; edges = c.memory.inside.edges.now } in
    let own = c.iter.ensures.rest ∙ part_is inside n c.node-node.result c.end.result c.node-node.ensures c.end.ensures ∙ ap (λ m. edges_of m n) c.memory.view_is in
    all_from_yields_List test _ _ c.all.result c.all.ensures.ran (YieldsList-from_slice (edges_of m n) own) (λ x b q k. search (rules, tests))
    ∙ every_listed test (edges_of m n)
