use Rattle.std.proofs.Common.{refl, rules}
use borrow.Author.Tests.{tests}
use Rattle.meaning.proofs.Listed.{all_below}
use Rattle.calls.specs.Fit.{fits_node}
use Rattle.fit.proofs.view.View.nodes_fit.Goals as goal

pub returns : goal.returns
returns g c =
    let v = c.args.self.now in
    all_below v.remainder.now.nodes (fits_node g.S.Scale.algebra v.book.now v.remainder.now v.memory.now) _ _ c.all.result refl (λ x b q k. search (rules, tests)) c.all.ensures.ran
