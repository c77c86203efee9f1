use Rattle.std.proofs.Common.{◌&&◌, ℕ, Bool, refl, ap, ◌∙◌, rules}
use mathlib.Core.Path.{fun_ext}
use borrow.Author.Tests.{tests}
use Rattle.records.specs.Codes.{takes_part}
use Rattle.meaning.specs.Quotient.{any}
use Rattle.meaning.proofs.Listed.{any_below}
use Rattle.calls.specs.Left.{left_places}
use Rattle.fit.proofs.Reading.{counts_found}
use Rattle.fit.proofs.guards.has_participant.Goals as goal

pub returns : goal.returns
returns c =
    let B = c.args.book.now in
    let left = left_places c.args.left in
    let x = c.in-Some.rule in
    let asked : ℕ → Bool = λ p. left p && takes_part x.now p in
    let same = λ (p : ℕ). counts_found B left c.args.number p c.from.result c.rules.result.now x c.rules.ensures.rules c.from.ensures c.in-Some.ensures.lookup in
    any_below 8 asked _ _ c.any.result refl (λ p b q k. search (rules, tests)) c.any.ensures.ran ∙ ap (any 8) (fun_ext same)
