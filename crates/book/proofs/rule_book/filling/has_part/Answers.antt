use Rattle.std.proofs.Common.{refl, rules}
use borrow.Author.Tests.{tests}
use Rattle.records.specs.Codes.{takes_part}
use Rattle.meaning.proofs.Listed.{any_below}
use Rattle.book.proofs.rule_book.filling.has_part.Goals as goal

pub returns : goal.returns
returns c = any_below c.args.places (takes_part c.args.rule.now) _ _ _ refl (λ x b q k. search (rules, tests)) c.any.ensures.ran
