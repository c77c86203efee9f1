use Rattle.std.proofs.Common.{refl, rules}
use borrow.Author.Tests.{tests}
use Rattle.format.specs.Layout.{rule_row}
use Rattle.meaning.proofs.Listed.{all_below}
use Rattle.book.specs.Parts.{has_part}
use Rattle.book.proofs.rule_book.filling.all_parts.Goals as goal

pub returns : goal.returns
returns c =
    let f = c.args.file.now in
    all_below f.header.rules (λ i. has_part f.header.places (rule_row f.bytes.now f.header i)) _ _ c.all.result refl (λ x b q k. search (rules, tests)) c.all.ensures.ran
