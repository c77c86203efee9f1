use Rattle.std.proofs.Common.{◌∙◌, rules, arith}
use Rattle.std.specs.List.{range_with_len}
use Rattle.std.proofs.lemmas.Iterator.{YieldsList-from_range, YieldsList-from_map}
use Rattle.std.proofs.lemmas.Iterator.Consumers.{sum_by_from_yields_List, fits_by_from_yields_list}
use borrow.Author.Tests.{tests}
use Rattle.format.specs.Layout.{rule_row}
use Rattle.opening.proofs.Ruled.{hit, rules_summed, rules_few}
use Rattle.opening.proofs.counting.count_rules.Goals as goal

pub sum-requires-clause-fits : goal.sum-requires-clause-fits
sum-requires-clause-fits c =
    let n = c.args.file.now.header.rules in
    let row = rule_row c.args.file.now.bytes.now c.args.file.now.header in
    fits_by_from_yields_list (hit row c.args.label) (range_with_len 0 n) c.map.result _
    (YieldsList-from_map _ (hit row c.args.label) (YieldsList-from_range 0 n n c.map.ensures.source (omega arith)) c.map.ensures.closure (λ x r q k. search (rules, tests)))
    (omega (arith, rules_few row c.args.label n, c.type_inv.file))

pub returns : goal.returns
returns c =
    let n = c.args.file.now.header.rules in
    let row = rule_row c.args.file.now.bytes.now c.args.file.now.header in
    let total = sum_by_from_yields_List (hit row c.args.label) (range_with_len 0 n) c.map.result c.sum.result c.sum.ensures.ran
    (YieldsList-from_map _ (hit row c.args.label) (YieldsList-from_range 0 n n c.map.ensures.source (omega arith)) c.map.ensures.closure (λ x r q k. search (rules, tests))) in
    record {
      result = total ∙ rules_summed row c.args.label n;
      few = omega (arith, total, rules_few row c.args.label n);
    }
