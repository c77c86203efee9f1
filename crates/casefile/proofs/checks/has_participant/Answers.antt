use Rattle.std.proofs.Common.{ℕ, not, eqb, ◌∙◌, refl, arith, rules}
use Rattle.std.proofs.lemmas.Iterator.{YieldsList-from_range}
use Rattle.std.proofs.lemmas.Iterator.Search.{any_from_yields_List}
use Rattle.records.specs.Codes.{none}
use Rattle.format.specs.Layout.{rule_label}
use Rattle.casefile.proofs.FineEdges.{any_found}
use Rattle.casefile.proofs.checks.has_participant.Goals as goal

pub returns : goal.returns
returns c =
    let places = c.args.file.now.header.places in
    let asks = λ (p : ℕ). not (eqb (rule_label c.args.file.now.bytes.now c.args.file.now.header c.args.rule p) none) in
    any_from_yields_List asks _ _ c.any.result c.any.ensures.ran (YieldsList-from_range 0 places places refl (omega arith)) (λ x b q k. search rules)
    ∙ any_found asks places
