use Rattle.std.proofs.Common.{◌∙◌}
use Rattle.records.proofs.Codes.{kind_or_fixed}
use Rattle.records.proofs.Kind.of.Goals as goal

pub returns : goal.returns
returns c = c.unwrap_or.ensures ∙ kind_or_fixed _ _ c.try_from.ensures
