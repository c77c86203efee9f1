use Rattle.std.proofs.Common.{◌∙◌}
use Rattle.records.proofs.Codes.{sign_or_greatest}
use Rattle.records.proofs.Sign.of.Goals as goal

pub returns : goal.returns
returns c = c.unwrap_or.ensures ∙ sign_or_greatest _ _ c.try_from.ensures
