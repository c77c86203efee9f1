use Rattle.std.proofs.Common.{◌≡◌, ◌∙◌, drop, refl, rules}
use Rattle.format.specs.Bytes.{two}
use Rattle.format.proofs.Reading.{two_at}
use Rattle.format.proofs.bytes.two.Goals as goal

pub returns : goal.returns
unfolding two
returns c =
    let read : c.from_le_bytes.result ≡ two (drop c.args.at c.args.bytes.now) 0 = search rules in
    read ∙ two_at c.args.bytes.now _ c.args.at refl
