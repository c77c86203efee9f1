use Rattle.std.proofs.Common.{◌≡◌, ◌∙◌, drop, refl, rules}
use Rattle.format.specs.Bytes.{two, four, eight}
use Rattle.format.proofs.Reading.{eight_at}
use Rattle.format.proofs.bytes.eight.Goals as goal

pub returns : goal.returns
unfolding two four eight
returns c =
    let read : c.from_le_bytes.result ≡ eight (drop c.args.at c.args.bytes.now) 0 = search rules in
    read ∙ eight_at c.args.bytes.now _ c.args.at refl
