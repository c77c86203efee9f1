use Rattle.std.proofs.Common.{◌≡◌, ◌∙◌, drop, refl, rules}
use Rattle.format.specs.Bytes.{two, four}
use Rattle.format.proofs.Reading.{four_at}
use Rattle.format.proofs.bytes.four.Goals as goal

pub returns : goal.returns
unfolding two four
returns c =
    let read : c.from_le_bytes.result ≡ four (drop c.args.at c.args.bytes.now) 0 = search rules in
    read ∙ four_at c.args.bytes.now _ c.args.at refl
