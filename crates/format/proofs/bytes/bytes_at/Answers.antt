use Rattle.std.proofs.Common.{ℕ, drop, arith, rules}
use Rattle.std.proofs.lemmas.List.FromFn.{fill_by_all}
use Rattle.format.proofs.Filled.{filled_by}
use Rattle.format.specs.Bytes.{byte}
use Rattle.format.proofs.bytes.bytes_at.Goals as goal

pub returns : goal.returns
returns g c =
    let read : ℕ → ℕ = byte (drop c.args.at c.args.bytes.now) in
    fill_by_all read _ g.row.N 0 c.from_fn.ensures.items.long
    (λ k h. filled_by _ _ read _ (λ x y q call. search rules) 0 g.row.N c.from_fn.ensures.items.each k (omega arith) (omega arith))
