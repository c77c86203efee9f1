use Rattle.std.proofs.Common.{◌+◌, vec_items, ap, ◌∙◌}
use Rattle.book.proofs.Turns.{pushed_next}
use Rattle.book.proofs.rule_book.filling.refill.Goals as goal

pub loop-i-preserved : goal.loop-i-preserved
loop-i-preserved g c = (
  λ value each. pushed_next value c.loop-i.i (vec_items c.loop-i.rows) (vec_items c.push_reserved.new.self) c.row.result c.push_reserved.ensures.items (each _ _ c.loop-i-test.true c.row.ensures) (c.loop-i.invariant.0 value each),
  c.push_reserved.ensures.len ∙ ap (λ n. n + 1) c.loop-i.invariant.1,
  c.push_reserved.ensures.capacity ∙ c.loop-i.invariant.2,
)
