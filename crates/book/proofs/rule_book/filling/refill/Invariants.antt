use Rattle.std.proofs.Common.{◌≡◌, ℕ, map, vec_items, vec_len, vec_capacity}
use Rattle.std.specs.List.{range_with_len}
use Rattle.fault.specs.Each.{Each}
use Rattle.book.proofs.rule_book.filling.refill.Given as goal

abbrev pub invariant-loop-i : goal.invariant-loop-i
invariant-loop-i g l =
    ((value : ℕ → g.row.T.Denot) → Each l.count (goal.F-post g l.row) (λ i x. x ≡ value i) → vec_items l.rows ≡ map value (range_with_len 0 l.i))
    × (vec_len l.rows ≡ l.i)
    × (vec_capacity l.rows ≡ vec_capacity l.initial.rows)
