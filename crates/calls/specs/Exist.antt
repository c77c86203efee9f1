-- Every accepted call has an outcome: the marks, the readings' values and the verdict exist.
use Rattle.std.specs.Prelude.{◌≡◌, ℕ, List, None}
use Rattle.scale.specs.Algebra.{Algebra, Laws}
use Rattle.meaning.specs.Network.{Book}
use Rattle.calls.specs.Memory.{Memory}
use Rattle.calls.specs.Outcome.{trim_fault, Trimmed, fold_fault, Folded, verdict_fault, Verdict}
use Rattle.calls.specs.declared.remainder.Remainder.{Remainder}

pub record OutcomesExist : Type 0 where
  pub trims : (A : Algebra) → Laws A → (B : Book) (r : Remainder) (m t : Memory) (numbers : List ℕ) → trim_fault A B r m t numbers ≡ None
      → (s : Remainder) × (after : Memory) × (given : List ℕ) × Trimmed r m t numbers s after given
  pub folds : (A : Algebra) → Laws A → (B : Book) (r : Remainder) (m t : Memory) (lower upper : List ℕ) → fold_fault A B r m t lower upper ≡ None
      → (s : Remainder) × (after : Memory) × (low : List ℕ) × (high : List ℕ) × Folded A B r m t lower upper s after low high
  pub judges : (A : Algebra) → Laws A → (B : Book) (r : Remainder) (m : Memory) (values : List ℕ) → verdict_fault A B r m values ≡ None
      → (x : ℕ) × (after : List ℕ) × Verdict A B r m values x after
