-- What an accepted call leaves fits again, so that no later call refuses it as a misfit.
use Rattle.std.specs.Prelude.{◌≡◌, ℕ, ◌≤◌, Bool, true, List, None}
use Rattle.process.specs.Lts.{Lts}
use Rattle.scale.specs.Algebra.{Algebra, Laws}
use Rattle.meaning.specs.Fold.{fold_graph}
use Rattle.meaning.specs.Network.{Book}
use Rattle.meaning.specs.Trim.{Marks, trim_graph}
use Rattle.calls.specs.Fit.{fits}
use Rattle.calls.specs.Left.{left_without}
use Rattle.calls.specs.Memory.{Memory, held, written, numbers_of}
use Rattle.calls.specs.Opening.{book_of, formula_graph}
use Rattle.calls.specs.Outcome.{open_fault, opened, removed_graph, remove_fault, trim_fault, fold_fault, Lower, Upper}
use Rattle.calls.specs.declared.remainder.Remainder.{Remainder}

pub record FitsAgain : Type 0 where
  pub opens : (A : Algebra) → Laws A → (n : ℕ) (bs : List ℕ) (m : Memory) → open_fault A n bs m ≡ None → fits A (book_of bs) (opened A bs) (written (formula_graph A bs) m) ≡ true
  pub removes : (A : Algebra) → Laws A → (B : Book) → B.places ≤ 8 → (r : Remainder) (m : Memory) (p : ℕ) (l : Lts) (t : Memory) → remove_fault A B r m p l t ≡ None
      → fits A B (numbers_of (removed_graph A B r m p l) (left_without r.left p)) (written (removed_graph A B r m p l) t) ≡ true
  pub trims : (A : Algebra) → Laws A → (B : Book) (r : Remainder) (m t : Memory) (numbers : List ℕ) → trim_fault A B r m t numbers ≡ None → (marks : ℕ → Bool) → Marks (held r m) marks
      → fits A B (numbers_of (trim_graph marks (held r m)) r.left) (written (trim_graph marks (held r m)) t) ≡ true
  pub folds : (A : Algebra) → Laws A → (B : Book) (r : Remainder) (m t : Memory) (lower upper : List ℕ) → fold_fault A B r m t lower upper ≡ None → (R Q : ℕ → ℕ) → Lower A B (held r m) R → Upper A B (held r m) Q
      → fits A B (numbers_of (fold_graph R Q (held r m)) r.left) (written (fold_graph R Q (held r m)) t) ≡ true
