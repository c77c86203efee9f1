-- Lists of calls: what they leave, call after call, refused ones included.
use Rattle.std.specs.Prelude.{◌≡◌, ℕ, List, [], ◌∷◌, Some, None, Option}
use Rattle.fault.specs.declared.Fault.{Fault}
use Rattle.process.specs.Lts.{Lts}
use Rattle.scale.specs.Algebra.{Algebra}
use Rattle.meaning.specs.Network.{Book}
use Rattle.calls.specs.Memory.{Memory}
use Rattle.calls.specs.Outcome.{remove_fault, Removed, trim_fault, Trimmed, fold_fault, Folded, close_fault}
use Rattle.calls.specs.declared.remainder.Remainder.{Remainder}

-- A call with its own arguments: a place and a process, target memories, buffers, of any lengths and contents.
pub data Call : Type 0 where
  remove : ℕ → Lts → Memory → Call
  trim : Memory → List ℕ → Call
  fold : Memory → List ℕ → List ℕ → Call
  close : Call

-- What calls have left: an open remainder with the memory that holds it, or a closed one.
pub data Stage : Type 0 where
  open_at : Remainder → Memory → Stage
  closed_at : Remainder → Memory → Stage

-- the fault by which a call is refused
abbrev pub refusal : Algebra → Book → Remainder → Memory → Call → Option Fault
refusal A B r m (remove p l t) = remove_fault A B r m p l t
refusal A B r m (trim t numbers) = trim_fault A B r m t numbers
refusal A B r m (fold t lower upper) = fold_fault A B r m t lower upper
refusal A B r m close = close_fault A B r m

-- a removal that was accepted: the place and the process it was given
pub record Removal : Type 0 where
  pub place : ℕ
  pub process : Lts

-- A list of calls leads from one stage to another, with these removals accepted. Each call works on what the
-- last accepted one left; a refused one leaves it as it was; after an accepted close no call follows.
pub data Runs (A : Algebra) (B : Book) : Stage → List Call → Stage → List Removal → Type 0 where
  done : {s : Stage} → Runs A B s [] s []
  refused : {r : Remainder} {m : Memory} {c : Call} {cs : List Call} {s : Stage} {gs : List Removal} (f : Fault) → refusal A B r m c ≡ Some f
      → Runs A B (open_at r m) cs s gs → Runs A B (open_at r m) (c ∷ cs) s gs
  removes : {r s : Remainder} {m after : Memory} {cs : List Call} {u : Stage} {gs : List Removal} (p : ℕ) (l : Lts) (t : Memory)
      → remove_fault A B r m p l t ≡ None → Removed A B r m p l t s after
      → Runs A B (open_at s after) cs u gs → Runs A B (open_at r m) (remove p l t ∷ cs) u (record { place = p; process = l } ∷ gs)
  trims : {r s : Remainder} {m after : Memory} {cs : List Call} {u : Stage} {gs : List Removal} (t : Memory) (numbers given : List ℕ)
      → trim_fault A B r m t numbers ≡ None → Trimmed r m t numbers s after given
      → Runs A B (open_at s after) cs u gs → Runs A B (open_at r m) (trim t numbers ∷ cs) u gs
  folds : {r s : Remainder} {m after : Memory} {cs : List Call} {u : Stage} {gs : List Removal} (t : Memory) (lower upper low high : List ℕ)
      → fold_fault A B r m t lower upper ≡ None → Folded A B r m t lower upper s after low high
      → Runs A B (open_at s after) cs u gs → Runs A B (open_at r m) (fold t lower upper ∷ cs) u gs
  closes : {r : Remainder} {m : Memory} → close_fault A B r m ≡ None → Runs A B (open_at r m) (close ∷ []) (closed_at r m) []
