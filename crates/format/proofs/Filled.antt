-- An array that a closure fills, which no call changes.
use Rattle.std.proofs.Common.{◌≡◌, ◌+◌, ◌<◌, ◌≤◌, ℕ, zero, suc, List, slice_index_or, inl, inr, ◌∙◌, arith}
use Rattle.std.specs.Array.{IsFromFnResultFrom}
use Rattle.std.proofs.lemmas.Bool.{cases_eq}
use denote.Param.Members.{Mut, Called}

pub filled_by : {F : Type 0} (g : Mut F (ℕ × Unit {0}) ℕ) (f : F) (v : ℕ → ℕ) (ys : List ℕ)
    → ((x y : ℕ) (q : F) → Called g f (x, tt) y q → (q ≡ f) × (y ≡ v x))
    → (i n : ℕ) → IsFromFnResultFrom g f ys i n → (k : ℕ) → i ≤ k → k < i + n → slice_index_or ys k 0 ≡ v k
filled_by g f v ys steady i zero h k l m = absurd (omega arith)
filled_by g f v ys steady i (suc n) h k l m =
    let step = steady i h.1 h.0 h.3 in
    elim (cases_eq k i) [
      | inl here ↦ rw here (h.2.1 0 ∙ step.1)
      | inr past ↦ filled_by g f v ys steady (i + 1) n (rw step.0 at h.4) k (omega arith) (omega arith)
    ]
