-- What holds at every number below n, and of every answer there.
use Rattle.std.specs.Prelude.{◌<◌, ℕ}

-- P holds at each number below n
abbrev pub Below : ℕ → (ℕ → Type 0) → Type 0
Below n P = (i : ℕ) → i < n → P i

-- whatever is answered at a number below n, P holds of it
abbrev pub Each : {R : Type 0} → ℕ → (ℕ → R → Type 0) → (ℕ → R → Type 0) → Type 0
Each n answers P = (i : ℕ) (r : _) → i < n → answers i r → P i r
