-- Pieces of text one after another.
use Rattle.std.specs.Prelude.{ℕ, zero, suc, List, [], ◌++◌}

-- the pieces f 0 to f (n - 1) in their order
unfoldable pub gathered : ℕ → (ℕ → List ℕ) → List ℕ
gathered zero f = []
gathered (suc n) f = gathered n f ++ f n
