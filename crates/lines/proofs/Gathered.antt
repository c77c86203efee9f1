-- Text that is gathered piece by piece.
use Rattle.std.proofs.Common.{◌≡◌, ℕ, ◌+◌, List, [], ◌++◌, ◌∙◌, add-one}
use Rattle.lines.specs.Gathered.{gathered}

-- nothing is gathered yet
pub begun : (f : ℕ → List ℕ) (t : List ℕ) → t ≡ [] → t ≡ gathered 0 f
unfolding gathered
begun f t e = e

-- one piece more
pub one_more : (f : ℕ → List ℕ) (i : ℕ) (t u piece : List ℕ) → t ≡ gathered i f → piece ≡ f i → u ≡ t ++ piece → u ≡ gathered (i + 1) f
unfolding gathered
one_more f i t u piece before now after = rw add-one (after ∙ cc)
