-- So far the pieces before are gathered.
use Rattle.std.proofs.Common.{◌≡◌, ℕ, List, IfOk, string_bytes}
use Rattle.fault.specs.Each.{Each}
use Rattle.lines.specs.Gathered.{gathered}
use Rattle.lines.proofs.pieces.whole.Given as goal

abbrev pub invariant-loop-i : goal.invariant-loop-i
invariant-loop-i g l = (text : ℕ → List ℕ) → Each l.count (goal.F-post g l.piece) (λ i r. IfOk r (λ t. string_bytes t ≡ text i)) → string_bytes l.text ≡ gathered l.i text
