-- What a call answers: a successor, or a refusal that leaves everything as it was.
use Rattle.std.specs.Prelude.{◌≡◌, Some, None, Ok, Err, Option, Result}
use Rattle.fault.specs.declared.Fault.{Fault}
use Rattle.calls.specs.declared.remainder.Refusal.{Refusal}
use Rattle.calls.specs.declared.remainder.Remainder.{Remainder}

-- A call on remainder r is refused by the fault that is due, hands r back and leaves what it was lent as `before`;
-- where none is due it leaves a successor and lent things of which P holds.
abbrev pub Answered : {T X : Type 0} → Option Fault → Remainder → X → (T → X → Type 0) → Result T Refusal → X → Type 0
Answered due r before P (Ok s) after = (due ≡ None) × P s after
Answered due r before P (Err e) after = (due ≡ Some e.fault) × (e.remainder ≡ r) × (after ≡ before)
