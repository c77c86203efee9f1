-- The first of several faults: by the order of the checks, and by position within one check.
use Rattle.std.specs.Prelude.{◌≡◌, ℕ, zero, suc, Bool, cond, Some, None, Ok, Err, Option, Result}

-- the fault x where the test holds
abbrev pub flag : {X : Type 0} → Bool → X → Option X
flag b x = cond b (Some x) None

-- the first fault, and where there is none the second
abbrev pub or_else : {X : Type 0} → Option X → Option X → Option X
or_else (Some x) o = Some x
or_else None o = o

-- the fault at the least position below n that has one
unfoldable pub earliest : {X : Type 0} → ℕ → (ℕ → Option X) → Option X
earliest zero f = None
earliest (suc n) f = or_else (earliest n f) (f n)

-- the answer of a check: the fault where there is one, and otherwise a value of which P holds
abbrev pub Answers : {T E : Type 0} → Option E → (T → Type 0) → Result T E → Type 0
Answers o P (Ok x) = (o ≡ None) × P x
Answers o P (Err e) = o ≡ Some e

-- the same for a check that answers nothing else
abbrev pub Passes : {T E : Type 0} → Option E → Result T E → Type 0
Passes o r = Answers o (λ _. Unit {0}) r
