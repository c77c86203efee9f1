-- The codes that stand for kinds, signs, idle places and plain edges.
use Rattle.std.specs.Prelude.{◌≡◌, ◌≢◌, Bool, cond, not, ℕ, Ok, Err, Result, slice_index, ◌==◌, nat_lt}
use Rattle.records.specs.declared.Kind.{Kind}
use Rattle.records.specs.declared.Kind.TheVariants.{AnyOf, AllOf, Fixed}
use Rattle.records.specs.declared.Sign.{Sign}
use Rattle.records.specs.declared.Sign.TheVariants.{Least, Greatest}
use Rattle.records.specs.declared.Rule.{Rule}
use Rattle.records.specs.declared.UnknownCode.{UnknownCode}

-- in a rule: the place does not take part; on a formula's edge: it is plain
abbrev pub none : ℕ
none = 65535

abbrev pub kind_code : Kind → ℕ
kind_code AnyOf = 0
kind_code AllOf = 1
kind_code Fixed = 2

-- the kind of a code; every code past 1 is read as fixed
abbrev pub kind_of : ℕ → Kind
kind_of c = cond (c == 0) AnyOf (cond (c == 1) AllOf Fixed)

-- reading a code: the kind that it stands for, or the code where it stands for none
abbrev pub KindOf : ℕ → Result Kind UnknownCode → Type 0
KindOf c (Ok k) = kind_code k ≡ c
KindOf c (Err u) = (u.0 ≡ c) × ((k : Kind) → kind_code k ≢ c)

abbrev pub sign_code : Sign → ℕ
sign_code Least = 0
sign_code Greatest = 1

-- the sign of a code; every code past 0 is read as greatest
abbrev pub sign_of : ℕ → Sign
sign_of c = cond (c == 0) Least Greatest

-- reading a code: the sign that it stands for, or the code where it stands for none
abbrev pub SignOf : ℕ → Result Sign UnknownCode → Type 0
SignOf c (Ok s) = sign_code s ≡ c
SignOf c (Err u) = (u.0 ≡ c) × ((s : Sign) → sign_code s ≢ c)

-- the label that the rule asks of a place, `none` where the place is idle or past the eighth
abbrev pub label : Rule → ℕ → ℕ
label r p = cond (nat_lt p 8) (slice_index r.labels p) none

-- the place is a participant of the rule
abbrev pub takes_part : Rule → ℕ → Bool
takes_part r p = not (label r p == none)
