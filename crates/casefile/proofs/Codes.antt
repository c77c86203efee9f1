-- Reading a code: which stand for no sign, for no kind, and for fixed.
use Rattle.std.proofs.Common.{◌≡◌, ◌≢◌, ltb, ℕ, Ok, Err, Result, refl, arith}
use Rattle.std.specs.Prelude.{is_err}
use Rattle.std.proofs.lemmas.Bool.Decides.{nat_tests}
use Rattle.records.specs.declared.Kind.{Kind}
use Rattle.records.specs.declared.Kind.TheVariants.{AnyOf, AllOf, Fixed}
use Rattle.records.specs.declared.Sign.{Sign}
use Rattle.records.specs.declared.Sign.TheVariants.{Least, Greatest}
use Rattle.records.specs.declared.UnknownCode.{UnknownCode}
use Rattle.records.specs.Codes.{KindOf, SignOf}

pub no_sign : (c : ℕ) (r : Result Sign UnknownCode) → SignOf c r → is_err r ≡ ltb 1 c
no_sign c (Ok Least) h = grind (arith, nat_tests)
no_sign c (Ok Greatest) h = grind (arith, nat_tests)
no_sign c (Err u) h =
    let a : 0 ≢ c = h.1 Least in
    let b : 1 ≢ c = h.1 Greatest in
    grind (arith, nat_tests)

pub no_kind : (c : ℕ) (r : Result Kind UnknownCode) → KindOf c r → is_err r ≡ ltb 2 c
no_kind c (Ok AnyOf) h = grind (arith, nat_tests)
no_kind c (Ok AllOf) h = grind (arith, nat_tests)
no_kind c (Ok Fixed) h = grind (arith, nat_tests)
no_kind c (Err u) h =
    let a : 0 ≢ c = h.1 AnyOf in
    let b : 1 ≢ c = h.1 AllOf in
    let d : 2 ≢ c = h.1 Fixed in
    grind (arith, nat_tests)

pub fixed_code : (c : ℕ) (r : Result Kind UnknownCode) → KindOf c r → c ≡ 2 → r ≡ Ok Fixed
fixed_code c (Ok AnyOf) h e = absurd (omega arith)
fixed_code c (Ok AllOf) h e = absurd (omega arith)
fixed_code c (Ok Fixed) h e = refl
fixed_code c (Err u) h e = let two : 2 ≢ c = h.1 Fixed in absurd (omega arith)
