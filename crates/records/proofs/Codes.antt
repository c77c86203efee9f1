-- Reading a code, and what is taken where it stands for nothing.
use Rattle.std.proofs.Common.{◌≡◌, ◌≢◌, ℕ, Ok, Err, Result, arith}
use Rattle.std.specs.Result.{result_unwrap_or}
use Rattle.std.proofs.lemmas.Bool.Decides.{nat_tests}
use Rattle.records.specs.declared.Kind.{Kind}
use Rattle.records.specs.declared.Kind.TheVariants.{AnyOf, AllOf, Fixed}
use Rattle.records.specs.declared.Sign.{Sign}
use Rattle.records.specs.declared.Sign.TheVariants.{Least, Greatest}
use Rattle.records.specs.declared.UnknownCode.{UnknownCode}
use Rattle.records.specs.Codes.{kind_of, KindOf, sign_of, SignOf}

pub kind_or_fixed : (c : ℕ) (r : Result Kind UnknownCode) → KindOf c r → result_unwrap_or r Fixed ≡ kind_of c
kind_or_fixed c (Ok AnyOf) h = grind (arith, nat_tests)
kind_or_fixed c (Ok AllOf) h = grind (arith, nat_tests)
kind_or_fixed c (Ok Fixed) h = grind (arith, nat_tests)
kind_or_fixed c (Err u) h =
    let a : 0 ≢ c = h.1 AnyOf in
    let b : 1 ≢ c = h.1 AllOf in
    grind (arith, nat_tests)

pub sign_or_greatest : (c : ℕ) (r : Result Sign UnknownCode) → SignOf c r → result_unwrap_or r Greatest ≡ sign_of c
sign_or_greatest c (Ok Least) h = grind (arith, nat_tests)
sign_or_greatest c (Ok Greatest) h = grind (arith, nat_tests)
sign_or_greatest c (Err u) h =
    let a : 0 ≢ c = h.1 Least in
    grind (arith, nat_tests)
