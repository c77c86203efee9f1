-- The words that kinds and signs are printed as, and the text of a code that stands for none.
use Rattle.std.specs.Prelude.{ℕ, List, ◌++◌, codes, decimal}
use Rattle.records.specs.declared.Kind.{Kind}
use Rattle.records.specs.declared.Kind.TheVariants.{AnyOf, AllOf, Fixed}
use Rattle.records.specs.declared.Sign.{Sign}
use Rattle.records.specs.declared.Sign.TheVariants.{Least, Greatest}
use Rattle.records.specs.declared.UnknownCode.{UnknownCode}

abbrev pub kind_word : Kind → List ℕ
kind_word AnyOf = codes "any-of"
kind_word AllOf = codes "all-of"
kind_word Fixed = codes "fixed"

abbrev pub sign_word : Sign → List ℕ
sign_word Least = codes "least"
sign_word Greatest = codes "greatest"

abbrev pub unknown_code : UnknownCode → List ℕ
unknown_code u = codes "nothing has the code " ++ decimal u.0
