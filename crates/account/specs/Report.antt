-- What is said of an input: its refusal, or the account of the case that it is.
use Rattle.std.specs.Prelude.{ℕ, cond, List, length, Some, None, codes, Option, ◌==◌, nat_lt}
use Rattle.fault.specs.Line.{refused_line}
use Rattle.fault.specs.declared.Fault.{Fault}
use Rattle.fault.specs.declared.Fault.TheVariants.{Oversize}
use Rattle.scale.specs.YesNo.{yes_no}
use Rattle.scale.specs.Variants.{variants}
use Rattle.format.specs.Layout.{scale_number, header_of}
use Rattle.fault.specs.First.{flag, or_else}
use Rattle.casefile.specs.Refusal.{file_fault}
use Rattle.account.specs.Account.{account_text}

-- the case is opened at the scale that its header names, and at yes/no, which refuses the number, where it names none
unfoldable pub case_fault : List ℕ → Option Fault
case_fault bs = cond (scale_number bs == 1) (file_fault variants 1 bs) (file_fault yes_no 0 bs)

-- 11 comes before everything else: an input has at most 65,536 bytes
abbrev pub input_fault : List ℕ → Option Fault
input_fault bs = or_else (flag (nat_lt 65536 (length bs)) Oversize) (case_fault bs)

-- the refusal's line, or the text where there is none
abbrev pub told : Option Fault → List ℕ → List ℕ
told None text = text
told (Some f) text = refused_line f

-- all that is said
abbrev pub report_text : List ℕ → List ℕ
report_text bs = told (input_fault bs) (account_text bs (header_of bs))

-- in one line
abbrev pub outcome_text : List ℕ → List ℕ
outcome_text bs = told (input_fault bs) (codes "accepted\n")
