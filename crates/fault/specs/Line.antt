-- The line that a program prints for a refusal.
use Rattle.std.specs.Prelude.{ℕ, List, ◌++◌, codes, decimal}
use Rattle.fault.specs.Fault.{number, first, second}
use Rattle.fault.specs.declared.Fault.{Fault}

-- `refused`, the number and both positions in decimal, one space between
abbrev pub refused : Fault → List ℕ
refused f = codes "refused " ++ (decimal (number f) ++ (codes " " ++ (decimal (first f) ++ (codes " " ++ decimal (second f)))))

-- the same and a line feed
abbrev pub refused_line : Fault → List ℕ
refused_line f = refused f ++ codes "\n"
