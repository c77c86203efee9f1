-- The edges that a formula edge becomes.
use Rattle.std.specs.Prelude.{ℕ}
use Rattle.records.specs.declared.Edge.{Edge}
use Rattle.records.specs.declared.Guard.TheVariants.{By}

-- one by rule r
abbrev pub ruled : ℕ → ℕ → ℕ → Edge
ruled weight target r = record { guard = By r; weight = weight; target = target }
