-- The scale of a verdict for 64 kernel variants at once: bit v stands for variant v.
use Rattle.std.specs.Prelude.{ℕ, ◌-◌, ◌^◌, Bool, cond, ◌&&◌, bit_and, bit_or, count_ones, nat_lt}
use Rattle.scale.specs.Algebra.{Algebra}

-- every code of 64 bits is a value
abbrev pub variants_value : ℕ → Bool
variants_value x = nat_lt x (2 ^ 64)

-- bit by bit; the complement turns every bit
abbrev pub variants : Algebra
variants = record {
  value = variants_value;
  lowest = 0;
  highest = 2 ^ 64 - 1;
  join = λ x y. cond (variants_value x && variants_value y) (bit_or x y) 0;
  meet = λ x y. cond (variants_value x && variants_value y) (bit_and x y) 0;
  complement = λ x. cond (variants_value x) (2 ^ 64 - 1 - x) 0;
  rank = λ x. cond (variants_value x) (count_ones x) 0;
  height = 64;
}
