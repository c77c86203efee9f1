-- The scale of a plain verdict: 0 no, 1 yes.
use Rattle.std.specs.Prelude.{ℕ, ◌-◌, min, max, Bool, cond, ◌&&◌, nat_lt}
use Rattle.scale.specs.Algebra.{Algebra}

-- 0 and 1 are the values
abbrev pub yes_no_value : ℕ → Bool
yes_no_value x = nat_lt x 2

abbrev pub yes_no : Algebra
yes_no = record {
  value = yes_no_value;
  lowest = 0;
  highest = 1;
  join = λ x y. cond (yes_no_value x && yes_no_value y) (max x y) 0;
  meet = λ x y. cond (yes_no_value x && yes_no_value y) (min x y) 0;
  complement = λ x. cond (yes_no_value x) (1 - x) 0;
  rank = λ x. cond (yes_no_value x) x 0;
  height = 1;
}
