-- The laws of both scales, as terms that other proofs can name.
use Rattle.std.specs.Prelude.{◌-◌, ◌^◌, refl}
use Rattle.std.proofs.Common.{arith}
use Rattle.std.proofs.lemmas.Nat.{and_comm, or_comm, or_lt, and_mask, ones-le}
use Rattle.std.specs.Int.Bits.{and_lt}
use Rattle.std.proofs.lemmas.Bool.{ltb-true}
use Rattle.std.proofs.lemmas.Bool.Decides.{nat_tests}
use Rattle.scale.specs.Algebra.{Laws}
use Rattle.scale.specs.Variants.{variants}
use Rattle.scale.specs.YesNo.{yes_no}
use Rattle.scale.specs.Bitwise.{or_assoc, and_assoc, or_and, and_or, and_distributes, complement_or, ones_rise}

-- each from the same law of the bitwise operations, which keep within 64 bits
pub variants_laws : Laws variants
variants_laws =
    record {
      coded = λ x h. ltb-true x (2 ^ 64) h;
      lowest_value = refl;
      highest_value = refl;
      join_value = λ x y. grind (arith, nat_tests, or_lt 64 x y);
      meet_value = λ x y. grind (arith, nat_tests, and_lt 64 x y);
      complement_value = λ x. grind (arith, nat_tests);
      join_stray = λ x y h. grind (arith, nat_tests);
      meet_stray = λ x y h. grind (arith, nat_tests);
      complement_stray = λ x h. grind (arith, nat_tests);
      join_comm = λ x y. grind (arith, nat_tests, or_comm);
      meet_comm = λ x y. grind (arith, nat_tests, and_comm);
      join_assoc = λ x y z hx hy hz. grind (arith, nat_tests, or_lt 64 x y, or_lt 64 y z, or_assoc x y z);
      meet_assoc = λ x y z hx hy hz. grind (arith, nat_tests, and_lt 64 x y, and_lt 64 y z, and_assoc x y z);
      join_meet = λ x y hx hy. grind (arith, nat_tests, and_lt 64 x y, or_and x y);
      meet_join = λ x y hx hy. grind (arith, nat_tests, or_lt 64 x y, and_or x y);
      distributes = λ x y z hx hy hz. grind (arith, nat_tests, or_lt 64 y z, and_lt 64 x y, and_lt 64 x z, and_distributes x y z);
      twice = λ x h. grind (arith, nat_tests);
      complement_join = λ x y hx hy. grind (arith, nat_tests, or_lt 64 x y, complement_or 64 x y);
      lowest_join = λ x h. grind (arith, nat_tests);
      highest_meet = λ x h. grind (arith, nat_tests, and_comm (2 ^ 64 - 1) x, and_mask x 64);
      apart = λ e. omega arith;
      rank_within = λ x. grind (arith, nat_tests, ones-le 64 x);
      rank_stray = λ x h. grind (arith, nat_tests);
      rank_rises = λ x y under differ. grind (arith, nat_tests, ones_rise 64 x y);
      tall = omega arith;
      short = omega arith;
    }

-- by the cases of two codes
pub yes_no_laws : Laws yes_no
yes_no_laws =
    record {
      coded = λ x h. grind (arith, nat_tests);
      lowest_value = refl;
      highest_value = refl;
      join_value = λ x y. grind (arith, nat_tests);
      meet_value = λ x y. grind (arith, nat_tests);
      complement_value = λ x. grind (arith, nat_tests);
      join_stray = λ x y h. grind (arith, nat_tests);
      meet_stray = λ x y h. grind (arith, nat_tests);
      complement_stray = λ x h. grind (arith, nat_tests);
      join_comm = λ x y. grind (arith, nat_tests);
      meet_comm = λ x y. grind (arith, nat_tests);
      join_assoc = λ x y z hx hy hz. grind (arith, nat_tests);
      meet_assoc = λ x y z hx hy hz. grind (arith, nat_tests);
      join_meet = λ x y hx hy. grind (arith, nat_tests);
      meet_join = λ x y hx hy. grind (arith, nat_tests);
      distributes = λ x y z hx hy hz. grind (arith, nat_tests);
      twice = λ x h. grind (arith, nat_tests);
      complement_join = λ x y hx hy. grind (arith, nat_tests);
      lowest_join = λ x h. grind (arith, nat_tests);
      highest_meet = λ x h. grind (arith, nat_tests);
      apart = λ e. omega arith;
      rank_within = λ x. grind (arith, nat_tests);
      rank_stray = λ x h. grind (arith, nat_tests);
      rank_rises = λ x y under differ. grind (arith, nat_tests);
      tall = omega arith;
      short = omega arith;
    }
