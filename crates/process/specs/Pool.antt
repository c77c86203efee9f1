-- What a pool means: a counter of the units taken, from 0 to its capacity.
use Rattle.std.specs.Prelude.{ℕ, ◌+◌, ◌-◌, Bool, cond, List, [], ◌∷◌, ◌++◌, nat_lt}
use Rattle.std.proofs.lemmas.Bool.{cond-false, le-ltb}
use Rattle.process.specs.Lts.{Lts, Bounded}
use Rattle.process.specs.declared.Transition.{Transition}
use Rattle.process.specs.declared.pool.Pool.{Pool}

-- the element where the test holds, and nothing otherwise
abbrev pub when : Bool → Transition → List Transition
when b t = cond b (t ∷ []) []

-- state s: a take while s is below the capacity, then a give while it is above 0
abbrev pub pool_transitions : Pool → ℕ → List Transition
pool_transitions p s =
    when (nat_lt s p.capacity) (record { label = p.take; weight = p.weight; target = s + 1 })
    ++ when (nat_lt 0 s) (record { label = p.give; weight = p.weight; target = s - 1 })

abbrev pub pool : Pool → Lts
pool p = record {
  states = p.capacity + 1;
  initial = 0;
  transitions = λ s. cond (nat_lt s (p.capacity + 1)) (pool_transitions p s) [];
}

-- past the capacity there is no state, and so no transition
pub pool_bounded : (p : Pool) → Bounded (pool p)
pool_bounded p s h = cond-false (nat_lt s (p.capacity + 1)) (pool_transitions p s) [] (le-ltb s (p.capacity + 1) h)
