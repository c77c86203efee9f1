-- Tests that compute whether a graph fits a network.
use Rattle.std.specs.Prelude.{ℕ, zero, suc, Bool, true, not, ◌&&◌, List, [], ◌∷◌, length, ◌==◌, nat_le, nat_lt}
use Rattle.process.specs.Lts.{Lts}
use Rattle.process.specs.declared.Transition.{Transition}
use Rattle.records.specs.Codes.{none}
use Rattle.records.specs.declared.Edge.{Edge}
use Rattle.records.specs.declared.Guard.{Guard}
use Rattle.records.specs.declared.Guard.TheVariants.{Plain, By}
use Rattle.records.specs.declared.Kind.{Kind}
use Rattle.records.specs.declared.Kind.TheVariants.{AnyOf, AllOf, Fixed}
use Rattle.scale.specs.Algebra.{Algebra}
use Rattle.meaning.specs.Graph.{Graph}
use Rattle.meaning.specs.Network.{Book, Places, counts}
use Rattle.meaning.specs.Quotient.{any}

-- the test holds at every number below n
abbrev pub all : ℕ → (ℕ → Bool) → Bool
all zero t = true
all (suc n) t = all n t && t n

-- and at every element of a list
abbrev pub every : {X : Type 0} → (X → Bool) → List X → Bool
every t [] = true
every t (x ∷ xs) = t x && every t xs

-- a transition has a label, leads to a state and has a value for its weight
abbrev pub transition_test : Algebra → Lts → Transition → Bool
transition_test A l t = not (t.label == none) && (nat_lt t.target l.states && A.value t.weight)

abbrev pub tame_test : Algebra → Lts → Bool
tame_test A l = nat_lt l.initial l.states && all l.states (λ s. every (transition_test A l) (l.transitions s))

-- a guard's rule has a participant among the places left
abbrev pub guard_test : Book → Places → Guard → Bool
guard_test B left Plain = true
guard_test B left (By r) = any 8 (counts B left r)

-- a fixed node has a value
abbrev pub fixed_test : Algebra → Kind → ℕ → Bool
fixed_test A AnyOf v = true
fixed_test A AllOf v = true
fixed_test A Fixed v = A.value v

-- an edge of node q has a value for its weight, a target in the same or a higher block, and a good guard
abbrev pub edge_test : Algebra → Book → Places → Graph → ℕ → Edge → Bool
edge_test A B left G q e = A.value e.weight && (nat_lt e.target G.nodes && (nat_le (G.block q) (G.block e.target) && guard_test B left e.guard))

-- a node lies in a block of the book, and its value and edges are good
abbrev pub node_test : Algebra → Book → Places → Graph → ℕ → Bool
node_test A B left G q = nat_lt (G.block q) (length B.signs) && (fixed_test A (G.kind q) (G.value q) && every (edge_test A B left G q) (G.edges q))
