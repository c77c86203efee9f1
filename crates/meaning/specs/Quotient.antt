-- The quotient of a graph by the process of one place: what is left to show of the other places.
use Rattle.std.specs.Prelude.{ℕ, zero, suc, ◌+◌, ◌*◌, ◌/◌, ◌%◌, Bool, false, cond, not, ◌&&◌, ◌||◌, List, [], ◌∷◌, ◌++◌, map, ◌==◌, nat_eq}
use Rattle.process.specs.Lts.{Lts}
use Rattle.process.specs.declared.Transition.{Transition}
use Rattle.records.specs.Codes.{takes_part}
use Rattle.records.specs.declared.Edge.{Edge}
use Rattle.records.specs.declared.Guard.{Guard}
use Rattle.records.specs.declared.Guard.TheVariants.{Plain, By}
use Rattle.scale.specs.Algebra.{Algebra}
use Rattle.meaning.specs.Graph.{Graph}
use Rattle.meaning.specs.Network.{Book, Places, asked, counts, rule_of}

-- the elements that pass a test, in their order
abbrev pub kept : {X : Type 0} → (X → Bool) → List X → List X
kept t [] = []
kept t (x ∷ xs) = cond (t x) (x ∷ kept t xs) (kept t xs)

-- the lists of all elements, one after the other
abbrev pub gathered : {X Y : Type 0} → (X → List Y) → List X → List Y
gathered f [] = []
gathered f (x ∷ xs) = f x ++ gathered f xs

-- some number below n passes the test
abbrev pub any : ℕ → (ℕ → Bool) → Bool
any zero f = false
any (suc n) f = any n f || f n

-- the places left without p
abbrev pub without : Places → ℕ → Places
without left p x = left x && not (x == p)

-- a guard after p is gone: it stays while another participant is left
abbrev pub guard_after : Book → Places → ℕ → ℕ → Guard
guard_after B left p r = cond (any 8 (counts B (without left p) r)) (By r) Plain

-- the pair of node y and state s, of a process with m states
abbrev pub pair : ℕ → ℕ → ℕ → ℕ
pair m y s = y * m + s

-- an edge that p has no part in: it leaves the process in its state s
abbrev pub edge_beside : ℕ → ℕ → Edge → Edge
edge_beside m s e = record { guard = e.guard; weight = e.weight; target = pair m e.target s }

-- an edge whose rule r takes p along by transition t
abbrev pub edge_along : Algebra → Book → Places → ℕ → ℕ → ℕ → Edge → Transition → Edge
edge_along A B left p m r e t = record { guard = guard_after B left p r; weight = A.meet e.weight t.weight; target = pair m e.target t.target }

-- what becomes of edge e in state s of the process l of place p
abbrev pub quotient_edge : Algebra → Book → Places → ℕ → Lts → ℕ → Guard → Edge → List Edge
quotient_edge A B left p l s Plain e = edge_beside l.states s e ∷ []
quotient_edge A B left p l s (By r) e =
    cond (takes_part (rule_of B r) p)
    (map (edge_along A B left p l.states r e) (kept (λ t. nat_eq t.label (asked B r p)) (l.transitions s)))
    (edge_beside l.states s e ∷ [])

-- the edges of pair (q, s), in the order of q's edges; one of lowest weight is left out
abbrev pub quotient_edges : Algebra → Book → Places → ℕ → Lts → ℕ → List Edge → List Edge
quotient_edges A B left p l s es =
    kept (λ e. not (e.weight == A.lowest)) (gathered (λ e. quotient_edge A B left p l s e.guard e) es)

-- pair (q, s) becomes node q × m + s with q's kind, block and value
abbrev pub quotient : Algebra → Book → Places → ℕ → Lts → Graph → Graph
quotient A B left p l G = record {
  nodes = G.nodes * l.states;
  initial = pair l.states G.initial l.initial;
  kind = λ i. G.kind (i / l.states);
  block = λ i. G.block (i / l.states);
  value = λ i. G.value (i / l.states);
  edges = λ i. quotient_edges A B left p l (i % l.states) (G.edges (i / l.states));
}
