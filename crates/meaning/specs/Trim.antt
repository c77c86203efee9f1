-- Trimming: the nodes that can be reached from the initial one, in their order.
use Rattle.std.specs.Prelude.{◌≡◌, ℕ, zero, suc, ◌+◌, ◌<◌, Bool, true, cond, List, [], ◌∷◌, ◌++◌, map, slice_index}
use Rattle.records.specs.declared.Edge.{Edge}
use Rattle.meaning.specs.Graph.{Graph}
use Rattle.meaning.specs.Member.{In}

-- Node q can be reached: it is the initial node, or an edge of a node that can be reached leads to it.
pub data Reached (G : Graph) : ℕ → Type 0 where
  begins : Reached G G.initial
  follows : {q : ℕ} (e : Edge) → Reached G q → In e (G.edges q) → Reached G e.target

-- the marks are at the nodes that can be reached
abbrev pub Marks : Graph → (ℕ → Bool) → Type 0
Marks G marks = (q : ℕ) → q < G.nodes → (marks q ≡ true → Reached G q) × (Reached G q → marks q ≡ true)

-- how many marked nodes stand before q: the number that q gets
abbrev pub rank : (ℕ → Bool) → ℕ → ℕ
rank marks zero = 0
rank marks (suc q) = rank marks q + cond (marks q) 1 0

-- the marked nodes below n, in their order
abbrev pub marked : (ℕ → Bool) → ℕ → List ℕ
marked marks zero = []
marked marks (suc n) = marked marks n ++ cond (marks n) (n ∷ []) []

-- an edge to the number that its target gets
abbrev pub rename : (ℕ → Bool) → Edge → Edge
rename marks e = record { guard = e.guard; weight = e.weight; target = rank marks e.target }

-- node i of the trimmed graph is the marked node number i, with all its edges
abbrev pub trim_graph : (ℕ → Bool) → Graph → Graph
trim_graph marks G = record {
  nodes = rank marks G.nodes;
  initial = rank marks G.initial;
  kind = λ i. G.kind (slice_index (marked marks G.nodes) i);
  block = λ i. G.block (slice_index (marked marks G.nodes) i);
  value = λ i. G.value (slice_index (marked marks G.nodes) i);
  edges = λ i. map (rename marks) (G.edges (slice_index (marked marks G.nodes) i));
}
