-- Node and edge records in two memories, and the graph that they hold.
use Rattle.std.specs.Prelude.{ℕ, zero, suc, ◌+◌, List, ◌++◌, map, length, take, drop, slice_index_or}
use Rattle.std.specs.List.{range_with_len}
use Rattle.records.specs.declared.Edge.{Edge}
use Rattle.records.specs.declared.Kind.TheVariants.{AnyOf}
use Rattle.records.specs.declared.Node.{Node}
use Rattle.meaning.specs.Graph.{Graph}
use Rattle.meaning.specs.Quotient.{gathered}
use Rattle.calls.specs.declared.remainder.Remainder.{Remainder}

-- a pair of memories, one for nodes and one for edges
pub record Memory : Type 0 where
  pub nodes : List Node
  pub edges : List Edge

-- what is read past the end of a node memory
abbrev pub no_node : Node
no_node = record { kind = AnyOf; block = 0; first = 0; count = 0; value = 0 }

abbrev pub node_in : Memory → ℕ → Node
node_in m q = slice_index_or m.nodes q no_node

-- the edges of a node: `count` entries from `first` on
abbrev pub edges_of : Memory → Node → List Edge
edges_of m n = take n.count (drop n.first m.edges)

-- the graph that a remainder has in memory
abbrev pub held : Remainder → Memory → Graph
held r m = record {
  nodes = r.nodes;
  initial = r.initial;
  kind = λ q. (node_in m q).kind;
  block = λ q. (node_in m q).block;
  value = λ q. (node_in m q).value;
  edges = λ q. edges_of m (node_in m q);
}

-- A graph written out: its nodes in order, each with the range of its edges, and all edges in that order.
abbrev pub edges_before : Graph → ℕ → ℕ
edges_before G zero = 0
edges_before G (suc q) = edges_before G q + length (G.edges q)

abbrev pub node_row : Graph → ℕ → Node
node_row G q = record { kind = G.kind q; block = G.block q; first = edges_before G q; count = length (G.edges q); value = G.value q }

abbrev pub node_rows : Graph → List Node
node_rows G = map (node_row G) (range_with_len 0 G.nodes)

abbrev pub edge_rows : Graph → List Edge
edge_rows G = gathered G.edges (range_with_len 0 G.nodes)

-- entries at the front of a memory or buffer, what stands behind them as it was
abbrev pub over : {X : Type 0} → List X → List X → List X
over new before = new ++ drop (length new) before

abbrev pub written : Graph → Memory → Memory
written G m = record { nodes = over (node_rows G) m.nodes; edges = over (edge_rows G) m.edges }

-- the remainder that stands for a graph, with the places left
abbrev pub numbers_of : Graph → ℕ → Remainder
numbers_of G left = record { nodes = G.nodes; edges = length (edge_rows G); initial = G.initial; left = left }
