-- A network and a graph cut to one variant: every weight and fixed value is replaced by its bit.
use Rattle.std.specs.Prelude.{ℕ, map}
use Rattle.process.specs.SingleVariant.{bit, single_variant}
use Rattle.records.specs.declared.Edge.{Edge}
use Rattle.meaning.specs.Graph.{Graph}
use Rattle.meaning.specs.Network.{Network}

abbrev pub cut_network : ℕ → Network → Network
cut_network v N p = single_variant v (N p)

abbrev pub cut_edge : ℕ → Edge → Edge
cut_edge v e = record { guard = e.guard; weight = bit v e.weight; target = e.target }

abbrev pub cut_graph : ℕ → Graph → Graph
cut_graph v G = record {
  nodes = G.nodes;
  initial = G.initial;
  kind = G.kind;
  block = G.block;
  value = λ q. bit v (G.value q);
  edges = λ q. map (cut_edge v) (G.edges q);
}
