-- Folding: where the two readings without processes agree, a node is fixed.
use Rattle.std.specs.Prelude.{ℕ, cond, [], ◌==◌}
use Rattle.records.specs.declared.Kind.TheVariants.{Fixed}
use Rattle.meaning.specs.Graph.{Graph}

-- where the lower values R and the upper values Q agree, the node is fixed at that value and loses its
-- edges; all else is kept
abbrev pub fold_graph : (ℕ → ℕ) → (ℕ → ℕ) → Graph → Graph
fold_graph R Q G = record {
  nodes = G.nodes;
  initial = G.initial;
  kind = λ q. cond (R q == Q q) Fixed (G.kind q);
  block = G.block;
  value = λ q. cond (R q == Q q) (R q) (G.value q);
  edges = λ q. cond (R q == Q q) [] (G.edges q);
}
