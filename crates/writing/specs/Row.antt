-- A node with the range of its edges.
use Rattle.std.specs.Prelude.{ℕ}
use Rattle.records.specs.declared.Node.{Node}
use Rattle.meaning.specs.Graph.{Graph}

-- node q of a graph with `count` edges from `first` on
abbrev pub row : Graph → ℕ → ℕ → ℕ → Node
row G q first count = record { kind = G.kind q; block = G.block q; first = first; count = count; value = G.value q }
