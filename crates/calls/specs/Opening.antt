-- The rule book and the graph that a case file opens as.
use Rattle.std.specs.Prelude.{ℕ, ◌+◌, cond, List, [], ◌∷◌, map, ◌==◌}
use Rattle.std.specs.List.{range_with_len}
use Rattle.records.specs.Codes.{none}
use Rattle.records.specs.declared.Edge.{Edge}
use Rattle.records.specs.declared.Guard.TheVariants.{Plain, By}
use Rattle.records.specs.declared.Rule.{Rule}
use Rattle.scale.specs.Algebra.{Algebra}
use Rattle.format.specs.Layout.{header_of, rule_row, block_sign, node_row, edge_row}
use Rattle.format.specs.declared.file.FormulaEdge.{FormulaEdge}
use Rattle.format.specs.declared.header.Header.{Header}
use Rattle.meaning.specs.Graph.{Graph}
use Rattle.meaning.specs.Network.{Book}
use Rattle.meaning.specs.Quotient.{gathered}

-- places, rules and blocks of a case, read by a header
abbrev pub book_in : List ℕ → Header → Book
book_in bs h = record { places = h.places; rules = map (rule_row bs h) (range_with_len 0 h.rules); signs = map (block_sign bs h) (range_with_len 0 h.blocks) }

-- those of the case by its own header
abbrev pub book_of : List ℕ → Book
book_of bs = book_in bs (header_of bs)

-- the numbers of the rules with that result, in their order; the first of the list has number n
abbrev pub rules_for : ℕ → ℕ → List Rule → List ℕ
rules_for label n [] = []
rules_for label n (r ∷ rs) = cond (r.result == label) (n ∷ rules_for label (n + 1) rs) (rules_for label (n + 1) rs)

-- what a formula edge becomes: a plain edge, or one edge for each rule with its label for result; weights
-- are highest
abbrev pub opened_edge : Algebra → List Rule → FormulaEdge → List Edge
opened_edge A rules e =
    cond (e.label == none)
    (record { guard = Plain; weight = A.highest; target = e.target } ∷ [])
    (map (λ r. record { guard = By r; weight = A.highest; target = e.target }) (rules_for e.label 0 rules))

-- the formula's graph: its nodes, each with its own edges so opened, in their order
abbrev pub formula_graph : Algebra → List ℕ → Graph
formula_graph A bs =
    let h = header_of bs in
    record {
      nodes = h.nodes;
      initial = h.initial;
      kind = λ q. (node_row bs h q).kind;
      block = λ q. (node_row bs h q).block;
      value = λ q. (node_row bs h q).value;
      edges = λ q. gathered (λ e. opened_edge A (book_of bs).rules (edge_row bs h e)) (range_with_len (node_row bs h q).first (node_row bs h q).count);
    }

-- the same, read by a given header
abbrev pub formula_in : Algebra → List ℕ → Header → Graph
formula_in A bs h = record {
  nodes = h.nodes;
  initial = h.initial;
  kind = λ q. (node_row bs h q).kind;
  block = λ q. (node_row bs h q).block;
  value = λ q. (node_row bs h q).value;
  edges = λ q. gathered (λ e. opened_edge A (book_in bs h).rules (edge_row bs h e)) (range_with_len (node_row bs h q).first (node_row bs h q).count);
}
