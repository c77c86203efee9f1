-- The account of a whole case, section by section. The case is its bytes bs, read by the header h.
use Rattle.std.specs.Prelude.{ℕ, cond, List, ◌++◌, codes, decimal, ◌==◌}
use Rattle.format.specs.Layout.{scale_number, rule_row, block_sign, node_row, edge_row, table_in}
use Rattle.format.specs.Table.{states, transitions, initial}
use Rattle.format.specs.declared.header.Header.{Header}
use Rattle.lines.specs.Gathered.{gathered}
use Rattle.lines.specs.Lines.{rule_line, block_line, node_line, edge_line, place_line}

abbrev pub scale_word : ℕ → List ℕ
scale_word n = cond (n == 1) (codes "variants") (codes "yes/no")

abbrev pub heading : List ℕ → Header → List ℕ
heading bs h =
    codes "scale " ++ (scale_word (scale_number bs) ++ (codes "\nplaces " ++ (decimal h.places ++ codes "\n")))

-- a title, the number of lines, and the lines
abbrev pub section : List ℕ → ℕ → (ℕ → List ℕ) → List ℕ
section title count text = title ++ (codes " " ++ (decimal count ++ (codes "\n" ++ gathered count text)))

abbrev pub rule_text : List ℕ → Header → ℕ → List ℕ
rule_text bs h r = rule_line r (rule_row bs h r)

abbrev pub rules_text : List ℕ → Header → List ℕ
rules_text bs h = section (codes "rules") h.rules (rule_text bs h)

abbrev pub block_text : List ℕ → Header → ℕ → List ℕ
block_text bs h b = block_line b (block_sign bs h b)

abbrev pub blocks_text : List ℕ → Header → List ℕ
blocks_text bs h = section (codes "blocks") h.blocks (block_text bs h)

abbrev pub node_text : List ℕ → Header → ℕ → List ℕ
node_text bs h i = node_line i (node_row bs h i)

abbrev pub nodes_text : List ℕ → Header → List ℕ
nodes_text bs h =
    codes "nodes " ++ (decimal h.nodes ++ (codes ", initial " ++ (decimal h.initial ++ (codes "\n" ++ gathered h.nodes (node_text bs h)))))

abbrev pub edge_text : List ℕ → Header → ℕ → List ℕ
edge_text bs h e = edge_line e (edge_row bs h e)

abbrev pub edges_text : List ℕ → Header → List ℕ
edges_text bs h = section (codes "edges") h.edges (edge_text bs h)

abbrev pub place_text : List ℕ → Header → ℕ → List ℕ
place_text bs h p =
    place_line p (states (table_in bs h p)) (transitions (table_in bs h p)) (initial (table_in bs h p))

abbrev pub places_text : List ℕ → Header → List ℕ
places_text bs h = gathered h.places (place_text bs h)

unfoldable pub account_text : List ℕ → Header → List ℕ
account_text bs h =
    heading bs h ++ (rules_text bs h ++ (blocks_text bs h ++ (nodes_text bs h ++ (edges_text bs h ++ places_text bs h))))
