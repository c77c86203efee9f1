-- Where everything stands in a case file: header, rules, blocks, nodes, edges, and the tables behind them.
use Rattle.std.specs.Prelude.{ℕ, ◌+◌, ◌*◌, cond, List, map, drop, nat_lt}
use Rattle.std.specs.List.{range_with_len}
use Rattle.records.specs.Codes.{none, kind_of, sign_of}
use Rattle.records.specs.declared.Node.{Node}
use Rattle.records.specs.declared.Rule.{Rule}
use Rattle.records.specs.declared.Sign.{Sign}
use Rattle.format.specs.Bytes.{byte, two, four, eight}
use Rattle.format.specs.Table.{table_from}
use Rattle.format.specs.declared.header.Header.{Header}
use Rattle.format.specs.declared.file.FormulaEdge.{FormulaEdge}

-- the header is seven numbers of four bytes; the first names the scale
abbrev pub scale_number : List ℕ → ℕ
scale_number bs = four bs 0

abbrev pub header_of : List ℕ → Header
header_of bs = record {
  places = four bs 4;
  rules = four bs 8;
  blocks = four bs 12;
  nodes = four bs 16;
  edges = four bs 20;
  initial = four bs 24;
}

-- a rule is a label for each place and the result, two bytes each
abbrev pub rule_size : Header → ℕ
rule_size h = 2 * (h.places + 1)

-- where an entry begins: the sections follow the header without gaps, each where the one before would go on
unfoldable pub rule_at : Header → ℕ → ℕ
rule_at h r = 28 + r * rule_size h

unfoldable pub block_at : Header → ℕ → ℕ
block_at h b = rule_at h h.rules + b

unfoldable pub node_at : Header → ℕ → ℕ
node_at h i = block_at h h.blocks + 16 * i

unfoldable pub edge_at : Header → ℕ → ℕ
edge_at h e = node_at h h.nodes + 8 * e

abbrev pub tables_at : Header → ℕ
tables_at h = edge_at h h.edges

-- What the sections hold, for any bytes bs and the header h that they are read by.
abbrev pub rule_label : List ℕ → Header → ℕ → ℕ → ℕ
rule_label bs h r p = two bs (rule_at h r + 2 * p)

abbrev pub rule_result : List ℕ → Header → ℕ → ℕ
rule_result bs h r = rule_label bs h r h.places

-- the places from the file's number of places on are idle
abbrev pub rule_asks : List ℕ → Header → ℕ → ℕ → ℕ
rule_asks bs h r p = cond (nat_lt p h.places) (rule_label bs h r p) none

abbrev pub rule_row : List ℕ → Header → ℕ → Rule
rule_row bs h r = record {
  labels = map (rule_asks bs h r) (range_with_len 0 8);
  result = rule_result bs h r;
}

abbrev pub block_code : List ℕ → Header → ℕ → ℕ
block_code bs h b = byte bs (block_at h b)

abbrev pub block_sign : List ℕ → Header → ℕ → Sign
block_sign bs h b = sign_of (block_code bs h b)

abbrev pub kind_byte : List ℕ → Header → ℕ → ℕ
kind_byte bs h i = byte bs (node_at h i)

abbrev pub node_row : List ℕ → Header → ℕ → Node
node_row bs h i = record {
  kind = kind_of (kind_byte bs h i);
  block = byte bs (node_at h i + 1);
  count = two bs (node_at h i + 2);
  first = four bs (node_at h i + 4);
  value = eight bs (node_at h i + 8);
}

abbrev pub edge_row : List ℕ → Header → ℕ → FormulaEdge
edge_row bs h e = record {
  label = two bs (edge_at h e);
  target = four bs (edge_at h e + 4);
}

-- the two bytes between an edge's label and its target, which are to be 0
abbrev pub edge_zero : List ℕ → Header → ℕ → ℕ
edge_zero bs h e = two bs (edge_at h e + 2)

-- the bytes from place p's table on
abbrev pub table_in : List ℕ → Header → ℕ → List ℕ
table_in bs h p = table_from p (drop (tables_at h) bs)
