-- Why a case file is refused: every check of the format, in its order, the first position reported.
use Rattle.std.specs.Prelude.{◌≡◌, ℕ, ◌+◌, ◌-◌, ◌<◌, ◌≤◌, Bool, true, cond, not, ◌&&◌, ◌||◌, List, length, is_some, Some, None, Option, ◌==◌, nat_le, nat_lt}
use Rattle.std.specs.Option.{option_map}
use Rattle.fault.specs.declared.Fault.{Fault}
use Rattle.fault.specs.declared.Fault.TheVariants.{ShortFile, Header, Sections, Rule, Block, Node, Edge, Table, NotLeft}
use Rattle.records.specs.Codes.{none}
use Rattle.scale.specs.Algebra.{Algebra}
use Rattle.fault.specs.First.{flag, or_else, earliest}
use Rattle.format.specs.Layout.{scale_number, header_of, tables_at, rule_label, rule_result, block_code, kind_byte, node_row, edge_row, edge_zero, table_in}
use Rattle.casefile.specs.TableFault.{table_fault, excess_fault}
use Rattle.format.specs.declared.header.Header as declared

-- 1: the file is shorter than a header
abbrev pub short_fault : List ℕ → Option Fault
short_fault bs = flag (nat_lt (length bs) 28) (ShortFile (length bs))

-- x is not among low to high
abbrev pub outside : ℕ → ℕ → ℕ → Bool
outside low high x = nat_lt x low || nat_lt high x

-- 2: a header field names another scale than number n, or is out of range, at its first byte
abbrev pub header_fault : ℕ → List ℕ → Option Fault
header_fault n bs =
    let h = header_of bs in
    or_else (flag (not (scale_number bs == n)) (Header 0))
    (or_else (flag (outside 1 8 h.places) (Header 4))
    (or_else (flag (outside 0 256 h.rules) (Header 8))
    (or_else (flag (outside 1 16 h.blocks) (Header 12))
    (or_else (flag (outside 1 4096 h.nodes) (Header 16))
    (or_else (flag (outside 0 16384 h.edges) (Header 20))
    (flag (not (nat_lt h.initial h.nodes)) (Header 24)))))))

-- 3: rules, blocks, nodes and edges end past the file
abbrev pub sections_fault : List ℕ → declared.Header → Option Fault
sections_fault bs h = flag (nat_lt (length bs) (tables_at h)) (Sections (length bs))

-- place p, where it takes part in rule r
abbrev pub participant : List ℕ → declared.Header → ℕ → ℕ → Option ℕ
participant bs h r p = flag (not (rule_label bs h r p == none)) p

abbrev pub has_participant : List ℕ → declared.Header → ℕ → Bool
has_participant bs h r = is_some (earliest h.places (participant bs h r))

-- 4: a rule without participant, or with result `none`
abbrev pub rule_fault : List ℕ → declared.Header → ℕ → Option Fault
rule_fault bs h r = flag (not (has_participant bs h r) || rule_result bs h r == none) (Rule r)

-- 5: a block that is neither least nor greatest
abbrev pub block_fault : List ℕ → declared.Header → ℕ → Option Fault
block_fault bs h b = flag (nat_lt 1 (block_code bs h b)) (Block b)

-- where node i's edges are to begin: at 0, and then where the last node's end
abbrev pub due : List ℕ → declared.Header → ℕ → ℕ
due bs h i = cond (i == 0) 0 ((node_row bs h (i - 1)).first + (node_row bs h (i - 1)).count)

-- a fixed node has a value of the scale and no edges, any other the value 0
abbrev pub value_wrong : Algebra → List ℕ → declared.Header → ℕ → Bool
value_wrong A bs h i =
    let n = node_row bs h i in
    cond (kind_byte bs h i == 2) (not (A.value n.value) || not (n.count == 0)) (not (n.value == 0))

-- 6: a node's kind, block, edge range or value
abbrev pub node_fault : Algebra → List ℕ → declared.Header → ℕ → Option Fault
node_fault A bs h i =
    let n = node_row bs h i in
    flag (nat_lt 2 (kind_byte bs h i)
    || not (nat_lt n.block h.blocks)
    || not (n.first == due bs h i)
    || nat_lt h.edges (n.first + n.count)
    || value_wrong A bs h i) (Node i)

-- what the nodes' check leaves to the edges': the ranges follow one another and end within the edges
pub record LaidOut (bs : List ℕ) (h : declared.Header) : Type 0 where
  pub follows : (i : ℕ) → i < h.nodes → (node_row bs h i).first ≡ due bs h i
  pub ends : (i : ℕ) → i < h.nodes → (node_row bs h i).first + (node_row bs h i).count ≤ h.edges
  pub few : h.edges ≤ 16384

-- node i has edge e
abbrev pub owns : List ℕ → declared.Header → ℕ → ℕ → Bool
owns bs h i e = nat_le (node_row bs h i).first e && nat_lt e ((node_row bs h i).first + (node_row bs h i).count)

-- the node that has edge e
abbrev pub owner : List ℕ → declared.Header → ℕ → Option ℕ
owner bs h e = earliest h.nodes (λ i. flag (owns bs h i e) i)

-- the target of edge e lies in a lower block than the edge's owner, or it has no owner
abbrev pub owner_wrong : List ℕ → declared.Header → ℕ → Option ℕ → Bool
owner_wrong bs h e None = true
owner_wrong bs h e (Some i) = nat_lt (node_row bs h (edge_row bs h e).target).block (node_row bs h i).block

-- edge e with that owner: its target past the nodes, its zero field, its target in a lower block, or no owner
abbrev pub owned_fault : List ℕ → declared.Header → Option ℕ → ℕ → Option Fault
owned_fault bs h o e =
    flag (not (nat_lt (edge_row bs h e).target h.nodes)
    || not (edge_zero bs h e == 0)
    || owner_wrong bs h e o) (Edge e)

-- the first fault among node i's own edges
abbrev pub own_fault : List ℕ → declared.Header → ℕ → Option Fault
own_fault bs h i = earliest (node_row bs h i).count (λ k. owned_fault bs h (Some i) ((node_row bs h i).first + k))

-- 7: an edge that is wrong by its owner
abbrev pub edge_fault : List ℕ → declared.Header → ℕ → Option Fault
edge_fault bs h e = owned_fault bs h (owner bs h e) e

-- 8: a table's own fault with its place, table by table; bytes after the last one
abbrev pub tables_fault : List ℕ → declared.Header → Option Fault
tables_fault bs h =
    or_else (earliest h.places (λ p. option_map (Table p) (table_fault (table_in bs h p))))
    (option_map (Table (h.places - 1)) (excess_fault (table_in bs h (h.places - 1))))

-- the checks by the header, in their order, each over the whole file before the next
abbrev pub body_fault : Algebra → List ℕ → declared.Header → Option Fault
body_fault A bs h =
    or_else (sections_fault bs h)
    (or_else (earliest h.rules (rule_fault bs h))
    (or_else (earliest h.blocks (block_fault bs h))
    (or_else (earliest h.nodes (node_fault A bs h))
    (or_else (earliest h.edges (edge_fault bs h))
    (tables_fault bs h)))))

-- what a case file is refused by at the scale with algebra A and header number n; None: it is well formed
abbrev pub file_fault : Algebra → ℕ → List ℕ → Option Fault
file_fault A n bs = or_else (short_fault bs) (or_else (header_fault n bs) (body_fault A bs (header_of bs)))

-- what the making of place p's table is refused by: the file's fault, then a place that the file lacks
abbrev pub making_fault : Algebra → ℕ → List ℕ → ℕ → Option Fault
making_fault A n bs p = or_else (file_fault A n bs) (flag (not (nat_lt p (header_of bs).places)) NotLeft)
