-- What a case file must be at the scale with algebra A and header number n, rule by rule.
use Rattle.std.specs.Prelude.{◌≡◌, ℕ, ◌+◌, ◌-◌, ◌<◌, ◌≤◌, List, length, None, ◌≢◌}
use Rattle.records.specs.Codes.{none}
use Rattle.scale.specs.Algebra.{Algebra, Value}
use Rattle.format.specs.Layout.{scale_number, header_of, tables_at, rule_label, rule_result, block_code, kind_byte, node_row, edge_row, edge_zero, table_in}
use Rattle.format.specs.Table as table
use Rattle.casefile.specs.Refusal.{file_fault}
use Rattle.format.specs.declared.header.Header.{Header}

-- x is among low to high
abbrev pub Among : ℕ → ℕ → ℕ → Type 0
Among low high x = (low ≤ x) × (x ≤ high)

-- the header names the scale, and its counts are in range
pub record FineHeader (n : ℕ) (bs : List ℕ) : Type 0 where
  pub scale : scale_number bs ≡ n
  pub places : Among 1 8 (header_of bs).places
  pub rules : (header_of bs).rules ≤ 256
  pub blocks : Among 1 16 (header_of bs).blocks
  pub nodes : Among 1 4096 (header_of bs).nodes
  pub edges : (header_of bs).edges ≤ 16384
  pub initial : (header_of bs).initial < (header_of bs).nodes

-- some place takes part in rule r, and it has a result
pub record FineRule (bs : List ℕ) (h : Header) (r : ℕ) : Type 0 where
  pub participant : (p : ℕ) × (p < h.places) × (rule_label bs h r p ≢ none)
  pub result : rule_result bs h r ≡ none → ⊥

-- a fixed node has a value of the scale and no edges, any other the value 0
pub record FineNode (A : Algebra) (bs : List ℕ) (h : Header) (i : ℕ) : Type 0 where
  pub kind : kind_byte bs h i ≤ 2
  pub block : (node_row bs h i).block < h.blocks
  pub ends : (node_row bs h i).first + (node_row bs h i).count ≤ h.edges
  pub fixed : kind_byte bs h i ≡ 2 → Value A (node_row bs h i).value × ((node_row bs h i).count ≡ 0)
  pub other : (kind_byte bs h i ≢ 2) → (node_row bs h i).value ≡ 0

-- node i has edge e
pub record Owner (bs : List ℕ) (h : Header) (i e : ℕ) : Type 0 where
  pub within : i < h.nodes
  pub begun : (node_row bs h i).first ≤ e
  pub before : e < (node_row bs h i).first + (node_row bs h i).count

-- edge e leads from the node that has it to a node of no lower block
pub record FineEdge (bs : List ℕ) (h : Header) (e : ℕ) : Type 0 where
  pub target : (edge_row bs h e).target < h.nodes
  pub gap : edge_zero bs h e ≡ 0
  pub owner : (i : ℕ) × Owner bs h i e × ((node_row bs h i).block ≤ (node_row bs h (edge_row bs h e).target).block)

-- a table's counts are in range, its starts rise from 0 to the number of transitions, and the file holds all of it
pub record FineTable (t : List ℕ) : Type 0 where
  pub whole : table.size t ≤ length t
  pub states : Among 1 4096 (table.states t)
  pub transitions : table.transitions t ≤ 16384
  pub initial : table.initial t < table.states t
  pub begins : table.start t 0 ≡ 0
  pub rises : (i : ℕ) → i < table.states t → table.start t i ≤ table.start t (i + 1)
  pub ends : table.start t (table.states t) ≡ table.transitions t

-- the nodes' edges begin at 0, and follow one another without gaps
pub record InARow (bs : List ℕ) (h : Header) : Type 0 where
  pub begins : (node_row bs h 0).first ≡ 0
  pub follows : (i : ℕ) → i + 1 < h.nodes → (node_row bs h (i + 1)).first ≡ (node_row bs h i).first + (node_row bs h i).count

-- what the bytes of a case file must be
pub record WellFormed (A : Algebra) (n : ℕ) (bs : List ℕ) : Type 0 where
  pub long : 28 ≤ length bs
  pub header : FineHeader n bs
  pub sections : tables_at (header_of bs) ≤ length bs
  pub rules : (r : ℕ) → r < (header_of bs).rules → FineRule bs (header_of bs) r
  pub blocks : (b : ℕ) → b < (header_of bs).blocks → block_code bs (header_of bs) b ≤ 1
  pub nodes : (i : ℕ) → i < (header_of bs).nodes → FineNode A bs (header_of bs) i
  pub ranges : InARow bs (header_of bs)
  pub edges : (e : ℕ) → e < (header_of bs).edges → FineEdge bs (header_of bs) e
  pub tables : (p : ℕ) → p < (header_of bs).places → FineTable (table_in bs (header_of bs) p)
  -- nothing stands behind the last table
  pub ends : length (table_in bs (header_of bs) ((header_of bs).places - 1)) ≤ table.size (table_in bs (header_of bs) ((header_of bs).places - 1))

-- the check accepts a case file exactly where it is well formed
abbrev pub ExactlyWellFormed : Type 0
ExactlyWellFormed =
    (A : Algebra) (n : ℕ) (bs : List ℕ) → (file_fault A n bs ≡ None → WellFormed A n bs) × (WellFormed A n bs → file_fault A n bs ≡ None)
