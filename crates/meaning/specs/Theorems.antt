-- What is proved of the meaning, for every scale that shows the laws.
use Rattle.std.specs.Prelude.{◌≡◌, ℕ, ◌<◌, Bool, true}
use Rattle.process.specs.SingleVariant.{bit}
use Rattle.scale.specs.Algebra.{Algebra, Laws, Value, Under}
use Rattle.scale.specs.Variants.{variants}
use Rattle.scale.specs.YesNo.{yes_no}
use Rattle.meaning.specs.Cut.{cut_network, cut_graph}
use Rattle.meaning.specs.Fold.{fold_graph}
use Rattle.meaning.specs.Graph.{Graph, Position, Fits, network_system, reading_system, WellFormedGraph}
use Rattle.meaning.specs.Network.{Book, Network, Places, Valid, put}
use Rattle.meaning.specs.Quotient.{pair, quotient, without}
use Rattle.meaning.specs.System.{Solution, Strong}
use Rattle.meaning.specs.Trim.{Marks, rank, trim_graph}

-- node q at global state g is a position of the graph on the network
abbrev pub At : Network → Places → Graph → Position → Type 0
At N left G p = (p.node < G.nodes) × Valid N left p.state

-- Every graph that fits a network has a value there, at every node and global state,
abbrev pub ValueExists : Type 0
ValueExists =
    (A : Algebra) → Laws A → (B : Book) (N : Network) (left : Places) (G : Graph) → Fits A B N left G
    → (V : Position → ℕ) × Solution A (network_system A B N left G) V

-- and only one.
abbrev pub ValueUnique : Type 0
ValueUnique =
    (A : Algebra) → Laws A → (B : Book) (N : Network) (left : Places) (G : Graph) → Fits A B N left G
    → (V W : Position → ℕ) → Solution A (network_system A B N left G) V → Solution A (network_system A B N left G) W
    → (p : Position) → At N left G p → V p ≡ W p

-- In a least block the value is at or below everything that keeps the block's equations from above only,
-- in a greatest block at or above everything that keeps them from below only.
abbrev pub ValueStrong : Type 0
ValueStrong =
    (A : Algebra) → Laws A → (B : Book) (N : Network) (left : Places) (G : Graph) → Fits A B N left G
    → (V : Position → ℕ) → Solution A (network_system A B N left G) V → Strong A (network_system A B N left G) V

-- The same without processes, whatever value v a guarded edge ends at.
abbrev pub ReadingExists : Type 0
ReadingExists =
    (A : Algebra) → Laws A → (B : Book) (left : Places) (G : Graph) → WellFormedGraph A B left G
    → (v : ℕ) → Value A v → (R : ℕ → ℕ) × Strong A (reading_system B v G) R

abbrev pub ReadingUnique : Type 0
ReadingUnique =
    (A : Algebra) → Laws A → (B : Book) (left : Places) (G : Graph) → WellFormedGraph A B left G
    → (v : ℕ) (R Q : ℕ → ℕ) → Solution A (reading_system B v G) R → Solution A (reading_system B v G) Q
    → (q : ℕ) → q < G.nodes → R q ≡ Q q

-- The lower reading is at or below the value and the upper one at or above it, on every network and at
-- every global state.
abbrev pub ReadingsBound : Type 0
ReadingsBound =
    (A : Algebra) → Laws A → (B : Book) (N : Network) (left : Places) (G : Graph) → Fits A B N left G
    → (V : Position → ℕ) → Solution A (network_system A B N left G) V
    → (R Q : ℕ → ℕ) → Solution A (reading_system B A.lowest G) R → Solution A (reading_system B A.highest G) Q
    → (p : Position) → At N left G p → Under A (R p.node) (V p) × Under A (V p) (Q p.node)

-- Bit v of the value on the variants scale is the value on yes/no of what is cut to variant v.
abbrev pub CutToVariant : Type 0
CutToVariant =
    (B : Book) (N : Network) (left : Places) (G : Graph) → Fits variants B N left G
    → (V : Position → ℕ) → Solution variants (network_system variants B N left G) V
    → (v : ℕ) → v < 64
    → Fits yes_no B (cut_network v N) left (cut_graph v G)
    × ((W : Position → ℕ) → Solution yes_no (network_system yes_no B (cut_network v N) left (cut_graph v G)) W
    → (p : Position) → At N left G p → bit v (V p) ≡ W p)

-- A process taken into the graph leaves the value as it is: node q where the process of place p is in
-- state s has the value of pair (q, s) on the rest of the network.
abbrev pub RemovalKeeps : Type 0
RemovalKeeps =
    (A : Algebra) → Laws A → (B : Book) (N : Network) (left : Places) (G : Graph) → Fits A B N left G
    → (p : ℕ) → left p ≡ true
    → Fits A B N (without left p) (quotient A B left p (N p) G)
    × ((V W : Position → ℕ) → Solution A (network_system A B N left G) V
    → Solution A (network_system A B N (without left p) (quotient A B left p (N p) G)) W
    → (q : Position) → At N left G q
    → V q ≡ W (record { node = pair (N p).states q.node (q.state p); state = put p 0 q.state }))

-- Trimming leaves the value as it is at every node that stays: number i of the trimmed graph has the value
-- of the i-th node that can be reached.
abbrev pub TrimKeeps : Type 0
TrimKeeps =
    (A : Algebra) → Laws A → (B : Book) (N : Network) (left : Places) (G : Graph) → Fits A B N left G
    → (marks : ℕ → Bool) → G.initial < G.nodes → Marks G marks
    → Fits A B N left (trim_graph marks G)
    × ((V W : Position → ℕ) → Solution A (network_system A B N left G) V
    → Solution A (network_system A B N left (trim_graph marks G)) W
    → (q : Position) → At N left G q → marks q.node ≡ true
    → V q ≡ W (record { node = rank marks q.node; state = q.state }))

-- Folding leaves the value as it is at every node.
abbrev pub FoldKeeps : Type 0
FoldKeeps =
    (A : Algebra) → Laws A → (B : Book) (N : Network) (left : Places) (G : Graph) → Fits A B N left G
    → (R Q : ℕ → ℕ) → Solution A (reading_system B A.lowest G) R → Solution A (reading_system B A.highest G) Q
    → Fits A B N left (fold_graph R Q G)
    × ((V W : Position → ℕ) → Solution A (network_system A B N left G) V
    → Solution A (network_system A B N left (fold_graph R Q G)) W
    → (q : Position) → At N left G q → V q ≡ W q)
