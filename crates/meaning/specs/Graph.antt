-- Graphs of nodes and edges, and the systems of equations that they stand for.
use Rattle.std.specs.Prelude.{◌≡◌, ℕ, ◌<◌, ◌≤◌, true, List, length, slice_index_or}
use Rattle.records.specs.declared.Edge.{Edge}
use Rattle.records.specs.declared.Guard.{Guard}
use Rattle.records.specs.declared.Guard.TheVariants.{Plain, By}
use Rattle.records.specs.declared.Kind.{Kind}
use Rattle.records.specs.declared.Kind.TheVariants.{Fixed}
use Rattle.records.specs.declared.Sign.{Sign}
use Rattle.records.specs.declared.Sign.TheVariants.{Least}
use Rattle.scale.specs.Algebra.{Algebra, Value}
use Rattle.meaning.specs.Member.{In}
use Rattle.meaning.specs.Network.{Book, Network, Places, State, Valid, Leads, Tame, asked, counts}
use Rattle.meaning.specs.System.{System, Next, goes, ends}

-- A graph has its nodes below a count, each with a kind, a block, a value if fixed, and a list of edges.
pub record Graph : Type 0 where
  pub nodes : ℕ
  pub initial : ℕ
  pub kind : ℕ → Kind
  pub block : ℕ → ℕ
  pub value : ℕ → ℕ
  pub edges : ℕ → List Edge

-- A node at a global state.
pub record Position : Type 0 where
  pub node : ℕ
  pub state : State

abbrev pub sign_at : Book → ℕ → Sign
sign_at B b = slice_index_or B.signs b Least

-- An edge with that guard and weight w leads from g to h with weight x: a plain one leaves the state alone
-- and has its own weight, a guarded one goes where its rule leads, with w meet the rule's weight.
abbrev pub Moves : Algebra → Book → Network → Places → Guard → ℕ → State → ℕ → State → Type 0
Moves A B N left Plain w g x h = (x ≡ w) × (h ≡ g)
Moves A B N left (By r) w g x h = (u : ℕ) × Leads A N (counts B left r) (asked B r) g h u × (x ≡ A.meet w u)

-- The equations of V(node, g): every way on which an edge leads is one contribution.
abbrev pub offers_on : Algebra → Book → Network → Places → Graph → Position → ℕ → Next Position → Type 0
offers_on A B N left G p x (goes q) =
    (e : Edge) × In e (G.edges p.node) × (q.node ≡ e.target) × Moves A B N left e.guard e.weight p.state x q.state
offers_on A B N left G p x (ends v) = ⊥

abbrev pub network_system : Algebra → Book → Network → Places → Graph → System Position
network_system A B N left G = record {
  inside = λ p. (p.node < G.nodes) × Valid N left p.state;
  kind = λ p. G.kind p.node;
  block = λ p. G.block p.node;
  fixed = λ p. G.value p.node;
  offers = offers_on A B N left G;
  sign = sign_at B;
}

-- The reading without processes: a plain edge leads to its target, a guarded one ends at the value v.
-- With v lowest this bounds the value from below, with v highest from above.
abbrev pub reads : Guard → ℕ → ℕ → Next ℕ → Type 0
reads Plain y v (goes q) = q ≡ y
reads Plain y v (ends c) = ⊥
reads (By r) y v (goes q) = ⊥
reads (By r) y v (ends c) = c ≡ v

abbrev pub reading_system : Book → ℕ → Graph → System ℕ
reading_system B v G = record {
  inside = λ q. q < G.nodes;
  kind = G.kind;
  block = G.block;
  fixed = G.value;
  offers = λ q x n. (e : Edge) × In e (G.edges q) × (x ≡ e.weight) × reads e.guard e.target v n;
  sign = sign_at B;
}

-- a guard's rule has a participant that counts
abbrev pub Guards : Book → Places → Guard → Type 0
Guards B left Plain = Unit {0}
Guards B left (By r) = (p : ℕ) × (counts B left r p ≡ true)

-- What an edge of node q must be.
pub record EdgeFits (A : Algebra) (B : Book) (left : Places) (G : Graph) (q : ℕ) (e : Edge) : Type 0 where
  pub weight : Value A e.weight
  pub target : e.target < G.nodes
  pub block : G.block q ≤ G.block e.target
  pub guard : Guards B left e.guard

-- What a graph must be: the places left are the book's, every node lies in a block of the book, every fixed
-- value is one, every edge fits.
pub record WellFormedGraph (A : Algebra) (B : Book) (left : Places) (G : Graph) : Type 0 where
  pub places : (p : ℕ) → left p ≡ true → p < B.places
  pub blocks : (q : ℕ) → q < G.nodes → G.block q < length B.signs
  pub fixed : (q : ℕ) → q < G.nodes → G.kind q ≡ Fixed → Value A (G.value q)
  pub edges : (q : ℕ) → q < G.nodes → (e : Edge) → In e (G.edges q) → EdgeFits A B left G q e

-- And with it the network: every process at a place left passes the checks.
pub record Fits (A : Algebra) (B : Book) (N : Network) (left : Places) (G : Graph) : Type 0 where
  pub processes : (p : ℕ) → left p ≡ true → Tame A (N p)
  pub graph : WellFormedGraph A B left G
