-- Graphs that are equal below their count of nodes: what stands behind does not matter.
use Rattle.std.specs.Prelude.{◌≡◌, ℕ, ◌<◌}
use Rattle.scale.specs.Algebra.{Algebra, Laws}
use Rattle.meaning.specs.Graph.{Graph, Position, Fits, network_system}
use Rattle.meaning.specs.Network.{Book, Network, Places}
use Rattle.meaning.specs.System.{Solution}

pub record Agree (G H : Graph) : Type 0 where
  pub nodes : H.nodes ≡ G.nodes
  pub initial : H.initial ≡ G.initial
  pub kind : (q : ℕ) → q < G.nodes → H.kind q ≡ G.kind q
  pub block : (q : ℕ) → q < G.nodes → H.block q ≡ G.block q
  pub value : (q : ℕ) → q < G.nodes → H.value q ≡ G.value q
  pub edges : (q : ℕ) → q < G.nodes → H.edges q ≡ G.edges q

-- They fit the same networks and have the same solutions.
abbrev pub EqualBelow : Type 0
EqualBelow =
    (A : Algebra) → Laws A → (B : Book) (N : Network) (left : Places) (G H : Graph) → Agree G H → Fits A B N left G
    → Fits A B N left H × ((V : Position → ℕ) → Solution A (network_system A B N left G) V → Solution A (network_system A B N left H) V)
