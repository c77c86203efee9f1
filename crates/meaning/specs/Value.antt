-- The formula's value: that of the initial node where every process is in its initial state.
use Rattle.std.specs.Prelude.{◌≡◌, ℕ}
use Rattle.scale.specs.Algebra.{Algebra}
use Rattle.meaning.specs.Graph.{Graph, Position, network_system}
use Rattle.meaning.specs.Network.{Book, Network, Places, start}
use Rattle.meaning.specs.System.{Solution}

abbrev pub beginning : Network → Places → Graph → Position
beginning N left G = record { node = G.initial; state = start N left }

-- the graph's value on the network is c: there is a solution, and every one has c at the beginning
pub record HasValue (A : Algebra) (B : Book) (N : Network) (left : Places) (G : Graph) (c : ℕ) : Type 0 where
  pub solved : (V : Position → ℕ) × Solution A (network_system A B N left G) V
  pub always : (V : Position → ℕ) → Solution A (network_system A B N left G) V → V (beginning N left G) ≡ c
