-- When a remainder, a rule book and a pair of memories belong together.
use Rattle.std.specs.Prelude.{ℕ, zero, suc, ◌+◌, ◌^◌, Bool, ◌&&◌, length, ◌==◌, nat_le, nat_lt}
use Rattle.records.specs.declared.Kind.{Kind}
use Rattle.records.specs.declared.Kind.TheVariants.{AnyOf, AllOf, Fixed}
use Rattle.records.specs.declared.Node.{Node}
use Rattle.scale.specs.Algebra.{Algebra}
use Rattle.meaning.specs.Check.{all, node_test}
use Rattle.meaning.specs.Network.{Book}
use Rattle.calls.specs.Left.{left_places}
use Rattle.calls.specs.Memory.{Memory, node_in, held}
use Rattle.calls.specs.declared.remainder.Remainder.{Remainder}

-- where the edges of node q are to begin: at 0, and then where those of the node before end
abbrev pub due : Memory → ℕ → ℕ
due m zero = 0
due m (suc q) = (node_in m q).first + (node_in m q).count

-- a fixed node has no edges, any other node the value 0
abbrev pub plain_values : Kind → Node → Bool
plain_values AnyOf n = n.value == 0
plain_values AllOf n = n.value == 0
plain_values Fixed n = n.count == 0

-- node q and its edges keep every rule
abbrev pub fits_node : Algebra → Book → Remainder → Memory → ℕ → Bool
fits_node A B r m q =
    ((node_in m q).first == due m q)
    && (nat_le ((node_in m q).first + (node_in m q).count) r.edges
    && (plain_values (node_in m q).kind (node_in m q)
    && node_test A B (left_places r.left) (held r m) q))

-- Everything fits: the memories are long enough, the places left are the book's, the initial node is one,
-- every node keeps the rules, and the edges end with the last node's.
abbrev pub fits : Algebra → Book → Remainder → Memory → Bool
fits A B r m =
    nat_le r.nodes (length m.nodes)
    && (nat_le r.edges (length m.edges)
    && (nat_lt r.left (2 ^ B.places)
    && (nat_lt r.initial r.nodes
    && (all r.nodes (fits_node A B r m)
    && due m r.nodes == r.edges))))
