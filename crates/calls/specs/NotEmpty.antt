-- The promise is not empty: every order of removals reaches a verdict, where the limits are kept.
use Rattle.std.specs.Prelude.{◌≡◌, ℕ, ◌≤◌, true, List, [], ◌∷◌, map, length, replicate, None}
use Rattle.records.specs.declared.Edge.{Edge}
use Rattle.records.specs.declared.Guard.TheVariants.{Plain}
use Rattle.scale.specs.Algebra.{Algebra, Laws}
use Rattle.casefile.specs.Refusal.{file_fault}
use Rattle.meaning.specs.Graph.{Graph}
use Rattle.meaning.specs.Network.{Book, Network}
use Rattle.calls.specs.Left.{left_places, all_left, left_without}
use Rattle.calls.specs.Memory.{Memory, no_node, edge_rows, written, numbers_of}
use Rattle.calls.specs.Opening.{book_of, formula_graph}
use Rattle.calls.specs.Outcome.{most_nodes, most_edges, opened, removed_graph}
use Rattle.calls.specs.Promise.{Judged, Passing}
use Rattle.calls.specs.Runs.{Removal}
use Rattle.calls.specs.declared.remainder.Remainder.{Remainder}

-- the list names every place left once, in any order
abbrev pub Names : ℕ → List ℕ → Type 0
Names left [] = left ≡ 0
Names left (p ∷ ps) = (left_places left p ≡ true) × Names (left_without left p) ps

-- a graph keeps the limits on nodes and edges
abbrev pub Small : Graph → Type 0
Small G = (G.nodes ≤ most_nodes) × (length (edge_rows G) ≤ most_edges)

-- any edge
abbrev pub no_edge : Edge
no_edge = record { guard = Plain; weight = 0; target = 0 }

-- memory with just the room that a graph needs
abbrev pub room_for : Graph → Memory
room_for G = record { nodes = replicate G.nodes no_node; edges = replicate (length (edge_rows G)) no_edge }

-- every graph on the way keeps the limits
abbrev pub SmallAll : Algebra → Book → Network → Remainder → Memory → List ℕ → Type 0
SmallAll A B N r m [] = Unit {0}
SmallAll A B N r m (p ∷ ps) =
    let Q = removed_graph A B r m p (N p) in
    Small Q × SmallAll A B N (numbers_of Q (left_without r.left p)) (written Q (room_for Q)) ps

-- what the removals in that order are given
abbrev pub removals : Network → List ℕ → List Removal
removals N ps = map (λ p. record { place = p; process = N p }) ps

-- NOT EMPTY: for every case that is well formed, every network whose processes pass the checks and every
-- order of its places, if the limits are kept, there are memories of just the size that is needed with
-- which the list that removes them all, and closes, reaches a verdict.
abbrev pub EveryOrderReaches : Type 0
EveryOrderReaches =
    (A : Algebra) → Laws A → (n : ℕ) (bs : List ℕ) → file_fault A n bs ≡ None
    → (N : Network) → Passing A N (all_left (book_of bs).places)
    → (order : List ℕ) → Names (all_left (book_of bs).places) order
    → Small (formula_graph A bs)
    → SmallAll A (book_of bs) N (opened A bs) (written (formula_graph A bs) (room_for (formula_graph A bs))) order
    → (x : ℕ) × Judged A n bs (removals N order) 0 x
