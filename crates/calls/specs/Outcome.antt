-- Each call: when it refuses, and with which fault, and what it leaves when it accepts. A refused call
-- changes nothing.
use Rattle.std.specs.Prelude.{◌≡◌, ℕ, ◌+◌, Bool, true, false, cond, not, ◌&&◌, ◌||◌, List, map, length, Option, ◌==◌, nat_lt}
use Rattle.std.specs.List.{range_with_len}
use Rattle.fault.specs.declared.Fault.{Fault}
use Rattle.fault.specs.declared.Fault.TheVariants.{Misfit, NotLeft, FewNodes, FewEdges, ShortBuffer, PlacesLeft}
use Rattle.process.specs.Lts.{Lts}
use Rattle.records.specs.declared.Kind.{Kind}
use Rattle.records.specs.declared.Kind.TheVariants.{AnyOf, AllOf, Fixed}
use Rattle.scale.specs.Algebra.{Algebra}
use Rattle.fault.specs.First.{flag, or_else}
use Rattle.casefile.specs.Refusal.{file_fault}
use Rattle.meaning.specs.Fold.{fold_graph}
use Rattle.meaning.specs.Graph.{Graph, reading_system}
use Rattle.meaning.specs.Network.{Book}
use Rattle.meaning.specs.Quotient.{quotient}
use Rattle.meaning.specs.System.{Solution}
use Rattle.meaning.specs.Trim.{Marks, rank, trim_graph}
use Rattle.calls.specs.Fit.{fits}
use Rattle.calls.specs.Left.{left_places, all_left, left_without}
use Rattle.calls.specs.Memory.{Memory, node_in, held, edge_rows, over, written, numbers_of}
use Rattle.calls.specs.Opening.{book_of, formula_graph}
use Rattle.calls.specs.Process.{process_fault}
use Rattle.calls.specs.declared.remainder.Remainder.{Remainder}

-- no remainder has more nodes or edges
abbrev pub most_nodes : ℕ
most_nodes = 1048576

abbrev pub most_edges : ℕ
most_edges = 4194304

-- 22 and 23: the target memory or the limit is too small for n nodes and e edges
abbrev pub few_nodes : ℕ → Memory → Bool
few_nodes n m = nat_lt (length m.nodes) n || nat_lt most_nodes n

abbrev pub few_edges : ℕ → Memory → Bool
few_edges e m = nat_lt (length m.edges) e || nat_lt most_edges e

abbrev pub room_fault : ℕ → ℕ → Memory → Option Fault
room_fault n e m = or_else (flag (few_nodes n m) FewNodes) (flag (few_edges e m) FewEdges)

-- 20: memory or rule book does not fit
abbrev pub fit_fault : Algebra → Book → Remainder → Memory → Option Fault
fit_fault A B r m = flag (not (fits A B r m)) Misfit

-- 24: a buffer shorter than the nodes
abbrev pub buffer_fault : Remainder → List ℕ → Option Fault
buffer_fault r b = flag (nat_lt (length b) r.nodes) ShortBuffer

-- OPEN: the file's own faults, then room for the formula's graph
abbrev pub open_fault : Algebra → ℕ → List ℕ → Memory → Option Fault
open_fault A n bs m =
    or_else (file_fault A n bs) (room_fault (formula_graph A bs).nodes (length (edge_rows (formula_graph A bs))) m)

abbrev pub opened : Algebra → List ℕ → Remainder
opened A bs = numbers_of (formula_graph A bs) (all_left (book_of bs).places)

-- REMOVE place p with process l
abbrev pub removed_graph : Algebra → Book → Remainder → Memory → ℕ → Lts → Graph
removed_graph A B r m p l = quotient A B (left_places r.left) p l (held r m)

abbrev pub remove_fault : Algebra → Book → Remainder → Memory → ℕ → Lts → Memory → Option Fault
remove_fault A B r m p l t =
    or_else (fit_fault A B r m)
    (or_else (flag (not (left_places r.left p)) NotLeft)
    (or_else (process_fault A l)
    (room_fault (removed_graph A B r m p l).nodes (length (edge_rows (removed_graph A B r m p l))) t)))

-- what an accepted removal leaves: the remainder, and all of the target memory
pub record Removed (A : Algebra) (B : Book) (r : Remainder) (m : Memory) (p : ℕ) (l : Lts) (t : Memory) (left : Remainder) (after : Memory) : Type 0 where
  pub remainder : left ≡ numbers_of (removed_graph A B r m p l) (left_without r.left p)
  pub memory : after ≡ written (removed_graph A B r m p l) t

-- TRIM
abbrev pub trim_fault : Algebra → Book → Remainder → Memory → Memory → List ℕ → Option Fault
trim_fault A B r m t numbers = or_else (fit_fault A B r m) (or_else (room_fault r.nodes r.edges t) (buffer_fault r numbers))

-- each node's new number plus 1, or 0
abbrev pub new_numbers : (ℕ → Bool) → Remainder → List ℕ
new_numbers marks r = map (λ q. cond (marks q) (rank marks q + 1) 0) (range_with_len 0 r.nodes)

-- what an accepted trim leaves: the graph of the nodes that can be reached, and their numbers in the buffer
pub record Trimmed (r : Remainder) (m t : Memory) (numbers : List ℕ) (left : Remainder) (after : Memory) (given : List ℕ) : Type 0 where
  pub marks : ℕ → Bool
  pub reached : Marks (held r m) marks
  pub remainder : left ≡ numbers_of (trim_graph marks (held r m)) r.left
  pub memory : after ≡ written (trim_graph marks (held r m)) t
  pub buffer : given ≡ over (new_numbers marks r) numbers

-- FOLD
abbrev pub fold_fault : Algebra → Book → Remainder → Memory → Memory → List ℕ → List ℕ → Option Fault
fold_fault A B r m t lower upper =
    or_else (fit_fault A B r m) (or_else (room_fault r.nodes r.edges t) (or_else (buffer_fault r lower) (buffer_fault r upper)))

abbrev pub Lower : Algebra → Book → Graph → (ℕ → ℕ) → Type 0
Lower A B G R = Solution A (reading_system B A.lowest G) R

abbrev pub Upper : Algebra → Book → Graph → (ℕ → ℕ) → Type 0
Upper A B G Q = Solution A (reading_system B A.highest G) Q

-- the values of the nodes at the front of a buffer
abbrev pub values_over : (ℕ → ℕ) → Remainder → List ℕ → List ℕ
values_over R r buffer = over (map R (range_with_len 0 r.nodes)) buffer

-- what an accepted fold leaves: the folded graph, and the values of both readings in the buffers
pub record Folded (A : Algebra) (B : Book) (r : Remainder) (m t : Memory) (lower upper : List ℕ) (left : Remainder) (after : Memory) (low high : List ℕ) : Type 0 where
  pub lowers : ℕ → ℕ
  pub uppers : ℕ → ℕ
  pub lowest : Lower A B (held r m) lowers
  pub highest : Upper A B (held r m) uppers
  pub remainder : left ≡ numbers_of (fold_graph lowers uppers (held r m)) r.left
  pub memory : after ≡ written (fold_graph lowers uppers (held r m)) t
  pub lower_buffer : low ≡ values_over lowers r lower
  pub upper_buffer : high ≡ values_over uppers r upper

-- CLOSE: no place is left, or the initial node is fixed
abbrev pub is_fixed : Kind → Bool
is_fixed AnyOf = false
is_fixed AllOf = false
is_fixed Fixed = true

abbrev pub initial_fixed : Remainder → Memory → Bool
initial_fixed r m = is_fixed (node_in m r.initial).kind

abbrev pub closes : Remainder → Memory → Bool
closes r m = r.left == 0 || initial_fixed r m

abbrev pub close_fault : Algebra → Book → Remainder → Memory → Option Fault
close_fault A B r m = or_else (fit_fault A B r m) (flag (not (closes r m)) PlacesLeft)

-- VERDICT of a closed remainder: it fits and could be closed, and a value that is solved needs a buffer
abbrev pub verdict_fault : Algebra → Book → Remainder → Memory → List ℕ → Option Fault
verdict_fault A B r m values =
    or_else (flag (not (fits A B r m && closes r m)) Misfit) (flag (not (initial_fixed r m) && nat_lt (length values) r.nodes) ShortBuffer)

-- the initial node's value if it is fixed, and the buffer untouched; else the solved one, and the buffer
-- with every node's
pub record Verdict (A : Algebra) (B : Book) (r : Remainder) (m : Memory) (before : List ℕ) (x : ℕ) (after : List ℕ) : Type 0 where
  pub fixed : initial_fixed r m ≡ true → (x ≡ (node_in m r.initial).value) × (after ≡ before)
  pub solved : initial_fixed r m ≡ false → (R : ℕ → ℕ) × Lower A B (held r m) R × (x ≡ R r.initial) × (after ≡ values_over R r before)
