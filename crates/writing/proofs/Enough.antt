-- What it means that there is room for a graph.
use Rattle.std.proofs.Common.{◌≡◌, ℕ, ◌≤◌, ltb, length, None}
use Rattle.std.proofs.lemmas.Bool.{ltb-false, or_parts}
use Rattle.fault.specs.First.{flag}
use Rattle.fault.specs.declared.Fault.TheVariants.{FewNodes, FewEdges}
use Rattle.fault.proofs.First.{flag_failed, neither}
use Rattle.calls.specs.Memory.{Memory}
use Rattle.calls.specs.Outcome.{most_nodes, most_edges, few_nodes, few_edges, room_fault}

pub record Room (n e : ℕ) (m : Memory) : Type 0 where
  pub nodes : n ≤ length m.nodes
  pub few_nodes : n ≤ most_nodes
  pub edges : e ≤ length m.edges
  pub few_edges : e ≤ most_edges

-- no fault in it: the memories and the limits are large enough
pub room_enough : (n e : ℕ) (m : Memory) → room_fault n e m ≡ None → Room n e m
room_enough n e m h =
    let both = neither (flag (few_nodes n m) FewNodes) (flag (few_edges e m) FewEdges) h in
    let a = or_parts (ltb (length m.nodes) n) (ltb most_nodes n) (flag_failed (few_nodes n m) FewNodes both.0) in
    let b = or_parts (ltb (length m.edges) e) (ltb most_edges e) (flag_failed (few_edges e m) FewEdges both.1) in
    record {
      nodes = ltb-false (length m.nodes) n a.0;
      few_nodes = ltb-false most_nodes n a.1;
      edges = ltb-false (length m.edges) e b.0;
      few_edges = ltb-false most_edges e b.1;
    }
