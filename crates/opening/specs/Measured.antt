-- What is known of a case file before its formula is counted and written.
use Rattle.std.specs.Prelude.{ℕ, ◌+◌, ◌<◌, ◌≤◌, List}
use Rattle.format.specs.Layout.{node_row}
use Rattle.format.specs.declared.header.Header.{Header}

-- few rules and nodes, and the nodes' edges among the few that a file may have
pub record Measured (bs : List ℕ) (h : Header) : Type 0 where
  pub rules : h.rules ≤ 256
  pub nodes : h.nodes ≤ 4096
  pub ranges : (q : ℕ) → q < h.nodes → (node_row bs h q).first + (node_row bs h q).count ≤ 16384
