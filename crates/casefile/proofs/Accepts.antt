-- A case file is accepted exactly where it is well formed.
use Rattle.std.proofs.Common.{◌≡◌, ℕ, List, None, ap}
use Rattle.std.specs.Option.{option_map}
use Rattle.std.proofs.lemmas.Bool.{ltb-false, le-ltb}
use Rattle.fault.specs.declared.Fault.TheVariants.{Table}
use Rattle.scale.specs.Algebra.{Algebra}
use Rattle.fault.specs.First.{earliest}
use Rattle.format.specs.Layout.{header_of}
use Rattle.casefile.specs.Refusal.{short_fault, header_fault, sections_fault, rule_fault, block_fault, node_fault, edge_fault, file_fault, LaidOut}
use Rattle.casefile.specs.WellFormed.{WellFormed, ExactlyWellFormed}
use Rattle.fault.proofs.First.{flag_off, flag_failed, neither, first_later, earliest_at, earliest_all}
use Rattle.casefile.proofs.Tables.{placed_none}
use Rattle.casefile.proofs.Fine.{header_fine, header_none, block_fine, block_none, node_fine, node_follows, node_none, in_a_row, is_due}
use Rattle.casefile.proofs.FineEdges.{rule_fine, rule_none, edge_fine, edge_none}
use Rattle.casefile.proofs.FineTables.{table_fine, table_none, excess_fine, excess_none}

pub accepted : (A : Algebra) (n : ℕ) (bs : List ℕ) → file_fault A n bs ≡ None → WellFormed A n bs
accepted A n bs k =
    let h = header_of bs in
    let short = neither (short_fault bs) _ k in
    let head = neither (header_fault n bs) _ short.1 in
    let sections = neither (sections_fault bs h) _ head.1 in
    let rules = neither (earliest h.rules (rule_fault bs h)) _ sections.1 in
    let blocks = neither (earliest h.blocks (block_fault bs h)) _ rules.1 in
    let nodes = neither (earliest h.nodes (node_fault A bs h)) _ blocks.1 in
    let edges = neither (earliest h.edges (edge_fault bs h)) _ nodes.1 in
    let tables = neither _ _ edges.1 in
    record {
      long = ltb-false _ _ (flag_failed _ _ short.0);
      header = header_fine n bs head.0;
      sections = ltb-false _ _ (flag_failed _ _ sections.0);
      rules = λ r l. rule_fine bs h r (earliest_at _ _ r rules.0 l);
      blocks = λ b l. block_fine bs h b (earliest_at _ _ b blocks.0 l);
      nodes = λ i l. node_fine A bs h i (earliest_at _ _ i nodes.0 l);
      ranges = in_a_row bs h (header_fine n bs head.0).nodes.0 (λ i l. node_follows A bs h i (earliest_at _ _ i nodes.0 l));
      edges = λ e l. edge_fine bs h e (earliest_at _ _ e edges.0 l);
      tables = λ p l. table_fine _ (placed_none p _ (earliest_at _ _ p tables.0 l));
      ends = excess_fine _ (placed_none _ _ tables.1);
    }

pub formed : (A : Algebra) (n : ℕ) (bs : List ℕ) → WellFormed A n bs → file_fault A n bs ≡ None
formed A n bs w =
    let h = header_of bs in
    let laid : LaidOut bs h = record { follows = is_due bs h w.ranges; ends = λ i l. (w.nodes i l).ends; few = w.header.edges } in
    first_later _ _ (flag_off _ (le-ltb _ _ w.long))
    (first_later _ _ (header_none n bs w.header)
    (first_later _ _ (flag_off _ (le-ltb _ _ w.sections))
    (first_later _ _ (earliest_all _ _ (λ r l. rule_none bs h r (w.rules r l)))
    (first_later _ _ (earliest_all _ _ (λ b l. block_none bs h b (w.blocks b l)))
    (first_later _ _ (earliest_all _ _ (λ i l. node_none A bs h i (w.nodes i l) (is_due bs h w.ranges i l)))
    (first_later _ _ (earliest_all _ _ (λ e l. edge_none bs h laid e (w.edges e l)))
    (first_later _ _ (earliest_all _ _ (λ p l. ap (option_map (Table p)) (table_none _ (w.tables p l))))
    (ap (option_map (Table _)) (excess_none _ w.ends)))))))))

pub exactly : ExactlyWellFormed
exactly A n bs = (accepted A n bs, formed A n bs)
