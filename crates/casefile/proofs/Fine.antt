-- Each check finds nothing exactly where the rule that it checks is kept.
use Rattle.std.proofs.Common.{◌≡◌, ℕ, zero, suc, ◌+◌, ◌<◌, ◌≤◌, List, None, sym, ap, ◌∙◌, add-one, arith}
use Rattle.std.proofs.lemmas.Bool.Decides.{nat_tests}
use Rattle.scale.specs.Algebra.{Algebra}
use Rattle.fault.specs.First.{or_else, earliest}
use Rattle.format.specs.Layout.{header_of, block_code, node_row}
use Rattle.casefile.specs.Refusal.{short_fault, header_fault, block_fault, node_fault, due, LaidOut}
use Rattle.casefile.specs.WellFormed.{FineHeader, FineNode, InARow}
use Rattle.format.specs.declared.header.Header.{Header}
use Rattle.fault.proofs.First.{neither, earliest_at}
use Rattle.casefile.proofs.Ranges.{due_next}

pub header_fine : (n : ℕ) (bs : List ℕ) → header_fault n bs ≡ None → FineHeader n bs
header_fine n bs h = record {
  scale = grind (arith, nat_tests);
  places = grind (arith, nat_tests);
  rules = grind (arith, nat_tests);
  blocks = grind (arith, nat_tests);
  nodes = grind (arith, nat_tests);
  edges = grind (arith, nat_tests);
  initial = grind (arith, nat_tests);
}

pub node_fine : (A : Algebra) (bs : List ℕ) (h : Header) (i : ℕ) → node_fault A bs h i ≡ None → FineNode A bs h i
node_fine A bs h i k = record {
  kind = grind (arith, nat_tests);
  block = grind (arith, nat_tests);
  ends = grind (arith, nat_tests);
  fixed = λ f. grind (arith, nat_tests);
  other = λ f. grind (arith, nat_tests);
}

pub node_follows : (A : Algebra) (bs : List ℕ) (h : Header) (i : ℕ) → node_fault A bs h i ≡ None → (node_row bs h i).first ≡ due bs h i
node_follows A bs h i k = grind (arith, nat_tests)

pub header_none : (n : ℕ) (bs : List ℕ) → FineHeader n bs → header_fault n bs ≡ None
header_none n bs f = grind (arith, nat_tests)

pub node_none : (A : Algebra) (bs : List ℕ) (h : Header) (i : ℕ) → FineNode A bs h i → (node_row bs h i).first ≡ due bs h i → node_fault A bs h i ≡ None
node_none A bs h i f e = grind (arith, nat_tests)

-- the ranges of the nodes follow one another exactly where each begins where it is due
pub in_a_row : (bs : List ℕ) (h : Header) → 1 ≤ h.nodes → ((i : ℕ) → i < h.nodes → (node_row bs h i).first ≡ due bs h i) → InARow bs h
in_a_row bs h some k = record {
  begins = k 0 (omega arith);
  follows = λ i b. k (i + 1) b ∙ due_next bs h i;
}

pub is_due : (bs : List ℕ) (h : Header) → InARow bs h → (i : ℕ) → i < h.nodes → (node_row bs h i).first ≡ due bs h i
is_due bs h r zero b = r.begins
is_due bs h r (suc i) b = rw (← add-one i) (r.follows i (omega arith) ∙ sym (due_next bs h i))

pub block_fine : (bs : List ℕ) (h : Header) (b : ℕ) → block_fault bs h b ≡ None → block_code bs h b ≤ 1
block_fine bs h b k = grind (arith, nat_tests)

pub block_none : (bs : List ℕ) (h : Header) (b : ℕ) → block_code bs h b ≤ 1 → block_fault bs h b ≡ None
block_none bs h b k = grind (arith, nat_tests)

-- what the check of the edges stands on
pub laid_out : (A : Algebra) (n : ℕ) (bs : List ℕ) (h : Header) → or_else (short_fault bs) (header_fault n bs) ≡ None → h ≡ header_of bs
    → earliest h.nodes (node_fault A bs h) ≡ None → LaidOut bs h
laid_out A n bs h head e k = record {
  follows = λ i b. node_follows A bs h i (earliest_at _ _ i k b);
  ends = λ i b. (node_fine A bs h i (earliest_at _ _ i k b)).ends;
  few = omega (arith, ap (λ g. g.edges) e, (header_fine n bs (neither _ _ head).1).edges);
}
