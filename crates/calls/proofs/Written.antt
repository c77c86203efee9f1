-- What is written of a graph is held by the memory.
use Rattle.std.proofs.Common.{◌≡◌, ℕ, zero, suc, ◌+◌, ◌<◌, List, [], ◌∷◌, ◌++◌, length, take, drop, sym, refl, ap, ◌∙◌, append_assoc, add-zero, zero-add, arith, length-append}
use Rattle.std.specs.List.{range_with_len}
use Rattle.std.proofs.lemmas.List.FromFn.{length-map-range_with_len, get_or-map-range_with_len}
use Rattle.std.proofs.lemmas.List.{get_or_append_left}
use Rattle.records.specs.declared.Edge.{Edge}
use Rattle.meaning.specs.Graph.{Graph}
use Rattle.meaning.specs.Quotient.{gathered}
use Rattle.calls.specs.Memory.{Memory, no_node, node_in, edges_of, held, edges_before, node_row, node_rows, edge_rows, written, numbers_of}
use Rattle.calls.specs.Equal.{Agree}

-- drop and take at the seam of an append
drop_seam : {X : Type 0} (xs ys : List X) → drop (length xs) (xs ++ ys) ≡ ys
drop_seam [] ys = refl
drop_seam (x ∷ xs) ys = drop_seam xs ys

take_seam : {X : Type 0} (xs ys : List X) → take (length xs) (xs ++ ys) ≡ xs
take_seam [] ys = refl
take_seam (x ∷ xs) ys = ap (λ l. x ∷ l) (take_seam xs ys)

-- the rows from a on, of n nodes: those before q, q's own, and those after
module _ (f : ℕ → List Edge) where
  abbrev pub sizes : ℕ → ℕ → ℕ
  sizes a zero = 0
  sizes a (suc n) = length (f a) + sizes (a + 1) n

  split_at : (a n q : ℕ) → q < n → (front : List Edge) × (back : List Edge) × (gathered f (range_with_len a n) ≡ front ++ (f (a + q) ++ back)) × (length front ≡ sizes a q)
  split_at a zero q lt = absurd (omega arith)
  split_at a (suc n) zero lt = ([], gathered f (range_with_len (a + 1) n), ap (λ x. f x ++ gathered f (range_with_len (a + 1) n)) (sym (add-zero a)), refl)
  split_at a (suc n) (suc q) lt =
      let r = split_at (a + 1) n q (omega arith) in
      let e : a + 1 + q ≡ a + suc q = omega arith in
      (f a ++ r.0, r.1, ap (λ l. f a ++ l) (r.2 ∙ ap (λ x. r.0 ++ (f x ++ r.1)) e) ∙ sym (append_assoc (f a) r.0 (f (a + suc q) ++ r.1)), length-append (f a) r.0 ∙ ap (λ k. length (f a) + k) r.3)

  -- counted from the front or from the back, the sizes add up alike
  sizes_last : (a q : ℕ) → sizes a (suc q) ≡ sizes a q + length (f (a + q))
  sizes_last a zero = ap (λ x. length (f x) + 0) (sym (add-zero a)) ∙ omega arith
  sizes_last a (suc q) =
      let e : a + 1 + q ≡ a + suc q = omega arith in
      omega (arith, sizes_last (a + 1) q, ap (λ x. length (f x)) e)

pub before_sizes : (G : Graph) (q : ℕ) → edges_before G q ≡ sizes G.edges 0 q
before_sizes G zero = refl
before_sizes G (suc q) =
    let e : 0 + q ≡ q = zero-add q in
    omega (arith, before_sizes G q, sizes_last G.edges 0 q, ap (λ x. length (G.edges x)) e)

module _ (G : Graph) (t : Memory) (left : ℕ) where
  pub row_at : (q : ℕ) → q < G.nodes → node_in (written G t) q ≡ node_row G q
  row_at q lt =
      get_or_append_left (node_rows G) (drop (length (node_rows G)) t.nodes) no_node q (omega (arith, length-map-range_with_len (node_row G) 0 G.nodes))
      ∙ get_or-map-range_with_len (node_row G) 0 G.nodes q q no_node lt (omega arith)

  own_edges : (q : ℕ) → q < G.nodes → edges_of (written G t) (node_row G q) ≡ G.edges q
  own_edges q lt =
      let s = split_at G.edges 0 G.nodes q lt in
      let tail = drop (length (edge_rows G)) t.edges in
      let es = G.edges q in
      let here : edge_rows G ≡ s.0 ++ (es ++ s.1) = s.2 ∙ ap (λ x. s.0 ++ (G.edges x ++ s.1)) (zero-add q) in
      let whole : (written G t).edges ≡ s.0 ++ (es ++ (s.1 ++ tail)) =
      ap (λ l. l ++ tail) here ∙ append_assoc s.0 (es ++ s.1) tail ∙ ap (λ l. s.0 ++ l) (append_assoc es s.1 tail) in
      let first : edges_before G q ≡ length s.0 = before_sizes G q ∙ sym s.3 in
      ap (λ l. take (length es) (drop (edges_before G q) l)) whole
      ∙ ap (λ k. take (length es) (drop k (s.0 ++ (es ++ (s.1 ++ tail))))) first
      ∙ ap (take (length es)) (drop_seam s.0 (es ++ (s.1 ++ tail)))
      ∙ take_seam es (s.1 ++ tail)

  pub written_agrees : Agree G (held (numbers_of G left) (written G t))
  written_agrees = record {
    nodes = refl;
    initial = refl;
    kind = λ q lt. ap (λ n. n.kind) (row_at q lt);
    block = λ q lt. ap (λ n. n.block) (row_at q lt);
    value = λ q lt. ap (λ n. n.value) (row_at q lt);
    edges = λ q lt. ap (edges_of (written G t)) (row_at q lt) ∙ own_edges q lt;
  }
