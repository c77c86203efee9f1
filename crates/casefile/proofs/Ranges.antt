-- The edges in the ranges of their nodes: ranges that follow one another own every edge up to the last one's end.
use Rattle.std.proofs.Common.{◌≡◌, ℕ, zero, suc, ◌+◌, ◌-◌, ◌<◌, ◌≤◌, List, Some, None, refl, ap, ◌∙◌, ap₂, zero-le, le_refl, zero-add, add-one, arith}
use Rattle.std.proofs.lemmas.Bool.{cond-false, ne_eqb, le-ltb, lt-ltb, le-leb, and_right, and_from, or_right}
use Rattle.fault.specs.declared.Fault.{Fault}
use Rattle.fault.specs.declared.Fault.TheVariants.{Edge}
use Rattle.fault.specs.First.{flag, or_else, earliest}
use Rattle.format.specs.Layout.{node_row}
use Rattle.casefile.specs.Refusal.{due, LaidOut, owns, owner, owned_fault, own_fault, edge_fault}
use Rattle.format.specs.declared.header.Header.{Header}
use Rattle.fault.proofs.First.{flag_off, flag_on, earliest_all, earliest_found, earliest_past, earliest_parts, earliest_same}

-- the next node's edges are due where this one's end
pub due_next : (bs : List ℕ) (h : Header) (i : ℕ) → due bs h (i + 1) ≡ (node_row bs h i).first + (node_row bs h i).count
due_next bs h i =
    let e : (i + 1) - 1 ≡ i = omega arith in
    cond-false _ _ _ (ne_eqb (i + 1) 0 (λ z. omega arith))
    ∙ ap (λ k. (node_row bs h k).first + (node_row bs h k).count) e

due_rises : (bs : List ℕ) (h : Header) → LaidOut bs h → (i d : ℕ) → d + i ≤ h.nodes → due bs h i ≤ due bs h (d + i)
due_rises bs h l i zero k = rw zero-add (le_refl _)
due_rises bs h l i (suc d) k =
    let e : suc d + i ≡ d + i + 1 = omega arith in
    rw e (omega (arith, due_rises bs h l i d (omega arith), l.follows (d + i) (omega arith), due_next bs h (d + i)))

-- node j's edges end at or before those of a later node begin
ends_before : (bs : List ℕ) (h : Header) → LaidOut bs h → (j i : ℕ) → j < i → i ≤ h.nodes
    → (node_row bs h j).first + (node_row bs h j).count ≤ due bs h i
ends_before bs h l j i k m =
    let e : (i - (j + 1)) + (j + 1) ≡ i = omega arith in
    let rises : due bs h (j + 1) ≤ due bs h i = rw e at (due_rises bs h l (j + 1) (i - (j + 1)) (omega arith)) in
    omega (arith, due_next bs h j)

-- every node's edges end within the edges
pub due_within : (bs : List ℕ) (h : Header) → LaidOut bs h → (i : ℕ) → i ≤ h.nodes → due bs h i ≤ h.edges
due_within bs h l zero k = zero-le
due_within bs h l (suc i) k = rw (← add-one i) (omega (arith, due_next bs h i, l.ends i (omega arith)))

-- no node before i has an edge from i's on
unowned_before : (bs : List ℕ) (h : Header) → LaidOut bs h → (i e : ℕ) → i ≤ h.nodes → due bs h i ≤ e
    → earliest i (λ j. flag (owns bs h j e) j) ≡ None
unowned_before bs h l i e k m =
    earliest_all _ i (λ j b.
    let ends : (node_row bs h j).first + (node_row bs h j).count ≤ e = omega (arith, ends_before bs h l j i b k) in
    flag_off _ (and_right _ _ (le-ltb e _ ends)))

pub owner_of : (bs : List ℕ) (h : Header) → LaidOut bs h → (i k : ℕ) → i < h.nodes → k < (node_row bs h i).count
    → owner bs h ((node_row bs h i).first + k) ≡ Some i
owner_of bs h l i k b m =
    let n = node_row bs h i in
    let begun : n.first ≤ n.first + k = omega arith in
    let inside : n.first + k < n.first + n.count = omega arith in
    let due_here : due bs h i ≤ n.first + k = omega (arith, l.follows i b) in
    earliest_found _ i h.nodes i (unowned_before bs h l i (n.first + k) (omega arith) due_here)
    (flag_on _ (and_from _ _ (le-leb _ _ begun) (lt-ltb _ _ inside))) b

-- the edges of one more node
own_edges : (bs : List ℕ) (h : Header) → LaidOut bs h → (i : ℕ) → i < h.nodes
    → earliest (due bs h (i + 1)) (edge_fault bs h) ≡ or_else (earliest (due bs h i) (edge_fault bs h)) (own_fault bs h i)
own_edges bs h l i b =
    let n = node_row bs h i in
    ap (λ d. earliest d (edge_fault bs h)) (due_next bs h i)
    ∙ earliest_parts (edge_fault bs h) n.first n.count
    ∙ ap₂ or_else (ap (λ d. earliest d (edge_fault bs h)) (l.follows i b))
    (earliest_same _ _ n.count (λ k m. ap (λ o. owned_fault bs h o (n.first + k)) (owner_of bs h l i k b m)))

-- the edges up to where a node's are due, node by node
pub by_node : (bs : List ℕ) (h : Header) → LaidOut bs h → (i : ℕ) → i ≤ h.nodes → earliest (due bs h i) (edge_fault bs h) ≡ earliest i (own_fault bs h)
unfolding earliest
by_node bs h l zero k = refl
by_node bs h l (suc i) k =
    rw (← add-one i) (own_edges bs h l i (omega arith))
    ∙ ap (λ o. or_else o (own_fault bs h i)) (by_node bs h l i (omega arith))

pub edges_found : (bs : List ℕ) (h : Header) → LaidOut bs h → (x : Fault) → earliest h.nodes (own_fault bs h) ≡ Some x → earliest h.edges (edge_fault bs h) ≡ Some x
edges_found bs h l x own =
    earliest_past (edge_fault bs h) x (due bs h h.nodes) h.edges (by_node bs h l h.nodes (le_refl _) ∙ own) (due_within bs h l h.nodes (le_refl _))

pub edges_none : (bs : List ℕ) (h : Header) → LaidOut bs h → (e : ℕ) → e ≡ due bs h h.nodes → h.edges ≤ e
    → earliest h.nodes (own_fault bs h) ≡ None → earliest h.edges (edge_fault bs h) ≡ None
edges_none bs h l e end all own =
    let same : h.edges ≡ due bs h h.nodes = omega (arith, due_within bs h l h.nodes (le_refl _)) in
    ap (λ d. earliest d (edge_fault bs h)) same ∙ by_node bs h l h.nodes (le_refl _) ∙ own

-- after the last node: the first edge behind its range has no owner
pub edges_left : (bs : List ℕ) (h : Header) → LaidOut bs h → (e : ℕ) → e ≡ due bs h h.nodes → e < h.edges
    → earliest h.nodes (own_fault bs h) ≡ None → earliest h.edges (edge_fault bs h) ≡ Some (Edge e)
edges_left bs h l e end b own =
    let reached : earliest e (edge_fault bs h) ≡ None = ap (λ d. earliest d (edge_fault bs h)) end ∙ by_node bs h l h.nodes (le_refl _) ∙ own in
    let alone : owner bs h e ≡ None = unowned_before bs h l h.nodes e (le_refl _) (omega arith) in
    let fault : edge_fault bs h e ≡ Some (Edge e) = ap (λ o. owned_fault bs h o e) alone ∙ flag_on _ (or_right _ _ refl) in
    earliest_found _ e h.edges _ reached fault b
