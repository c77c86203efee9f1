-- What a call writes fits again.
use Rattle.std.proofs.Common.{◌≡◌, ℕ, zero, suc, ◌+◌, ◌^◌, ◌<◌, ◌≤◌, Bool, true, ◌&&◌, eqb, ltb, leb, List, [], ◌∷◌, length, drop, sym, refl, ap, ◌∙◌, subst, inl, inr, ⊎_elim, arith, length-append}
use Rattle.std.specs.List.{range_with_len}
use Rattle.std.proofs.lemmas.List.FromFn.{length-map-range_with_len}
use Rattle.std.proofs.lemmas.Bool.{and_from, eq-eqb, lt-ltb, le-leb, or_left, or_right, cases_eq}
use Rattle.records.specs.declared.Edge.{Edge}
use Rattle.records.specs.declared.Guard.{Guard}
use Rattle.records.specs.declared.Guard.TheVariants.{Plain, By}
use Rattle.records.specs.declared.Kind.{Kind}
use Rattle.records.specs.declared.Kind.TheVariants.{AnyOf, AllOf, Fixed}
use Rattle.records.specs.declared.Node.{Node}
use Rattle.scale.specs.Algebra.{Algebra, Laws, Value}
use Rattle.meaning.specs.Check.{all, every, guard_test, fixed_test, edge_test, node_test}
use Rattle.meaning.specs.Graph.{Graph, Guards, EdgeFits, WellFormedGraph}
use Rattle.meaning.specs.Member.{In}
use Rattle.meaning.specs.Network.{Book, Places, counts}
use Rattle.meaning.specs.Quotient.{any, gathered}
use Rattle.meaning.proofs.Removal.{participant_near}
use Rattle.calls.specs.Fit.{due, plain_values, fits_node, fits}
use Rattle.calls.specs.Left.{left_places}
use Rattle.calls.specs.Memory.{Memory, node_in, held, edges_before, node_row, node_rows, edge_rows, written, numbers_of}
use Rattle.calls.proofs.Agree.{agree_formed}
use Rattle.calls.proofs.Written.{row_at, written_agrees, sizes, before_sizes}

-- A graph whose nodes keep the rules on values: a fixed node has no edges, any other the value 0.
pub record Tidy (G : Graph) : Type 0 where
  pub fixed : (q : ℕ) → q < G.nodes → G.kind q ≡ Fixed → G.edges q ≡ []
  pub other : (q : ℕ) → q < G.nodes → (G.kind q ≡ Fixed → ⊥) → G.value q ≡ 0

-- Tests that hold where the facts do.
all_from : (n : ℕ) (t : ℕ → Bool) → ((q : ℕ) → q < n → t q ≡ true) → all n t ≡ true
all_from zero t h = refl
all_from (suc n) t h = and_from (all n t) (t n) (all_from n t (λ q lt. h q (omega arith))) (h n (omega arith))

every_from : {X : Type 0} (t : X → Bool) (xs : List X) → ((x : X) → In x xs → t x ≡ true) → every t xs ≡ true
every_from t [] h = refl
every_from t (x ∷ xs) h = and_from (t x) (every t xs) (h x (inl refl)) (every_from t xs (λ y i. h y (inr i)))

pub any_from : (n : ℕ) (t : ℕ → Bool) (q : ℕ) → q < n → t q ≡ true → any n t ≡ true
any_from zero t q lt h = absurd (omega arith)
any_from (suc n) t q lt h =
    ⊎_elim (λ e. or_right (any n t) (t n) (ap t (sym e) ∙ h)) (λ (ne : q ≡ n → ⊥). or_left (any n t) (t n) (any_from n t q (omega arith) h)) (cases_eq q n)

module _ (A : Algebra) (B : Book) (left : Places) (G : Graph) (f : WellFormedGraph A B left G) where
  guard_from : (γ : Guard) → Guards B left γ → guard_test B left γ ≡ true
  guard_from Plain h = refl
  guard_from (By r) h = any_from 8 (counts B left r) h.0 (participant_near B left r h.0 h.1) h.1

  fixed_from : (k : Kind) (v : ℕ) → (k ≡ Fixed → Value A v) → fixed_test A k v ≡ true
  fixed_from AnyOf v h = refl
  fixed_from AllOf v h = refl
  fixed_from Fixed v h = h refl

  edge_from : (q : ℕ) (e : Edge) → EdgeFits A B left G q e → edge_test A B left G q e ≡ true
  edge_from q e h =
      and_from (A.value e.weight) (ltb e.target G.nodes && (leb (G.block q) (G.block e.target) && guard_test B left e.guard)) h.weight
      (and_from (ltb e.target G.nodes) (leb (G.block q) (G.block e.target) && guard_test B left e.guard) (lt-ltb e.target G.nodes h.target)
      (and_from (leb (G.block q) (G.block e.target)) (guard_test B left e.guard) (le-leb (G.block q) (G.block e.target) h.block) (guard_from e.guard h.guard)))

  node_from : (q : ℕ) → q < G.nodes → node_test A B left G q ≡ true
  node_from q lt =
      and_from (ltb (G.block q) (length B.signs)) (fixed_test A (G.kind q) (G.value q) && every (edge_test A B left G q) (G.edges q)) (lt-ltb (G.block q) (length B.signs) (f.blocks q lt))
      (and_from (fixed_test A (G.kind q) (G.value q)) (every (edge_test A B left G q) (G.edges q)) (fixed_from (G.kind q) (G.value q) (f.fixed q lt))
      (every_from (edge_test A B left G q) (G.edges q) (λ e i. edge_from q e (f.edges q lt e i))))

-- how many edges a graph has in all
gathered_size : (f : ℕ → List Edge) (a n : ℕ) → length (gathered f (range_with_len a n)) ≡ sizes f a n
gathered_size f a zero = refl
gathered_size f a (suc n) = length-append (f a) (gathered f (range_with_len (a + 1) n)) ∙ ap (λ k. length (f a) + k) (gathered_size f (a + 1) n)

pub all_edges : (G : Graph) → edges_before G G.nodes ≡ length (edge_rows G)
all_edges G = before_sizes G G.nodes ∙ sym (gathered_size G.edges 0 G.nodes)

before_mono : (G : Graph) (p q : ℕ) → p ≤ q → edges_before G p ≤ edges_before G q
before_mono G p zero h = let e : p ≡ 0 = omega arith in omega (arith, ap (edges_before G) e)
before_mono G p (suc q) h =
    ⊎_elim (λ e. omega (arith, ap (edges_before G) e)) (λ (ne : p ≡ suc q → ⊥). omega (arith, before_mono G p q (omega arith))) (cases_eq p (suc q))

-- what is written of a tidy and well-formed graph fits
module _ {A : Algebra} (L : Laws A) (B : Book) (l : ℕ) (G : Graph) (f : WellFormedGraph A B (left_places l) G) (tidy : Tidy G) (starts : G.initial < G.nodes) (few : l < 2 ^ B.places) (t : Memory) where
  plain_from : (k : Kind) (n : Node) → (k ≡ Fixed → n.count ≡ 0) → ((k ≡ Fixed → ⊥) → n.value ≡ 0) → plain_values k n ≡ true
  plain_from AnyOf n a b = eq-eqb n.value 0 (b (λ e. let z : ◌≡◌ {A = ℕ} 0 1 = cc in absurd (omega arith)))
  plain_from AllOf n a b = eq-eqb n.value 0 (b (λ e. let z : ◌≡◌ {A = ℕ} 0 1 = cc in absurd (omega arith)))
  plain_from Fixed n a b = eq-eqb n.count 0 (a refl)

  due_is : (q : ℕ) → q ≤ G.nodes → due (written G t) q ≡ edges_before G q
  due_is zero h = refl
  due_is (suc q) h = ap (λ n. n.first + n.count) (row_at G t l q (omega arith))

  node_again : (q : ℕ) → q < G.nodes → fits_node A B (numbers_of G l) (written G t) q ≡ true
  node_again q lt =
      let m = written G t in
      let r = numbers_of G l in
      let row = row_at G t l q lt in
      let first : (node_in m q).first ≡ edges_before G q = ap (λ n. n.first) row in
      let count : (node_in m q).count ≡ length (G.edges q) = ap (λ n. n.count) row in
      let ends : (node_in m q).first + (node_in m q).count ≤ length (edge_rows G) = omega (arith, first, count, before_mono G (suc q) G.nodes lt, all_edges G) in
      and_from (eqb (node_in m q).first (due m q)) (leb ((node_in m q).first + (node_in m q).count) r.edges && (plain_values (node_in m q).kind (node_in m q) && node_test A B (left_places l) (held r m) q)) (eq-eqb (node_in m q).first (due m q) (first ∙ sym (due_is q (omega arith))))
      (and_from (leb ((node_in m q).first + (node_in m q).count) r.edges) (plain_values (node_in m q).kind (node_in m q) && node_test A B (left_places l) (held r m) q) (le-leb ((node_in m q).first + (node_in m q).count) r.edges ends)
      (and_from (plain_values (node_in m q).kind (node_in m q)) (node_test A B (left_places l) (held r m) q)
      (subst (λ n. plain_values n.kind n ≡ true) (sym row) (plain_from (G.kind q) (node_row G q) (λ e. ap length (tidy.fixed q lt e)) (tidy.other q lt)))
      (node_from A B (left_places l) (held r m) (agree_formed B (left_places l) G (held r m) (written_agrees G t l) f) q lt)))

  pub fits_again : fits A B (numbers_of G l) (written G t) ≡ true
  fits_again =
      let m = written G t in
      let r = numbers_of G l in
      and_from (leb r.nodes (length m.nodes)) (leb r.edges (length m.edges) && (ltb r.left (2 ^ B.places) && (ltb r.initial r.nodes && (all r.nodes (fits_node A B r m) && eqb (due m r.nodes) r.edges))))
      (le-leb r.nodes (length m.nodes) (omega (arith, length-map-range_with_len (node_row G) 0 G.nodes, length-append (node_rows G) (drop (length (node_rows G)) t.nodes))))
      (and_from (leb r.edges (length m.edges)) (ltb r.left (2 ^ B.places) && (ltb r.initial r.nodes && (all r.nodes (fits_node A B r m) && eqb (due m r.nodes) r.edges)))
      (le-leb r.edges (length m.edges) (omega (arith, length-append (edge_rows G) (drop (length (edge_rows G)) t.edges))))
      (and_from (ltb r.left (2 ^ B.places)) (ltb r.initial r.nodes && (all r.nodes (fits_node A B r m) && eqb (due m r.nodes) r.edges)) (lt-ltb r.left (2 ^ B.places) few)
      (and_from (ltb r.initial r.nodes) (all r.nodes (fits_node A B r m) && eqb (due m r.nodes) r.edges) (lt-ltb r.initial r.nodes starts)
      (and_from (all r.nodes (fits_node A B r m)) (eqb (due m r.nodes) r.edges) (all_from r.nodes (fits_node A B r m) node_again)
      (eq-eqb (due m r.nodes) r.edges (due_is G.nodes (omega arith) ∙ all_edges G))))))
