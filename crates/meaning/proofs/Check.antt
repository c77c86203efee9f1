-- What the tests of a graph and a network show.
use Rattle.std.proofs.Common.{◌≡◌, ℕ, zero, suc, ◌<◌, Bool, true, not, ◌&&◌, eqb, ltb, leb, List, [], ◌∷◌, length, ap, ◌∙◌, subst, inl, inr, ⊎_elim, arith}
use Rattle.std.proofs.lemmas.Bool.{and_parts, cases_eq, ltb-true, leb-true, eqb-false, not-true}
use Rattle.process.specs.Lts.{Lts}
use Rattle.process.specs.declared.Transition.{Transition}
use Rattle.records.specs.Codes.{none}
use Rattle.records.specs.declared.Edge.{Edge}
use Rattle.records.specs.declared.Guard.{Guard}
use Rattle.records.specs.declared.Guard.TheVariants.{Plain, By}
use Rattle.scale.specs.Algebra.{Algebra}
use Rattle.meaning.specs.Check.{all, every, transition_test, tame_test, guard_test, fixed_test, edge_test, node_test}
use Rattle.meaning.specs.Graph.{Graph, Guards, EdgeFits, WellFormedGraph}
use Rattle.meaning.specs.Member.{In}
use Rattle.meaning.specs.Network.{Book, Places, Tame, counts}
use Rattle.meaning.proofs.Ways.{any_true}

pub all_at : (n : ℕ) (t : ℕ → Bool) → all n t ≡ true → (q : ℕ) → q < n → t q ≡ true
all_at zero t h q lt = absurd (omega arith)
all_at (suc n) t h q lt =
    let parts = and_parts (all n t) (t n) h in
    ⊎_elim (λ e. ap t e ∙ parts.1) (λ ne. all_at n t parts.0 q (omega arith)) (cases_eq q n)

pub every_at : {X : Type 0} (t : X → Bool) (xs : List X) → every t xs ≡ true → (x : X) → In x xs → t x ≡ true
every_at t [] h x i = absurd i
every_at t (y ∷ xs) h x (inl e) = ap t e ∙ (and_parts (t y) (every t xs) h).0
every_at t (y ∷ xs) h x (inr i) = every_at t xs (and_parts (t y) (every t xs) h).1 x i

pub tame_tested : (A : Algebra) (l : Lts) → tame_test A l ≡ true → Tame A l
tame_tested A l h =
    let parts = and_parts (ltb l.initial l.states) _ h in
    let at : (s : ℕ) → s < l.states → (t : Transition) → In t (l.transitions s) → transition_test A l t ≡ true =
    λ s lt t i. every_at (transition_test A l) (l.transitions s) (all_at l.states (λ x. every (transition_test A l) (l.transitions x)) parts.1 s lt) t i in
    let two : (t : Transition) → transition_test A l t ≡ true → (not (eqb t.label none) ≡ true) × ((ltb t.target l.states && A.value t.weight) ≡ true) =
    λ t e. and_parts (not (eqb t.label none)) (ltb t.target l.states && A.value t.weight) e in
    let rest : (t : Transition) → transition_test A l t ≡ true → (ltb t.target l.states ≡ true) × (A.value t.weight ≡ true) =
    λ t e. and_parts (ltb t.target l.states) (A.value t.weight) (two t e).1 in
    record {
      initial = ltb-true l.initial l.states parts.0;
      labels = λ s lt t i. eqb-false t.label none (not-true (eqb t.label none) (two t (at s lt t i)).0);
      targets = λ s lt t i. ltb-true t.target l.states (rest t (at s lt t i)).0;
      weights = λ s lt t i. (rest t (at s lt t i)).1;
    }

guard_tested : (B : Book) (left : Places) (γ : Guard) → guard_test B left γ ≡ true → Guards B left γ
guard_tested B left Plain h = tt
guard_tested B left (By r) h = any_true 8 (counts B left r) h

pub formed_tested : (A : Algebra) (B : Book) (left : Places) (G : Graph) → ((p : ℕ) → left p ≡ true → p < B.places) → all G.nodes (node_test A B left G) ≡ true → WellFormedGraph A B left G
formed_tested A B left G places h =
    let at : (q : ℕ) → q < G.nodes → node_test A B left G q ≡ true = all_at G.nodes (node_test A B left G) h in
    let two : (q : ℕ) → q < G.nodes → (ltb (G.block q) (length B.signs) ≡ true) × ((fixed_test A (G.kind q) (G.value q) && every (edge_test A B left G q) (G.edges q)) ≡ true) =
    λ q lt. and_parts (ltb (G.block q) (length B.signs)) (fixed_test A (G.kind q) (G.value q) && every (edge_test A B left G q) (G.edges q)) (at q lt) in
    let rest : (q : ℕ) → q < G.nodes → (fixed_test A (G.kind q) (G.value q) ≡ true) × (every (edge_test A B left G q) (G.edges q) ≡ true) =
    λ q lt. and_parts (fixed_test A (G.kind q) (G.value q)) (every (edge_test A B left G q) (G.edges q)) (two q lt).1 in
    record {
      places = places;
      blocks = λ q lt. ltb-true (G.block q) (length B.signs) (two q lt).0;
      fixed = λ q lt e. subst (λ k. fixed_test A k (G.value q) ≡ true) e (rest q lt).0;
      edges = λ q lt e i. edge_tested A B left G q e (every_at (edge_test A B left G q) (G.edges q) (rest q lt).1 e i);
    }
  where
    edge_tested : (A : Algebra) (B : Book) (left : Places) (G : Graph) (q : ℕ) (e : Edge) → edge_test A B left G q e ≡ true → EdgeFits A B left G q e
    edge_tested A B left G q e h =
        let a = and_parts (A.value e.weight) (ltb e.target G.nodes && (leb (G.block q) (G.block e.target) && guard_test B left e.guard)) h in
        let b = and_parts (ltb e.target G.nodes) (leb (G.block q) (G.block e.target) && guard_test B left e.guard) a.1 in
        let c = and_parts (leb (G.block q) (G.block e.target)) (guard_test B left e.guard) b.1 in
        record {
          weight = a.0;
          target = ltb-true e.target G.nodes b.0;
          block = leb-true (G.block q) (G.block e.target) c.0;
          guard = guard_tested B left e.guard c.1;
        }
