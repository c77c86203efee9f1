-- What the absence of a refusal gives: a process that is tame, a graph that is well formed.
use Rattle.std.proofs.Common.{◌≡◌, ℕ, zero, suc, ◌+◌, ◌^◌, ◌<◌, ◌≤◌, Bool, true, not, ◌&&◌, ◌||◌, eqb, ltb, leb, List, [], ◌∷◌, length, Some, None, sym, refl, ap, subst, inl, inr, arith}
use Rattle.std.specs.List.{slice_get}
use Rattle.std.proofs.lemmas.Bool.{and_parts, and_from, not-false, ltb-true, leb-true, eqb-false, not-true}
use Rattle.fault.specs.declared.Fault.TheVariants.{Shape, Step, Misfit}
use Rattle.process.specs.Lts.{Lts}
use Rattle.process.specs.declared.Transition.{Transition}
use Rattle.records.specs.Codes.{none}
use Rattle.scale.specs.Algebra.{Algebra}
use Rattle.fault.specs.First.{flag, or_else, earliest}
use Rattle.fault.proofs.First.{flag_failed, neither, earliest_at}
use Rattle.meaning.specs.Check.{all, transition_test, node_test}
use Rattle.meaning.specs.Graph.{WellFormedGraph}
use Rattle.meaning.specs.Member.{In}
use Rattle.meaning.specs.Network.{Book, Tame}
use Rattle.meaning.proofs.Check.{formed_tested}
use Rattle.calls.specs.Fit.{fits_node, fits, due, plain_values}
use Rattle.calls.specs.Left.{left_places}
use Rattle.calls.specs.Memory.{Memory, held, node_in}
use Rattle.calls.specs.Outcome.{fit_fault}
use Rattle.calls.specs.Process.{shape_fault, step_fault, step_wrong, process_fault}
use Rattle.calls.specs.declared.remainder.Remainder.{Remainder}
use Rattle.calls.proofs.Lefts.{left_below}

-- an element stands at some index
at_index : {X : Type 0} (x : X) (xs : List X) → In x xs → (e : ℕ) × (e < length xs) × (slice_get xs e ≡ Some x)
at_index x [] h = absurd h
at_index x (y ∷ xs) (inl e) = (0, omega arith, ap Some (sym e))
at_index x (y ∷ xs) (inr h) = let r = at_index x xs h in (suc r.0, omega (arith, r.1), r.2)

pub tame_from : (A : Algebra) (l : Lts) → process_fault A l ≡ None → Tame A l
tame_from A l h =
    let two = neither (shape_fault l) (step_fault A l) h in
    let shape = neither (flag (eqb l.states 0 || ltb 65536 l.states) (Shape 0)) (or_else (flag (not (ltb l.initial l.states)) (Shape 0)) (earliest l.states (λ s. flag (ltb 65535 (length (l.transitions s))) (Shape s)))) two.0 in
    let begin = neither (flag (not (ltb l.initial l.states)) (Shape 0)) (earliest l.states (λ s. flag (ltb 65535 (length (l.transitions s))) (Shape s))) shape.1 in
    let at : (s : ℕ) → s < l.states → (t : Transition) → In t (l.transitions s) → transition_test A l t ≡ true =
    λ s lt t i.
    let k = at_index t (l.transitions s) i in
    let here = earliest_at (λ x. earliest (length (l.transitions x)) (λ e. step_wrong A l x e (slice_get (l.transitions x) e))) l.states s two.1 lt in
    let one = earliest_at (λ e. step_wrong A l s e (slice_get (l.transitions s) e)) (length (l.transitions s)) k.0 here k.1 in
    let got : flag (not (transition_test A l t)) (Step s k.0) ≡ None = subst (λ o. step_wrong A l s k.0 o ≡ None) k.2 one in
    not-false (transition_test A l t) (flag_failed (not (transition_test A l t)) (Step s k.0) got) in
    let parts : (t : Transition) → transition_test A l t ≡ true → (not (eqb t.label none) ≡ true) × ((ltb t.target l.states && A.value t.weight) ≡ true) =
    λ t e. and_parts (not (eqb t.label none)) (ltb t.target l.states && A.value t.weight) e in
    let rest : (t : Transition) → transition_test A l t ≡ true → (ltb t.target l.states ≡ true) × (A.value t.weight ≡ true) =
    λ t e. and_parts (ltb t.target l.states) (A.value t.weight) (parts t e).1 in
    record {
      initial = ltb-true l.initial l.states (not-false (ltb l.initial l.states) (flag_failed (not (ltb l.initial l.states)) (Shape 0) begin.0));
      labels = λ s lt t i. eqb-false t.label none (not-true (eqb t.label none) (parts t (at s lt t i)).0);
      targets = λ s lt t i. ltb-true t.target l.states (rest t (at s lt t i)).0;
      weights = λ s lt t i. (rest t (at s lt t i)).1;
    }

-- Everything that a good fit says.
pub record Fitting (A : Algebra) (B : Book) (r : Remainder) (m : Memory) : Type 0 where
  pub long_nodes : r.nodes ≤ length m.nodes
  pub long_edges : r.edges ≤ length m.edges
  pub places : r.left < 2 ^ B.places
  pub initial : r.initial < r.nodes
  pub graph : WellFormedGraph A B (left_places r.left) (held r m)

-- every node keeps its rules
pub nodes_fit : (A : Algebra) (B : Book) (r : Remainder) (m : Memory) → fits A B r m ≡ true → all r.nodes (fits_node A B r m) ≡ true
nodes_fit A B r m h =
    let a = and_parts (leb r.nodes (length m.nodes)) (leb r.edges (length m.edges) && (ltb r.left (2 ^ B.places) && (ltb r.initial r.nodes && (all r.nodes (fits_node A B r m) && eqb (due m r.nodes) r.edges)))) h in
    let b = and_parts (leb r.edges (length m.edges)) (ltb r.left (2 ^ B.places) && (ltb r.initial r.nodes && (all r.nodes (fits_node A B r m) && eqb (due m r.nodes) r.edges))) a.1 in
    let c = and_parts (ltb r.left (2 ^ B.places)) (ltb r.initial r.nodes && (all r.nodes (fits_node A B r m) && eqb (due m r.nodes) r.edges)) b.1 in
    let d = and_parts (ltb r.initial r.nodes) (all r.nodes (fits_node A B r m) && eqb (due m r.nodes) r.edges) c.1 in
    (and_parts (all r.nodes (fits_node A B r m)) (eqb (due m r.nodes) r.edges) d.1).0

pub fitting_true : (A : Algebra) (B : Book) (r : Remainder) (m : Memory) → fits A B r m ≡ true → Fitting A B r m
fitting_true A B r m h =
    let a = and_parts (leb r.nodes (length m.nodes)) (leb r.edges (length m.edges) && (ltb r.left (2 ^ B.places) && (ltb r.initial r.nodes && (all r.nodes (fits_node A B r m) && eqb (due m r.nodes) r.edges)))) h in
    let b = and_parts (leb r.edges (length m.edges)) (ltb r.left (2 ^ B.places) && (ltb r.initial r.nodes && (all r.nodes (fits_node A B r m) && eqb (due m r.nodes) r.edges))) a.1 in
    let c = and_parts (ltb r.left (2 ^ B.places)) (ltb r.initial r.nodes && (all r.nodes (fits_node A B r m) && eqb (due m r.nodes) r.edges)) b.1 in
    let d = and_parts (ltb r.initial r.nodes) (all r.nodes (fits_node A B r m) && eqb (due m r.nodes) r.edges) c.1 in
    let small = ltb-true r.left (2 ^ B.places) c.0 in
    record {
      long_nodes = leb-true r.nodes (length m.nodes) a.0;
      long_edges = leb-true r.edges (length m.edges) b.0;
      places = small;
      initial = ltb-true r.initial r.nodes d.0;
      graph = formed_tested A B (left_places r.left) (held r m) (λ p t. left_below r.left B.places p small t) (all_from r.nodes (fits_node A B r m) (node_test A B (left_places r.left) (held r m)) (node_part A B r m) (nodes_fit A B r m h));
    }
  where
    all_from : (n : ℕ) (t u : ℕ → Bool) → ((q : ℕ) → t q ≡ true → u q ≡ true) → all n t ≡ true → all n u ≡ true
    all_from zero t u f h = refl
    all_from (suc n) t u f h = let p = and_parts (all n t) (t n) h in and_from (all n u) (u n) (all_from n t u f p.0) (f n p.1)

    node_part : (A : Algebra) (B : Book) (r : Remainder) (m : Memory) (q : ℕ) → fits_node A B r m q ≡ true → node_test A B (left_places r.left) (held r m) q ≡ true
    node_part A B r m q h =
        let a = and_parts (eqb (node_in m q).first (due m q)) (leb ((node_in m q).first + (node_in m q).count) r.edges && (plain_values (node_in m q).kind (node_in m q) && node_test A B (left_places r.left) (held r m) q)) h in
        let b = and_parts (leb ((node_in m q).first + (node_in m q).count) r.edges) (plain_values (node_in m q).kind (node_in m q) && node_test A B (left_places r.left) (held r m) q) a.1 in
        (and_parts (plain_values (node_in m q).kind (node_in m q)) (node_test A B (left_places r.left) (held r m) q) b.1).1

pub fitting : (A : Algebra) (B : Book) (r : Remainder) (m : Memory) → fit_fault A B r m ≡ None → Fitting A B r m
fitting A B r m h = fitting_true A B r m (not-false (fits A B r m) (flag_failed (not (fits A B r m)) Misfit h))
