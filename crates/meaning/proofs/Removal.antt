-- A graph on a network, and its quotient by the process of one place on the rest of the network,
-- stand for one another: pair (q, s) stands for node q where the process is in state s.
use Rattle.std.proofs.Common.{◌≡◌, ℕ, ◌*◌, ◌/◌, ◌%◌, ◌<◌, Bool, true, false, cond, not, ◌&&◌, eqb, ◌⊎◌, List, [], ◌∷◌, map, sym, refl, ap, ◌∙◌, subst, inl, inr, ⊎_elim, mul_comm, arith}
use mathlib.Core.Path.{fun_ext}
use Rattle.std.proofs.lemmas.Nat.{mul-add-lt, div-mul-add, mod-mul-add, div_below, mod_below, div-add-mod'}
use Rattle.std.proofs.lemmas.Bool.{cases_eq, cases_Bool, cases_lt, eq-eqb, ne_eqb, eqb-true, true≢false, and_parts, le-ltb}
use Rattle.process.specs.declared.Transition.{Transition}
use Rattle.records.specs.Codes.{none, takes_part}
use Rattle.records.specs.declared.Edge.{Edge}
use Rattle.records.specs.declared.Guard.{Guard}
use Rattle.records.specs.declared.Guard.TheVariants.{Plain, By}
use Rattle.scale.specs.Algebra.{Algebra, Laws, Value}
use Rattle.meaning.specs.Member.{In}
use Rattle.meaning.specs.Network.{Book, Network, Places, State, Valid, Leads, Tame, asked, counts, rule_of, put}
use Rattle.meaning.specs.Graph.{Graph, Position, Moves, offers_on, network_system, Guards, EdgeFits, WellFormedGraph, Fits}
use Rattle.meaning.specs.Quotient.{any, kept, without, guard_after, pair, edge_beside, edge_along, quotient_edge, quotient_edges, quotient}
use Rattle.meaning.specs.System.{Next, goes, ends}
use Rattle.meaning.proofs.Members.{in_map, of_map, in_kept, of_kept, in_gathered, of_gathered}
use Rattle.meaning.proofs.Order.{under_meet, lowest_under}
use Rattle.meaning.proofs.Transfer.{Closed, Alike, next_map}
use Rattle.meaning.proofs.Ways.{put_same, put_other, put_back, put_put, put_none, any_true, any_false, meet_over_value, meet_over_none, beside, beside_back, along, along_back}

-- Places left without p.
pub without_same : (left : Places) (p : ℕ) → without left p p ≡ false
without_same left p = ap (λ b. left p && not b) (eq-eqb p p refl) ∙ and_false (left p)
  where
    and_false : (b : Bool) → (b && false) ≡ false
    and_false true = refl
    and_false false = refl

pub without_other : (left : Places) (p x : ℕ) → (x ≡ p → ⊥) → without left p x ≡ left x
without_other left p x n = ap (λ b. left x && not b) (ne_eqb x p n) ∙ and_true (left x)
  where
    and_true : (b : Bool) → (b && true) ≡ b
    and_true true = refl
    and_true false = refl

pub without_left : (left : Places) (p x : ℕ) → without left p x ≡ true → (left x ≡ true) × (x ≡ p → ⊥)
without_left left p x t =
    let apart : x ≡ p → ⊥ = λ e. true≢false (sym t ∙ ap (without left p) e ∙ without_same left p) in
    (sym (without_other left p x apart) ∙ t, apart)

-- a participant stands among the first eight places
pub participant_near : (B : Book) (left : Places) (r x : ℕ) → counts B left r x ≡ true → x < 8
participant_near B left r x t =
    ⊎_elim (λ h. h)
    (λ far.
    let idle : takes_part (rule_of B r) x ≡ false = ap (λ b. not (eqb (cond b (lib.ListN.get_or (rule_of B r).labels x 0) none) none)) (le-ltb x 8 far) in
    absurd (true≢false (sym (and_parts (left x) (takes_part (rule_of B r) x) t).1 ∙ idle)))
    (cases_lt x 8)

module _ {A : Algebra} (L : Laws A) (B : Book) (N : Network) (left : Places) (G : Graph) (f : Fits A B N left G) where
  -- the weights that the participants of a way take are values
  pub way_values : (r : ℕ) (g h : State) (u : ℕ) → Valid N left g → (w : Leads A N (counts B left r) (asked B r) g h u) → (x : ℕ) → counts B left r x ≡ true → Value A (w.taken x).weight
  way_values r g h u v w x t =
      let here = (and_parts (left x) (takes_part (rule_of B r) x) t).0 in
      (f.processes x here).weights (g x) (v.within x here) (w.taken x) (w.listed x t)

  -- a way ends in a state
  pub way_valid : (r : ℕ) (g h : State) (u : ℕ) → Valid N left g → Leads A N (counts B left r) (asked B r) g h u → Valid N left h
  way_valid r g h u v w = record {
    within = λ x here.
        ⊎_elim
        (λ t. subst (λ s. s < (N x).states) (w.arrives x t) ((f.processes x here).targets (g x) (v.within x here) (w.taken x) (w.listed x t)))
        (λ n. subst (λ s. s < (N x).states) (sym (w.stays x n)) (v.within x here))
        (cases_Bool (counts B left r x));
    elsewhere = λ x gone. w.stays x (ap (λ b. b && takes_part (rule_of B r) x) gone) ∙ v.elsewhere x gone;
  }

  moves_valid : (γ : Guard) (w x : ℕ) (g h : State) → Valid N left g → Moves A B N left γ w g x h → Valid N left h
  moves_valid Plain w x g h v m = subst (Valid N left) (sym m.1) v
  moves_valid (By r) w x g h v m = way_valid r g h m.0 v m.1

  pub network_closed : Closed A (network_system A B N left G)
  network_closed = record {
    stays = λ p i x q o.
        (subst (λ y. y < G.nodes) (sym o.2) (f.graph.edges p.node i.0 o.0 o.1).target, moves_valid o.0.guard o.0.weight x p.state q.state i.1 o.3);
    known = λ p i x v o. absurd o;
  }

-- Place p is left, and its process is taken into the graph.
module _ {A : Algebra} (L : Laws A) (B : Book) (N : Network) (left : Places) (p : ℕ) (here : left p ≡ true) (G : Graph) (f : Fits A B N left G) where
  tame : Tame A (N p)
  tame = f.processes p here

  some : 0 < (N p).states
  some = omega (arith, tame.initial)

  gone : (r : ℕ) → counts B (without left p) r p ≡ false
  gone r = ap (λ b. b && takes_part (rule_of B r) p) (without_same left p)

  others : (r x : ℕ) → (x ≡ p → ⊥) → counts B (without left p) r x ≡ counts B left r x
  others r x n = ap (λ b. b && takes_part (rule_of B r) x) (without_other left p x n)

  counts_here : (r : ℕ) → counts B left r p ≡ takes_part (rule_of B r) p
  counts_here r = ap (λ b. b && takes_part (rule_of B r) p) here

  -- nobody else takes part
  none_else : (r : ℕ) → any 8 (counts B (without left p) r) ≡ false → (x : ℕ) → counts B (without left p) r x ≡ false
  none_else r h x =
      ⊎_elim
      (λ near. any_false 8 (counts B (without left p) r) h x near)
      (λ far. ⊎_elim (λ t. absurd (omega (arith, participant_near B (without left p) r x t))) (λ e. e) (cases_Bool (counts B (without left p) r x)))
      (cases_lt x 8)

  -- positions
  abbrev pub to : Position → Position
  to q = record { node = pair (N p).states q.node (q.state p); state = put p 0 q.state }

  abbrev pub from : Position → Position
  from q = record { node = q.node / (N p).states; state = put p (q.node % (N p).states) q.state }

  to_valid : (g : State) → Valid N left g → Valid N (without left p) (put p 0 g)
  to_valid g v = record {
    within = λ x t. let w = without_left left p x t in rw (put_other p 0 g x w.1) (v.within x w.0);
    elsewhere = λ x t. ⊎_elim (λ e. rw e (put_same p 0 g)) (λ n. put_other p 0 g x n ∙ v.elsewhere x (sym (without_other left p x n) ∙ t)) (cases_eq x p);
  }

  from_valid : (s : ℕ) (g : State) → s < (N p).states → Valid N (without left p) g → Valid N left (put p s g)
  from_valid s g lt v = record {
    within = λ x t. ⊎_elim (λ e. subst (λ y. put p s g y < (N y).states) (sym e) (rw (put_same p s g) lt)) (λ n. rw (put_other p s g x n) (v.within x (without_other left p x n ∙ t))) (cases_eq x p);
    elsewhere = λ x t.
        let n : x ≡ p → ⊥ = λ e. true≢false (sym here ∙ ap left (sym e) ∙ t) in
        put_other p s g x n ∙ v.elsewhere x (without_other left p x n ∙ t);
  }

  position : (q r : Position) → q.node ≡ r.node → q.state ≡ r.state → q ≡ r
  position q r a b = λ i. record { node = a i; state = b i }

  -- a value that is p's part of a weight moves to the edge
  regroup : (w u v t : ℕ) → Value A w → Value A v → Value A t → u ≡ A.meet v t → A.meet w u ≡ A.meet (A.meet w t) v
  regroup w u v t a b c e = ap (A.meet w) (e ∙ L.meet_comm v t) ∙ sym (L.meet_assoc w t v a c b)

  -- what an edge e of a node becomes in state s of p's process, and how it leads
  module _ (e : Edge) (weight : Value A e.weight) (g : State) (v : Valid N left g) where
    -- an edge of the quotient for every way on which e leads
    pub record Forth (γ : Guard) (x : ℕ) (h : State) : Type 0 where
      pub edge : Edge
      pub among : In edge (quotient_edge A B left p (N p) (g p) γ e)
      pub target : pair (N p).states e.target (h p) ≡ edge.target
      pub moves : Moves A B N (without left p) edge.guard edge.weight (put p 0 g) x (put p 0 h)
      pub nothing : edge.weight ≡ A.lowest → x ≡ A.lowest

    lowest_meet : (u : ℕ) → Value A u → A.meet A.lowest u ≡ A.lowest
    lowest_meet u h = under_meet L (lowest_under L h)

    highest_meet : (u : ℕ) → Value A u → A.meet u A.highest ≡ u
    highest_meet u h = L.meet_comm u A.highest ∙ L.highest_meet u h

    forth_beside : (r x : ℕ) (h : State) → e.guard ≡ By r → takes_part (rule_of B r) p ≡ false → Moves A B N left (By r) e.weight g x h → Forth (By r) x h
    forth_beside r x h is idle w =
        let apart : counts B left r p ≡ false = counts_here r ∙ idle in
        record {
          edge = edge_beside (N p).states (g p) e;
          among = subst (λ b. In (edge_beside (N p).states (g p) e) (cond b (map (edge_along A B left p (N p).states r e) (kept (λ t. eqb t.label (asked B r p)) ((N p).transitions (g p)))) (edge_beside (N p).states (g p) e ∷ []))) (sym idle) (inl refl);
          target = ap (pair (N p).states e.target) (w.1.stays p apart);
          moves = subst (λ γ. Moves A B N (without left p) γ e.weight (put p 0 g) x (put p 0 h)) (sym is)
              (w.0, beside L N (counts B left r) (counts B (without left p) r) (asked B r) p (gone r) (others r) apart g h w.0 0 w.1, w.2);
          nothing = λ low. w.2 ∙ ap (λ z. A.meet z w.0) low ∙ lowest_meet w.0 (rw w.1.weighs (meet_over_value L 8 (counts B left r) (λ y. (w.1.taken y).weight)));
        }

    -- a transition of p's with the label that r asks for
    Taken : ℕ → Transition → Type 0
    Taken r t = In t ((N p).transitions (g p)) × (t.label ≡ asked B r p)

    taken_value : (t : Transition) → In t ((N p).transitions (g p)) → Value A t.weight
    taken_value t h = tame.weights (g p) (v.within p here) t h

    -- such a transition makes an edge of the quotient
    along_among : (r : ℕ) (t : Transition) → takes_part (rule_of B r) p ≡ true → In t ((N p).transitions (g p)) → t.label ≡ asked B r p → In (edge_along A B left p (N p).states r e t) (quotient_edge A B left p (N p) (g p) (By r) e)
    along_among r t part h k =
        subst (λ b. In (edge_along A B left p (N p).states r e t) (cond b (map (edge_along A B left p (N p).states r e) (kept (λ t. eqb t.label (asked B r p)) ((N p).transitions (g p)))) (edge_beside (N p).states (g p) e ∷ []))) (sym part)
        (in_map (edge_along A B left p (N p).states r e) t _ (in_kept (λ t. eqb t.label (asked B r p)) t ((N p).transitions (g p)) h (eq-eqb t.label (asked B r p) k)))

    -- where nobody else takes part, the others' way is no step at all
    still : (r : ℕ) (h k : State) (u : ℕ) → any 8 (counts B (without left p) r) ≡ false → Leads A N (counts B (without left p) r) (asked B r) h k u → (k ≡ h) × (u ≡ A.highest)
    still r h k u n w =
        (fun_ext (λ x. w.stays x (none_else r n x)), w.weighs ∙ meet_over_none L 8 (counts B (without left p) r) (λ y. (w.taken y).weight) (λ x l. none_else r n x))

    forth_along : (r x : ℕ) (h : State) → takes_part (rule_of B r) p ≡ true → Moves A B N left (By r) e.weight g x h → Forth (By r) x h
    forth_along r x h part w =
        let c_p : counts B left r p ≡ true = counts_here r ∙ part in
        let way = along L N (counts B left r) (counts B (without left p) r) (asked B r) p (gone r) (others r) c_p (participant_near B left r p c_p) g h w.0 0 w.1 (way_values L B N left G f r g h w.0 v w.1) in
        let t : Transition = w.1.taken p in
        let t_value : Value A t.weight = taken_value t (w.1.listed p c_p) in
        let u_value : Value A way.0 = rw way.1.weighs (meet_over_value L 8 (counts B (without left p) r) (λ y. (way.1.taken y).weight)) in
        let sum : x ≡ A.meet (A.meet e.weight t.weight) way.0 = w.2 ∙ regroup e.weight w.0 way.0 t.weight weight u_value t_value way.2 in
        record {
          edge = edge_along A B left p (N p).states r e t;
          among = along_among r t part (w.1.listed p c_p) (w.1.labelled p c_p);
          target = ap (pair (N p).states e.target) (sym (w.1.arrives p c_p));
          moves =
              ⊎_elim
              (λ y. subst (λ b. Moves A B N (without left p) (cond b (By r) Plain) (A.meet e.weight t.weight) (put p 0 g) x (put p 0 h)) (sym y) (way.0, way.1, sum))
              (λ n.
              let s = still r (put p 0 g) (put p 0 h) way.0 n way.1 in
              subst (λ b. Moves A B N (without left p) (cond b (By r) Plain) (A.meet e.weight t.weight) (put p 0 g) x (put p 0 h)) (sym n)
              (sum ∙ ap (A.meet (A.meet e.weight t.weight)) s.1 ∙ highest_meet (A.meet e.weight t.weight) (L.meet_value e.weight t.weight), s.0))
              (cases_Bool (any 8 (counts B (without left p) r)));
          nothing = λ low. sum ∙ ap (λ z. A.meet z way.0) low ∙ lowest_meet way.0 u_value;
        }

    pub forth_edge : (γ : Guard) (x : ℕ) (h : State) → e.guard ≡ γ → Moves A B N left γ e.weight g x h → Forth γ x h
    forth_edge Plain x h is w = record {
      edge = edge_beside (N p).states (g p) e;
      among = inl refl;
      target = ap (λ k. pair (N p).states e.target (k p)) w.1;
      moves = subst (λ γ. Moves A B N (without left p) γ e.weight (put p 0 g) x (put p 0 h)) (sym is) (w.0, ap (put p 0) w.1);
      nothing = λ low. w.0 ∙ low;
    }
    forth_edge (By r) x h is w =
        ⊎_elim (λ part. forth_along r x h part w) (λ idle. forth_beside r x h is idle w) (cases_Bool (takes_part (rule_of B r) p))

    -- and a way on which e leads for every way of an edge of the quotient
    pub record Back (x : ℕ) (d : Edge) (k : State) : Type 0 where
      pub state : State
      pub target : pair (N p).states e.target (state p) ≡ d.target
      pub rests : put p 0 state ≡ k
      pub moves : Moves A B N left e.guard e.weight g x state

    -- the guard and the weight of an edge that is another
    moves_as : (d d' : Edge) (x : ℕ) (k : State) → d ≡ d' → Moves A B N (without left p) d.guard d.weight (put p 0 g) x k → Moves A B N (without left p) d'.guard d'.weight (put p 0 g) x k
    moves_as d d' x k is = subst (λ c. Moves A B N (without left p) c.guard c.weight (put p 0 g) x k) is

    back_beside : (r x : ℕ) (d : Edge) (k : State) → e.guard ≡ By r → takes_part (rule_of B r) p ≡ false → d ≡ edge_beside (N p).states (g p) e → Moves A B N (without left p) d.guard d.weight (put p 0 g) x k → Back x d k
    back_beside r x d k is idle same w =
        let apart : counts B left r p ≡ false = counts_here r ∙ idle in
        let w' : Moves A B N (without left p) (By r) e.weight (put p 0 g) x k = subst (λ γ. Moves A B N (without left p) γ e.weight (put p 0 g) x k) is (moves_as d _ x k same w) in
        let zero_at : k p ≡ 0 = w'.1.stays p (gone r) ∙ put_same p 0 g in
        record {
          state = put p (g p) k;
          target = ap (pair (N p).states e.target) (put_same p (g p) k) ∙ ap (λ c. c.target) (sym same);
          rests = put_put p (g p) 0 k ∙ put_none p 0 k zero_at;
          moves = subst (λ γ. Moves A B N left γ e.weight g x (put p (g p) k)) (sym is)
              (w'.0, beside_back L N (counts B left r) (counts B (without left p) r) (asked B r) p (gone r) (others r) apart g k w'.0 0 w'.1, w'.2);
        }

    -- a step that nobody takes
    stand : (r : ℕ) (t : Transition) (k : State) → k ≡ put p 0 g → any 8 (counts B (without left p) r) ≡ false → Leads A N (counts B (without left p) r) (asked B r) (put p 0 g) k A.highest
    stand r t k same n = record {
      taken = λ _. t;
      listed = λ x y. absurd (true≢false (sym y ∙ none_else r n x));
      labelled = λ x y. absurd (true≢false (sym y ∙ none_else r n x));
      arrives = λ x y. absurd (true≢false (sym y ∙ none_else r n x));
      stays = λ x y. ap (λ h. h x) same;
      weighs = sym (meet_over_none L 8 (counts B (without left p) r) (λ _. t.weight) (λ x l. none_else r n x));
    }

    -- the others' way beside a transition of p's
    others_way : (r x w : ℕ) (t : Transition) (k : State) → Value A w → Moves A B N (without left p) (guard_after B left p r) w (put p 0 g) x k → (u : ℕ) × Leads A N (counts B (without left p) r) (asked B r) (put p 0 g) k u × (x ≡ A.meet w u)
    others_way r x w t k value h =
        ⊎_elim
        (λ y. subst (λ b. Moves A B N (without left p) (cond b (By r) Plain) w (put p 0 g) x k) y h)
        (λ n.
        let q = subst (λ b. Moves A B N (without left p) (cond b (By r) Plain) w (put p 0 g) x k) n h in
        (A.highest, stand r t k q.1 n, q.0 ∙ sym (highest_meet w value)))
        (cases_Bool (any 8 (counts B (without left p) r)))

    others_values : (r : ℕ) (k : State) (u : ℕ) (w : Leads A N (counts B (without left p) r) (asked B r) (put p 0 g) k u) (x : ℕ) → counts B (without left p) r x ≡ true → Value A (w.taken x).weight
    others_values r k u w x t =
        let on = without_left left p x (and_parts (without left p x) (takes_part (rule_of B r) x) t).0 in
        (f.processes x on.0).weights (g x) (v.within x on.0) (w.taken x) (rw (put_other p 0 g x on.1) at (w.listed x t))

    back_along : (r x : ℕ) (d : Edge) (k : State) (t : Transition) → e.guard ≡ By r → takes_part (rule_of B r) p ≡ true → In t ((N p).transitions (g p)) → t.label ≡ asked B r p → d ≡ edge_along A B left p (N p).states r e t → Moves A B N (without left p) d.guard d.weight (put p 0 g) x k → Back x d k
    back_along r x d k t is part listed labelled same w =
        let c_p : counts B left r p ≡ true = counts_here r ∙ part in
        let way = others_way r x (A.meet e.weight t.weight) t k (L.meet_value e.weight t.weight) (moves_as d _ x k same w) in
        let u_value : Value A way.0 = rw way.1.weighs (meet_over_value L 8 (counts B (without left p) r) (λ y. (way.1.taken y).weight)) in
        let whole = along_back L N (counts B left r) (counts B (without left p) r) (asked B r) p (gone r) (others r) c_p (participant_near B left r p c_p) g k way.0 0 t listed labelled (taken_value t listed) way.1 (others_values r k way.0 way.1) in
        record {
          state = put p t.target k;
          target = ap (pair (N p).states e.target) (put_same p t.target k) ∙ ap (λ c. c.target) (sym same);
          rests = put_put p t.target 0 k ∙ put_none p 0 k (way.1.stays p (gone r) ∙ put_same p 0 g);
          moves = subst (λ γ. Moves A B N left γ e.weight g x (put p t.target k)) (sym is)
              (A.meet way.0 t.weight, whole, way.2 ∙ sym (regroup e.weight (A.meet way.0 t.weight) way.0 t.weight weight u_value (taken_value t listed) refl));
        }

    pub back_edge : (γ : Guard) (x : ℕ) (d : Edge) (k : State) → e.guard ≡ γ → In d (quotient_edge A B left p (N p) (g p) γ e) → Moves A B N (without left p) d.guard d.weight (put p 0 g) x k → Back x d k
    back_edge Plain x d k is (inl same) w =
        let w' : Moves A B N (without left p) Plain e.weight (put p 0 g) x k = subst (λ γ. Moves A B N (without left p) γ e.weight (put p 0 g) x k) is (moves_as d _ x k same w) in
        record {
          state = g;
          target = ap (λ c. c.target) (sym same);
          rests = sym w'.1;
          moves = subst (λ γ. Moves A B N left γ e.weight g x g) (sym is) (w'.0, refl);
        }
    back_edge Plain x d k is (inr no_more) w = absurd no_more
    back_edge (By r) x d k is among w =
        ⊎_elim
        (λ part.
        let mapped = subst (λ b. In d (cond b (map (edge_along A B left p (N p).states r e) (kept (λ t. eqb t.label (asked B r p)) ((N p).transitions (g p)))) (edge_beside (N p).states (g p) e ∷ []))) part among in
        let o = of_map (edge_along A B left p (N p).states r e) d _ mapped in
        let q = of_kept (λ t. eqb t.label (asked B r p)) o.0 ((N p).transitions (g p)) o.1 in
        back_along r x d k o.0 is part q.0 (eqb-true o.0.label (asked B r p) q.1) o.2 w)
        (λ idle.
        let one = subst (λ b. In d (cond b (map (edge_along A B left p (N p).states r e) (kept (λ t. eqb t.label (asked B r p)) ((N p).transitions (g p)))) (edge_beside (N p).states (g p) e ∷ []))) idle among in
        back_beside r x d k is idle (⊎_elim (λ y. y) (λ n. absurd n) one) w)
        (cases_Bool (takes_part (rule_of B r) p))

  pair_below : (q s : ℕ) → q < G.nodes → s < (N p).states → pair (N p).states q s < G.nodes * (N p).states
  pair_below q s a b = rw (mul_comm G.nodes (N p).states) (mul-add-lt q (N p).states s G.nodes a b)

  edges_at : (q s : ℕ) → s < (N p).states → (quotient A B left p (N p) G).edges (pair (N p).states q s) ≡ quotient_edges A B left p (N p) s (G.edges q)
  edges_at q s lt = λ i. quotient_edges A B left p (N p) (mod-mul-add q (N p).states s lt i) (G.edges (div-mul-add q (N p).states s lt i))

  -- the edge of the node that an edge of a pair comes from
  origin : (s : ℕ) (d : Edge) (es : List Edge) → In d (quotient_edges A B left p (N p) s es) → (e : Edge) × In e es × In d (quotient_edge A B left p (N p) s e.guard e)
  origin s d es h =
      of_gathered (λ e. quotient_edge A B left p (N p) s e.guard e) d es (of_kept (λ e. not (eqb e.weight A.lowest)) d _ h).0

  forth_offers : (q : Position) → (q.node < G.nodes) × Valid N left q.state → (x : ℕ) (n : Next Position) → offers_on A B N left G q x n → offers_on A B N (without left p) (quotient A B left p (N p) G) (to q) x (next_map to n) ⊎ (x ≡ A.lowest)
  forth_offers q i x (goes r) o =
      let e = o.0 in
      let F = forth_edge e (f.graph.edges q.node i.0 e o.1).weight q.state i.1 e.guard x r.state refl o.3 in
      ⊎_elim
      (λ low. inr (F.nothing low))
      (λ more.
      let here_in = in_kept (λ c. not (eqb c.weight A.lowest)) F.edge _
      (in_gathered (λ c. quotient_edge A B left p (N p) (q.state p) c.guard c) F.edge e (G.edges q.node) o.1 F.among)
      (ap not (ne_eqb F.edge.weight A.lowest more)) in
      inl (F.edge, subst (In F.edge) (sym (edges_at q.node (q.state p) (i.1.within p here))) here_in, ap (λ y. pair (N p).states y (r.state p)) o.2 ∙ F.target, F.moves))
      (cases_eq F.edge.weight A.lowest)
  forth_offers q i x (ends c) o = absurd o

  back_offers : (q : Position) → (q.node < G.nodes) × Valid N left q.state → (x : ℕ) (n : Next Position) → offers_on A B N (without left p) (quotient A B left p (N p) G) (to q) x n → ((o : Next Position) × offers_on A B N left G q x o × (next_map to o ≡ n)) ⊎ (x ≡ A.lowest)
  back_offers q i x (goes r) o =
      let from_edge = origin (q.state p) o.0 (G.edges q.node) (subst (In o.0) (edges_at q.node (q.state p) (i.1.within p here)) o.1) in
      let e = from_edge.0 in
      let K = back_edge e (f.graph.edges q.node i.0 e from_edge.1).weight q.state i.1 e.guard x o.0 r.state refl from_edge.2 o.3 in
      let on : Position = record { node = e.target; state = K.state } in
      inl (goes on, (e, from_edge.1, refl, K.moves), ap goes (position (to on) r (K.target ∙ sym o.2) K.rests))
  back_offers q i x (ends c) o = absurd o

  pub removal_alike : Alike A (network_system A B N left G) (network_system A B N (without left p) (quotient A B left p (N p) G))
  removal_alike = record {
    to = to;
    from = from;
    to_inside = λ q i. (pair_below q.node (q.state p) i.0 (i.1.within p here), to_valid q.state i.1);
    from_inside = λ q i. (div_below q.node (N p).states G.nodes some i.0, from_valid (q.node % (N p).states) q.state (mod_below q.node (N p).states some) i.1);
    from_to = λ q i.
        let lt = i.1.within p here in
        position (from (to q)) q (div-mul-add q.node (N p).states (q.state p) lt)
        (ap (λ s. put p s (put p 0 q.state)) (mod-mul-add q.node (N p).states (q.state p) lt) ∙ put_back p 0 q.state);
    to_from = λ q i.
        position (to (from q)) q
        (ap (pair (N p).states (q.node / (N p).states)) (put_same p (q.node % (N p).states) q.state) ∙ div-add-mod' q.node (N p).states)
        (put_put p (q.node % (N p).states) 0 q.state ∙ put_none p 0 q.state (i.1.elsewhere p (without_same left p)));
    kind = λ q i. ap G.kind (div-mul-add q.node (N p).states (q.state p) (i.1.within p here));
    block = λ q i. ap G.block (div-mul-add q.node (N p).states (q.state p) (i.1.within p here));
    fixed = λ q i. ap G.value (div-mul-add q.node (N p).states (q.state p) (i.1.within p here));
    sign = λ b. refl;
    forth = forth_offers;
    back = back_offers;
  }

  pub alike_to : (q : Position) → removal_alike.to q ≡ to q
  unfolding removal_alike
  alike_to q = refl

  -- The quotient fits what is left of the network.
  module _ (q s : ℕ) (q_in : q < G.nodes) (s_in : s < (N p).states) (e : Edge) (e_in : In e (G.edges q)) where
    -- an edge of weight w to the pair of e's target and a state t, whose guard is good
    pair_fits : (d : Edge) (t : ℕ) → Value A d.weight → d.target ≡ pair (N p).states e.target t → t < (N p).states → Guards B (without left p) d.guard → EdgeFits A B (without left p) (quotient A B left p (N p) G) (pair (N p).states q s) d
    pair_fits d t w is lt good =
        let told = f.graph.edges q q_in e e_in in
        record {
          weight = w;
          target = rw is (pair_below e.target t told.target lt);
          block = rw (is, div-mul-add q (N p).states s s_in, div-mul-add e.target (N p).states t lt) told.block;
          guard = good;
        }

    beside_guards : (γ : Guard) → Guards B left γ → ((r : ℕ) → γ ≡ By r → takes_part (rule_of B r) p ≡ false) → Guards B (without left p) γ
    beside_guards Plain h n = tt
    beside_guards (By r) h n =
        let apart : h.0 ≡ p → ⊥ = λ x. true≢false (sym h.1 ∙ ap (counts B left r) x ∙ counts_here r ∙ n r refl) in
        (h.0, others r h.0 apart ∙ h.1)

    after_guards : (r : ℕ) → Guards B (without left p) (guard_after B left p r)
    after_guards r =
        ⊎_elim
        (λ y. subst (λ b. Guards B (without left p) (cond b (By r) Plain)) (sym y) (any_true 8 (counts B (without left p) r) y))
        (λ n. subst (λ b. Guards B (without left p) (cond b (By r) Plain)) (sym n) tt)
        (cases_Bool (any 8 (counts B (without left p) r)))

    beside_fits : (d : Edge) → d ≡ edge_beside (N p).states s e → ((r : ℕ) → e.guard ≡ By r → takes_part (rule_of B r) p ≡ false) → EdgeFits A B (without left p) (quotient A B left p (N p) G) (pair (N p).states q s) d
    beside_fits d is n =
        let told = f.graph.edges q q_in e e_in in
        pair_fits d s (rw (ap (λ c. c.weight) is) told.weight) (ap (λ c. c.target) is) s_in (subst (Guards B (without left p)) (ap (λ c. c.guard) (sym is)) (beside_guards e.guard told.guard n))

    edge_fits : (γ : Guard) (d : Edge) → e.guard ≡ γ → In d (quotient_edge A B left p (N p) s γ e) → EdgeFits A B (without left p) (quotient A B left p (N p) G) (pair (N p).states q s) d
    edge_fits Plain d is (inl same) = beside_fits d same (λ r y. absurd (plain_by r (sym is ∙ y)))
      where
        plain_by : (r : ℕ) → Plain ≡ By r → ⊥
        plain_by r y = let z : ◌≡◌ {A = ℕ} 0 1 = cc in omega arith
    edge_fits Plain d is (inr no_more) = absurd no_more
    edge_fits (By r) d is among =
        ⊎_elim
        (λ part.
        let mapped = subst (λ b. In d (cond b (map (edge_along A B left p (N p).states r e) (kept (λ t. eqb t.label (asked B r p)) ((N p).transitions s))) (edge_beside (N p).states s e ∷ []))) part among in
        let o = of_map (edge_along A B left p (N p).states r e) d _ mapped in
        let t_in = (of_kept (λ t. eqb t.label (asked B r p)) o.0 ((N p).transitions s) o.1).0 in
        pair_fits d o.0.target (rw (ap (λ c. c.weight) o.2) (L.meet_value e.weight o.0.weight)) (ap (λ c. c.target) o.2) (tame.targets s s_in o.0 t_in)
        (subst (Guards B (without left p)) (ap (λ c. c.guard) (sym o.2)) (after_guards r)))
        (λ idle.
        let one = subst (λ b. In d (cond b (map (edge_along A B left p (N p).states r e) (kept (λ t. eqb t.label (asked B r p)) ((N p).transitions s))) (edge_beside (N p).states s e ∷ []))) idle among in
        beside_fits d (⊎_elim (λ y. y) (λ n. absurd n) one) (λ r' y. let same : r ≡ r' = cc in subst (λ z. takes_part (rule_of B z) p ≡ false) same idle))
        (cases_Bool (takes_part (rule_of B r) p))

  pub quotient_formed : WellFormedGraph A B (without left p) (quotient A B left p (N p) G)
  quotient_formed = record {
    places = λ x t. f.graph.places x (without_left left p x t).0;
    blocks = λ i lt. f.graph.blocks (i / (N p).states) (div_below i (N p).states G.nodes some lt);
    fixed = λ i lt. f.graph.fixed (i / (N p).states) (div_below i (N p).states G.nodes some lt);
    edges = λ i lt d h.
        let q = i / (N p).states in
        let s = i % (N p).states in
        let q_in = div_below i (N p).states G.nodes some lt in
        let s_in = mod_below i (N p).states some in
        let o = origin s d (G.edges q) h in
        subst (λ j. EdgeFits A B (without left p) (quotient A B left p (N p) G) j d) (div-add-mod' i (N p).states) (edge_fits q s q_in s_in o.0 o.1 o.0.guard d refl o.2);
  }

  pub quotient_fits : Fits A B N (without left p) (quotient A B left p (N p) G)
  quotient_fits = record {
    processes = λ x t. f.processes x (without_left left p x t).0;
    graph = quotient_formed;
  }
