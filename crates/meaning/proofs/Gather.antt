-- A node's right side without processes, computed from its list of edges.
use Rattle.std.proofs.Common.{◌≡◌, ℕ, ◌<◌, List, [], ◌∷◌, sym, refl, ap, ◌∙◌, subst, inl, inr}
use Rattle.records.specs.declared.Edge.{Edge}
use Rattle.records.specs.declared.Guard.{Guard}
use Rattle.records.specs.declared.Guard.TheVariants.{Plain, By}
use Rattle.records.specs.declared.Kind.{Kind}
use Rattle.records.specs.declared.Kind.TheVariants.{AnyOf, AllOf, Fixed}
use Rattle.scale.specs.Algebra.{Algebra, Laws, Value, Under}
use Rattle.meaning.specs.Graph.{Graph, WellFormedGraph, reads, reading_system}
use Rattle.meaning.specs.Member.{In}
use Rattle.meaning.specs.Network.{Book, Places}
use Rattle.meaning.specs.System.{Next, goes, ends, share, worth, way, Toward, Contributed, Bounds, Nearest, Above, Below}
use Rattle.meaning.proofs.Order.{first_of, first_value, first_toward, farther, farther_value, farther_left, farther_right, farther_first, share_value, toward_trans, toward_refl}
use Rattle.meaning.proofs.Transfer.{Closed}

-- the value behind an edge, where a guarded one ends at c
abbrev pub behind : ℕ → (ℕ → ℕ) → Guard → ℕ → ℕ
behind c V Plain y = V y
behind c V (By r) y = c

module _ {A : Algebra} (L : Laws A) (c : ℕ) (known : Value A c) where
  abbrev pub contribution : Kind → (ℕ → ℕ) → Edge → ℕ
  contribution k V e = share A k e.weight (behind c V e.guard e.target)

  -- all contributions together: their join under any-of, their meet under all-of
  abbrev pub gather : Kind → (ℕ → ℕ) → List Edge → ℕ
  gather k V [] = first_of L (way k)
  gather k V (e ∷ es) = farther L (way k) (contribution k V e) (gather k V es)

  pub gather_value : (k : Kind) (V : ℕ → ℕ) (es : List Edge) → Value A (gather k V es)
  gather_value k V [] = first_value L (way k)
  gather_value k V (e ∷ es) = farther_value L (way k) (contribution k V e) (gather k V es)

  -- the values behind a list's edges are values
  abbrev pub Valued : (ℕ → ℕ) → List Edge → Type 0
  Valued V es = (e : Edge) → In e es → Value A (V e.target)

  pub behind_value : (V : ℕ → ℕ) (γ : Guard) (y : ℕ) → Value A (V y) → Value A (behind c V γ y)
  behind_value V Plain y h = h
  behind_value V (By r) y h = known

  contribution_value : (k : Kind) (V : ℕ → ℕ) (e : Edge) → Value A (V e.target) → Value A (contribution k V e)
  contribution_value k V e h = share_value L k e.weight (behind_value V e.guard e.target h)

  pub gather_past : (k : Kind) (V : ℕ → ℕ) (es : List Edge) → Valued V es → (e : Edge) → In e es → Toward A (way k) (contribution k V e) (gather k V es)
  gather_past k V [] v e h = absurd h
  gather_past k V (d ∷ es) v e (inl same) =
      subst (λ x. Toward A (way k) (contribution k V x) (gather k V (d ∷ es))) (sym same) (farther_left L (way k) (contribution_value k V d (v d (inl refl))) (gather_value k V es))
  gather_past k V (d ∷ es) v e (inr h) =
      toward_trans L (gather_past k V es (λ x i. v x (inr i)) e h) (farther_right L (way k) (contribution_value k V d (v d (inl refl))) (gather_value k V es))

  pub gather_first : (k : Kind) (V : ℕ → ℕ) (es : List Edge) (d : ℕ) → Value A d → ((e : Edge) → In e es → Toward A (way k) (contribution k V e) d) → Toward A (way k) (gather k V es) d
  gather_first k V [] d v h = first_toward L (way k) v
  gather_first k V (e ∷ es) d v h = farther_first L (h e (inl refl)) (gather_first k V es d v (λ x i. h x (inr i)))

  module _ (B : Book) (left : Places) (G : Graph) (f : WellFormedGraph A B left G) where
    reads_worth : (γ : Guard) (y : ℕ) (n : Next ℕ) (V : ℕ → ℕ) → reads γ y c n → worth V n ≡ behind c V γ y
    reads_worth Plain y (goes q) V h = ap V h
    reads_worth Plain y (ends v) V h = absurd h
    reads_worth (By r) y (goes q) V h = absurd h
    reads_worth (By r) y (ends v) V h = h

    next_of : Guard → ℕ → Next ℕ
    next_of Plain y = goes y
    next_of (By r) y = ends c

    reads_next : (γ : Guard) (y : ℕ) → reads γ y c (next_of γ y)
    unfolding next_of
    reads_next Plain y = refl
    reads_next (By r) y = refl

    -- what a node's edges contribute is what the list does
    pub of_edge : (k : Kind) (V : ℕ → ℕ) (q s : ℕ) → Contributed A (reading_system B c G) k V q s → (e : Edge) × In e (G.edges q) × (s ≡ contribution k V e)
    of_edge k V q s h =
        let o = h.offered in
        (o.0, o.1, h.shared ∙ (λ i. share A k (o.2 i) (reads_worth o.0.guard o.0.target h.next V o.3 i)))

    pub to_edge : (k : Kind) (V : ℕ → ℕ) (q : ℕ) (e : Edge) → In e (G.edges q) → Contributed A (reading_system B c G) k V q (contribution k V e)
    to_edge k V q e h = record {
      weight = e.weight;
      next = next_of e.guard e.target;
      offered = (e, h, refl, reads_next e.guard e.target);
      shared = ap (share A k e.weight) (sym (reads_worth e.guard e.target (next_of e.guard e.target) V (reads_next e.guard e.target)));
    }

    pub reading_closed : Closed A (reading_system B c G)
    reading_closed = record {
      stays = λ q i x r o. closed_goes o.0.guard o.0.target r o.3 (f.edges q i o.0 o.1).target;
      known = λ q i x v o. closed_ends o.0.guard o.0.target v o.3;
    }
      where
        closed_goes : (γ : Guard) (y r : ℕ) → reads γ y c (goes r) → y < G.nodes → r < G.nodes
        closed_goes Plain y r h lt = subst (λ z. z < G.nodes) (sym h) lt
        closed_goes (By n) y r h lt = absurd h

        closed_ends : (γ : Guard) (y v : ℕ) → reads γ y c (ends v) → Value A v
        closed_ends Plain y v h = absurd h
        closed_ends (By n) y v h = subst (Value A) (sym h) known

    -- The two halves of a node's equation, read from the gathered value.
    module _ (V : ℕ → ℕ) (values : (q : ℕ) → q < G.nodes → Value A (V q)) (q : ℕ) (q_in : q < G.nodes) where
      valued : Valued V (G.edges q)
      valued e h = values e.target (f.edges q q_in e h).target

      pub bounds_from : (k : Kind) (d : ℕ) → Toward A (way k) (gather k V (G.edges q)) d → Bounds A (reading_system B c G) k V q d
      bounds_from k d t s h =
          let e = of_edge k V q s h in
          subst (λ x. Toward A (way k) x d) (sym e.2) (toward_trans L (gather_past k V (G.edges q) valued e.0 e.1) t)

      pub bounds_gather : (k : Kind) (d : ℕ) → Value A d → Bounds A (reading_system B c G) k V q d → Toward A (way k) (gather k V (G.edges q)) d
      bounds_gather k d v h = gather_first k V (G.edges q) d v (λ e i. h (contribution k V e) (to_edge k V q e i))

      pub nearest_from : (k : Kind) (d : ℕ) → Toward A (way k) d (gather k V (G.edges q)) → Nearest A (reading_system B c G) k V q d
      nearest_from k d t x v h = toward_trans L t (bounds_gather k x v h)

      pub nearest_gather : (k : Kind) (d : ℕ) → Nearest A (reading_system B c G) k V q d → Toward A (way k) d (gather k V (G.edges q))
      nearest_gather k d h = h (gather k V (G.edges q)) (gather_value k V (G.edges q)) (bounds_from k (gather k V (G.edges q)) (toward_same k))
        where
          toward_same : (k : Kind) → Toward A (way k) (gather k V (G.edges q)) (gather k V (G.edges q))
          toward_same k = toward_refl L (way k) (gather_value k V (G.edges q))

    -- the right side of a node's equation
    abbrev pub right_side : Kind → (ℕ → ℕ) → ℕ → ℕ
    right_side AnyOf V q = gather AnyOf V (G.edges q)
    right_side AllOf V q = gather AllOf V (G.edges q)
    right_side Fixed V q = G.value q

    module _ (V : ℕ → ℕ) (values : (q : ℕ) → q < G.nodes → Value A (V q)) (q : ℕ) (q_in : q < G.nodes) where
      pub above_from : (k : Kind) → Under A (right_side k V q) (V q) → Above A (reading_system B c G) k V q
      above_from AnyOf h = bounds_from V values q q_in AnyOf (V q) (record { ordered = h })
      above_from AllOf h = nearest_from V values q q_in AllOf (V q) (record { ordered = h })
      above_from Fixed h = h

      pub from_above : (k : Kind) → Above A (reading_system B c G) k V q → Under A (right_side k V q) (V q)
      from_above AnyOf h = (bounds_gather V values q q_in AnyOf (V q) (values q q_in) h).ordered
      from_above AllOf h = (nearest_gather V values q q_in AllOf (V q) h).ordered
      from_above Fixed h = h

      pub below_from : (k : Kind) → Under A (V q) (right_side k V q) → Below A (reading_system B c G) k V q
      below_from AnyOf h = nearest_from V values q q_in AnyOf (V q) (record { ordered = h })
      below_from AllOf h = bounds_from V values q q_in AllOf (V q) (record { ordered = h })
      below_from Fixed h = h

      pub from_below : (k : Kind) → Below A (reading_system B c G) k V q → Under A (V q) (right_side k V q)
      from_below AnyOf h = (nearest_gather V values q q_in AnyOf (V q) h).ordered
      from_below AllOf h = (bounds_gather V values q q_in AllOf (V q) (values q q_in) h).ordered
      from_below Fixed h = h
