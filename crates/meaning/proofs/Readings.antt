-- The two readings without processes bound the value on every network, at every global state.
use Rattle.std.proofs.Common.{◌≡◌, ℕ, ◌<◌, ◌⊎◌, length, sym, refl, ap, ◌∙◌, subst, inl, inr}
use Rattle.records.specs.declared.Edge.{Edge}
use Rattle.records.specs.declared.Guard.{Guard}
use Rattle.records.specs.declared.Guard.TheVariants.{Plain, By}
use Rattle.records.specs.declared.Kind.{Kind}
use Rattle.records.specs.declared.Kind.TheVariants.{AnyOf, AllOf, Fixed}
use Rattle.records.specs.declared.Sign.{Sign}
use Rattle.records.specs.declared.Sign.TheVariants.{Least, Greatest}
use Rattle.scale.specs.Algebra.{Algebra, Laws, Value}
use Rattle.meaning.specs.Graph.{Graph, Position, Fits, Moves, offers_on, reads, network_system, reading_system, sign_at}
use Rattle.meaning.specs.Member.{In}
use Rattle.meaning.specs.Network.{Book, Network, Places, State, Valid, counts}
use Rattle.meaning.specs.System.{System, Next, goes, ends, one_sided, share, worth, way, Toward, Contributed, Rival, Solution, Strong}
use Rattle.meaning.proofs.Compare.{Adjoint, Related, Before, Comparable, compare}
use Rattle.meaning.proofs.Exists.{strong}
use Rattle.meaning.proofs.Iterate.{reading_solved}
use Rattle.meaning.proofs.Order.{opposite, least_greatest, first_of, first_value, first_toward, share_value, share_toward, toward_refl, toward_to, under_meet, meet_left, meet_mono, join_mono, lowest_under, under_highest, under_antisym, complement_turns, join_right}
use Rattle.meaning.proofs.Removal.{network_closed}
use Rattle.meaning.proofs.Transfer.{Matched, flip, above, below, keeps}
use Rattle.meaning.proofs.Unique.{strong_solution}
use Rattle.meaning.proofs.Ways.{meet_over_value}

-- the reading at every global state at once: a plain edge leaves the state alone
abbrev lifted_offers : ℕ → Graph → Position → ℕ → Next Position → Type 0
lifted_offers c G p x (goes q) = (e : Edge) × In e (G.edges p.node) × (x ≡ e.weight) × reads e.guard e.target c (goes q.node) × (q.state ≡ p.state)
lifted_offers c G p x (ends v) = (e : Edge) × In e (G.edges p.node) × (x ≡ e.weight) × reads e.guard e.target c (ends v)

abbrev lifted : Book → ℕ → Network → Places → Graph → System Position
lifted B c N left G = record {
  inside = λ p. (p.node < G.nodes) × Valid N left p.state;
  kind = λ p. G.kind p.node;
  block = λ p. G.block p.node;
  fixed = λ p. G.value p.node;
  offers = lifted_offers c G;
  sign = sign_at B;
}

abbrev at : State → ℕ → Position
at g q = record { node = q; state = g }

module _ {A : Algebra} (L : Laws A) (B : Book) (c : ℕ) (N : Network) (left : Places) (G : Graph) where
  -- the contributions at node q are those at every global state
  matched : (k : Kind) (g : State) (q : ℕ) (W : Position → ℕ) → Value A (W (at g q)) → Matched L (reading_system B c G) (lifted B c N left G) k (λ r. W (at g r)) W q (at g q)
  matched k g q W value = record {
    forth = λ s m. inl (forth s m.weight m.next m.offered m.shared);
    back = λ s m. inl (back s m.weight m.next m.offered m.shared);
    same = refl;
    fixed = refl;
    value = value;
  }
    where
      forth : (s x : ℕ) (n : Next ℕ) → (reading_system B c G).offers q x n → s ≡ share A k x (worth (λ r. W (at g r)) n) → Contributed A (lifted B c N left G) k W (at g q) s
      forth s x (goes r) o e = record { weight = x; next = goes (at g r); offered = (o.0, o.1, o.2, o.3, refl); shared = e }
      forth s x (ends v) o e = record { weight = x; next = ends v; offered = o; shared = e }

      back : (s x : ℕ) (n : Next Position) → lifted_offers c G (at g q) x n → s ≡ share A k x (worth W n) → Contributed A (reading_system B c G) k (λ r. W (at g r)) q s
      back s x (goes r) o e =
          let same : W r ≡ W (at g r.node) = ap W (λ i. record { node = r.node; state = o.4 i }) in
          record { weight = x; next = goes r.node; offered = (o.0, o.1, o.2, o.3); shared = e ∙ ap (share A k x) same }
      back s x (ends v) o e = record { weight = x; next = ends v; offered = o; shared = e }

  pub lifted_strong : (R : ℕ → ℕ) → Strong A (reading_system B c G) R → Strong A (lifted B c N left G) (λ p. R p.node)
  lifted_strong R r = record {
    values = λ p i. r.values p.node i.0;
    keeps = λ p i.
        let m = matched (G.kind p.node) p.state p.node (λ q. R q.node) (r.values p.node i.0) in
        let told = r.keeps p.node i.0 in
        (above L (G.kind p.node) m told.0, below L (G.kind p.node) m told.1);
    extreme = λ b W w p i e.
        let g = p.state in
        let rival : Rival A (reading_system B c G) one_sided b R (λ q. W (at g q)) = record {
          values = λ q j. w.values (at g q) (j, i.1);
          higher = λ q j up. w.higher (at g q) (j, i.1) up;
          keeps = λ q j f. keeps L one_sided (sign_at B b) (G.kind q) (flip L (matched (G.kind q) g q W (w.values (at g q) (j, i.1)))) (w.keeps (at g q) (j, i.1) f);
        } in
        r.extreme b (λ q. W (at g q)) rival p.node i.0 e;
  }

module _ {A : Algebra} (L : Laws A) where
  abbrev pub identity : (τ : Sign) → Adjoint A A τ
  identity τ = record { f = λ x. x; g = λ x. x; f_value = λ x v. v; g_value = λ x v. v; up = λ x y v w t. t; down = λ x y v w t. t }

  -- a guarded edge read at the end before all values contributes nothing on its kind's own way
  share_first : (τ : Sign) (k : Kind) (x : ℕ) → way k ≡ τ → Value A x → share A k x (first_of L τ) ≡ first_of L τ
  share_first τ k x e v = subst (λ σ. share A k x (first_of L σ) ≡ first_of L σ) e (go k)
    where
      go : (k : Kind) → share A k x (first_of L (way k)) ≡ first_of L (way k)
      go AnyOf = L.meet_comm x A.lowest ∙ under_meet L (lowest_under L v)
      go AllOf = under_antisym L (under_highest L (L.join_value (A.complement x) A.highest)) (join_right L (L.complement_value x) L.highest_value)
      go Fixed = L.meet_comm x A.lowest ∙ under_meet L (lowest_under L v)

  -- and on the other way it is before whatever the edge can lead to
  share_last : (τ : Sign) (k : Kind) (w u v : ℕ) → way k ≡ opposite τ → Value A w → Value A u → Value A v → Toward A τ (share A k w (first_of L τ)) (share A k (A.meet w u) v)
  share_last Least AnyOf w u v e a b c = absurd (least_greatest e)
  share_last Least AllOf w u v e a b c = record { ordered = join_mono L (complement_turns L (meet_left L a b)) (lowest_under L c) }
  share_last Least Fixed w u v e a b c = absurd (least_greatest e)
  share_last Greatest AnyOf w u v e a b c = record { ordered = meet_mono L (meet_left L a b) (under_highest L c) }
  share_last Greatest AllOf w u v e a b c = absurd (least_greatest (sym e))
  share_last Greatest Fixed w u v e a b c = record { ordered = meet_mono L (meet_left L a b) (under_highest L c) }

module _ {A : Algebra} (L : Laws A) (B : Book) (N : Network) (left : Places) (G : Graph) (f : Fits A B N left G) (τ : Sign) where
  module _ (k : Kind) (p : Position) (i : (p.node < G.nodes) × Valid N left p.state) where
    abbrev RelatedHere : (Position → ℕ) → (Position → ℕ) → Type 0
    RelatedHere U W = Related L L τ (identity L τ) (lifted B (first_of L τ) N left G) (network_system A B N left G) p U W

    abbrev BeforeHere : ℕ → Next Position → ℕ → Next Position → Type 0
    BeforeHere x n y o = Before L L τ (identity L τ) (lifted B (first_of L τ) N left G) (network_system A B N left G) k p x n y o

    -- a plain edge is read as it is
    plain_before : (e : Edge) (q : Position) → In e (G.edges p.node) → q.node ≡ e.target → q.state ≡ p.state → (x : ℕ) → x ≡ e.weight → BeforeHere x (goes q) x (goes q)
    plain_before e q h tgt st x is U W rel =
        let fit = f.graph.edges p.node i.0 e h in
        let inside : (q.node < G.nodes) × Valid N left q.state = (rw tgt fit.target, rw st i.1) in
        let r = rel q inside (rw tgt fit.block) in
        (share_value L k x r.0, share_toward L k (rw is fit.weight) r.1)

    plain_offer : (γ : Guard) (e : Edge) (q : Position) (x : ℕ) → e.guard ≡ γ → reads γ e.target (first_of L τ) (goes q.node) → In e (G.edges p.node) → x ≡ e.weight → q.state ≡ p.state → (q.node ≡ e.target) × Moves A B N left e.guard e.weight p.state x q.state
    plain_offer Plain e q x g rd h is st = (rd, subst (λ γ. Moves A B N left γ e.weight p.state x q.state) (sym g) (is, st))
    plain_offer (By r) e q x g rd h is st = absurd rd

    ends_first : (γ : Guard) (y v : ℕ) → reads γ y (first_of L τ) (ends v) → v ≡ first_of L τ
    ends_first Plain y v rd = absurd rd
    ends_first (By r) y v rd = rd

    along : way k ≡ τ → (x : ℕ) (n : Next Position) → lifted_offers (first_of L τ) G p x n
        → ((y : ℕ) × (o : Next Position) × offers_on A B N left G p y o × BeforeHere x n y o)
        ⊎ ((U W : Position → ℕ) → RelatedHere U W → Value A (share A k x (worth U n)) × ((d : ℕ) → Value A d → Toward A τ (share A k x (worth U n)) d))
    along e x (goes q) o =
        let m = plain_offer o.0.guard o.0 q x refl o.3 o.1 o.2 o.4 in
        inl (x, goes q, (o.0, o.1, m.0, m.1), plain_before o.0 q o.1 m.0 o.4 x o.2)
    along e x (ends v) o =
        let first = ends_first o.0.guard o.0.target v o.3 in
        let weight : Value A x = rw o.2 (f.graph.edges p.node i.0 o.0 o.1).weight in
        let is : share A k x v ≡ first_of L τ = ap (share A k x) first ∙ share_first L τ k x e weight in
        inr (λ U W rel. (rw is (first_value L τ), λ d h. rw is (first_toward L τ h)))

    -- an edge of the network is past the reading's edge that it comes from
    against_edge : way k ≡ opposite τ → (γ : Guard) (e : Edge) (q : Position) (y : ℕ) → e.guard ≡ γ → In e (G.edges p.node) → q.node ≡ e.target → Moves A B N left γ e.weight p.state y q.state → (x : ℕ) × (n : Next Position) × lifted_offers (first_of L τ) G p x n × BeforeHere x n y (goes q)
    against_edge w Plain e q y g h tgt m =
        (y, goes q, (e, h, m.0, subst (λ γ. reads γ e.target (first_of L τ) (goes q.node)) (sym g) tgt, m.1), plain_before e q h tgt m.1 y m.0)
    against_edge w (By r) e q y g h tgt m =
        let fit = f.graph.edges p.node i.0 e h in
        let u_value : Value A m.0 = rw m.1.weighs (meet_over_value L 8 (counts B left r) (λ z. (m.1.taken z).weight)) in (
          e.weight,
          ends (first_of L τ),
          (e, h, refl, subst (λ γ. reads γ e.target (first_of L τ) (ends (first_of L τ))) (sym g) refl),
          λ U W rel.
              let inside = (network_closed L B N left G f).stays p i y q (e, h, tgt, subst (λ γ. Moves A B N left γ e.weight p.state y q.state) (sym g) m) in
              let r = rel q inside (rw tgt fit.block) in
              (share_value L k e.weight (first_value L τ), rw m.2 (share_last L τ k e.weight m.0 (W q) w fit.weight u_value (toward_to L r.1))),
        )

    against : way k ≡ opposite τ → (y : ℕ) (o : Next Position) → offers_on A B N left G p y o → (x : ℕ) × (n : Next Position) × lifted_offers (first_of L τ) G p x n × BeforeHere x n y o
    against w y (goes q) o = against_edge w o.0.guard o.0 q y refl o.1 o.2 o.3
    against w y (ends v) o = absurd o

  comparable : Comparable L L τ (identity L τ) (lifted B (first_of L τ) N left G) (network_system A B N left G)
  comparable = record {
    inside = λ p i. i;
    inside_back = λ p i. i;
    kind = λ p. refl;
    block = λ p. refl;
    sign = λ b. refl;
    at = λ p i. record {
      along = along (G.kind p.node) p i;
      against = against (G.kind p.node) p i;
      fixed = λ e. (f.graph.fixed p.node i.0 e, toward_refl L τ (f.graph.fixed p.node i.0 e));
    };
  }

  -- the value is past the reading, on its way
  pub reading_bounds : (R : ℕ → ℕ) → Solution A (reading_system B (first_of L τ) G) R → (V : Position → ℕ) → Solution A (network_system A B N left G) V → (p : Position) → (p.node < G.nodes) × Valid N left p.state → Toward A τ (R p.node) (V p)
  reading_bounds R r V v p i =
      let s = reading_solved L (first_of L τ) (first_value L τ) B left G f.graph in
      let r_strong = strong_solution L (reading_system B (first_of L τ) G) (length B.signs) f.graph.blocks s.0 R s.1 r in
      compare L L (lifted B (first_of L τ) N left G) (network_system A B N left G) τ (identity L τ) comparable (length B.signs) (λ q j. f.graph.blocks q.node j.0)
      (λ q. R q.node) V (lifted_strong L B (first_of L τ) N left G R r_strong) (strong L B N left G f V v) p i
