-- Every graph that fits a network has a strong solution there: its places are taken into it one after the
-- other, and what is left without processes is solved.
use Rattle.std.proofs.Common.{◌≡◌, ℕ, zero, suc, ◌<◌, true, false, ◌⊎◌, length, sym, refl, ap, ◌∙◌, subst, inl, ⊎_elim, arith}
use mathlib.Core.Path.{fun_ext}
use Rattle.std.proofs.lemmas.Bool.{cases_Bool, true≢false, and_parts}
use Rattle.records.specs.Codes.{takes_part}
use Rattle.records.specs.declared.Guard.{Guard}
use Rattle.records.specs.declared.Guard.TheVariants.{Plain, By}
use Rattle.scale.specs.Algebra.{Algebra, Laws}
use Rattle.meaning.specs.Graph.{Graph, Position, Fits, Guards, Moves, offers_on, reads, network_system, reading_system}
use Rattle.meaning.specs.Network.{Book, Network, Places, State, Valid, rule_of}
use Rattle.meaning.specs.Quotient.{without, quotient}
use Rattle.meaning.specs.System.{Next, goes, ends, exactly, one_sided, Solution, Strong}
use Rattle.meaning.proofs.Gather.{reading_closed}
use Rattle.meaning.proofs.Iterate.{reading_solved}
use Rattle.meaning.proofs.Removal.{without_left, network_closed, removal_alike, quotient_fits}
use Rattle.meaning.proofs.Transfer.{Alike, next_map, transfer_back}
use Rattle.meaning.proofs.Unique.{agree, weaken, strong_solution}

module _ {A : Algebra} (L : Laws A) (B : Book) (N : Network) where
  -- with no place left, a graph on the network is the graph without processes, whatever a guard would end at
  module _ (left : Places) (nobody : (p : ℕ) → left p ≡ false) (G : Graph) (f : Fits A B N left G) (c : ℕ) where
    no_guard : (r : ℕ) → Guards B left (By r) → ⊥
    no_guard r h = true≢false (sym (and_parts (left h.0) (takes_part (rule_of B r) h.0) h.1).0 ∙ nobody h.0)

    still : (g : State) → Valid N left g → g ≡ (λ _. 0)
    still g v = fun_ext λ p. v.elsewhere p (nobody p)

    step_on : (γ : Guard) (w y x : ℕ) (g h : State) → Guards B left γ → Moves A B N left γ w g x h → (x ≡ w) × reads γ y c (goes y) × (h ≡ g)
    step_on Plain w y x g h s m = (m.0, refl, m.1)
    step_on (By r) w y x g h s m = absurd (no_guard r s)

    step_back : (γ : Guard) (w y x q : ℕ) (g : State) → Guards B left γ → x ≡ w → reads γ y c (goes q) → Moves A B N left γ w g x g × (q ≡ y)
    step_back Plain w y x q g s e m = ((e, refl), m)
    step_back (By r) w y x q g s e m = absurd (no_guard r s)

    step_ends : (γ : Guard) (y v : ℕ) → Guards B left γ → reads γ y c (ends v) → ⊥
    step_ends Plain y v s m = m
    step_ends (By r) y v s m = no_guard r s

    forth : (p : Position) → (p.node < G.nodes) × Valid N left p.state → (x : ℕ) (n : Next Position) → offers_on A B N left G p x n → (reading_system B c G).offers p.node x (next_map (λ q. q.node) n) ⊎ (x ≡ A.lowest)
    forth p i x (goes q) o =
        let e = o.0 in
        let s = step_on e.guard e.weight e.target x p.state q.state (f.graph.edges p.node i.0 e o.1).guard o.3 in
        inl (e, o.1, s.0, subst (λ y. reads e.guard e.target c (goes y)) (sym o.2) s.1)
    forth p i x (ends v) o = absurd o

    back : (p : Position) → (p.node < G.nodes) × Valid N left p.state → (x : ℕ) (n : Next ℕ) → (reading_system B c G).offers p.node x n → ((o : Next Position) × offers_on A B N left G p x o × (next_map (λ q. q.node) o ≡ n)) ⊎ (x ≡ A.lowest)
    back p i x (goes y) o =
        let e = o.0 in
        let s = step_back e.guard e.weight e.target x y p.state (f.graph.edges p.node i.0 e o.1).guard o.2 o.3 in
        let on : Position = record { node = y; state = p.state } in
        inl (goes on, (e, o.1, s.1, s.0), refl)
    back p i x (ends v) o = absurd (step_ends o.0.guard o.0.target v (f.graph.edges p.node i.0 o.0 o.1).guard o.3)

    pub alone_alike : Alike A (network_system A B N left G) (reading_system B c G)
    alone_alike = record {
      to = λ p. p.node;
      from = λ q. record { node = q; state = λ _. 0 };
      to_inside = λ p i. i.0;
      from_inside = λ q i. (i, record { within = λ p t. absurd (true≢false (sym t ∙ nobody p)); elsewhere = λ p t. refl });
      from_to = λ p i. let e = sym (still p.state i.1) in (λ j. record { node = p.node; state = e j });
      to_from = λ q i. refl;
      kind = λ p i. refl;
      block = λ p i. refl;
      fixed = λ p i. refl;
      sign = λ b. refl;
      forth = forth;
      back = back;
    }

    pub alone_to : (p : Position) → alone_alike.to p ≡ p.node
    unfolding alone_alike
    alone_to p = refl

  -- place after place
  pub network_strong : (n : ℕ) (left : Places) (G : Graph) → ((p : ℕ) → left p ≡ true → p < n) → Fits A B N left G → (V : Position → ℕ) × Strong A (network_system A B N left G) V
  network_strong zero left G few f =
      let nobody : (p : ℕ) → left p ≡ false = λ p. ⊎_elim (λ t. absurd (omega (arith, few p t))) (λ e. e) (cases_Bool (left p)) in
      let r = reading_solved L A.lowest L.lowest_value B left G f.graph in
      (_, transfer_back L (network_closed L B N left G f) (reading_closed L A.lowest L.lowest_value B left G f.graph) (alone_alike left nobody G f A.lowest) one_sided r.0 r.1)
  network_strong (suc n) left G few f =
      ⊎_elim
      (λ here.
      let Q = quotient A B left n (N n) G in
      let g : Fits A B N (without left n) Q = quotient_fits L B N left n here G f in
      let below : (p : ℕ) → without left n p ≡ true → p < n = λ p t. let w = without_left left n p t in (omega (arith, few p w.0, w.1)) in
      let r = network_strong n (without left n) Q below g in
      (_, transfer_back L (network_closed L B N left G f) (network_closed L B N (without left n) Q g) (removal_alike L B N left n here G f) one_sided r.0 r.1))
      (λ gone. network_strong n left G (λ p t. let apart : p ≡ n → ⊥ = λ e. true≢false (sym t ∙ ap left e ∙ gone) in omega (arith, few p t)) f)
      (cases_Bool (left n))

  module _ (left : Places) (G : Graph) (f : Fits A B N left G) where
    strong_exists : (V : Position → ℕ) × Strong A (network_system A B N left G) V
    strong_exists = network_strong B.places left G f.graph.places f

    pub exists : (V : Position → ℕ) × Solution A (network_system A B N left G) V
    exists = (strong_exists.0, weaken L (network_system A B N left G) strong_exists.0 strong_exists.1)

    low : (p : Position) → (p.node < G.nodes) × Valid N left p.state → G.block p.node < length B.signs
    low p i = f.graph.blocks p.node i.0

    pub unique : (V W : Position → ℕ) → Solution A (network_system A B N left G) V → Solution A (network_system A B N left G) W → (p : Position) → (p.node < G.nodes) × Valid N left p.state → V p ≡ W p
    unique V W v w = agree L (network_system A B N left G) (length B.signs) low exactly exactly V W v w

    pub strong : (V : Position → ℕ) → Solution A (network_system A B N left G) V → Strong A (network_system A B N left G) V
    strong V v = strong_solution L (network_system A B N left G) (length B.signs) low strong_exists.0 V strong_exists.1 v
