-- Folding keeps the value at every node and global state.
use Rattle.std.proofs.Common.{◌≡◌, ℕ, ◌<◌, Bool, true, false, cond, eqb, List, [], sym, refl, subst, inl, inr, ⊎_elim}
use Rattle.std.proofs.lemmas.Bool.{cases_Bool, eqb-true}
use Rattle.records.specs.declared.Edge.{Edge}
use Rattle.records.specs.declared.Guard.{Guard}
use Rattle.records.specs.declared.Guard.TheVariants.{Plain, By}
use Rattle.scale.specs.Algebra.{Algebra, Laws, Value, Under}
use Rattle.meaning.specs.Fold.{fold_graph}
use Rattle.meaning.specs.Graph.{Graph, Position, Moves, Fits, offers_on, network_system, reading_system}
use Rattle.meaning.specs.Member.{In}
use Rattle.meaning.specs.Network.{Book, Network, Places, State, Valid}
use Rattle.meaning.specs.System.{Next, goes, ends, Solution}
use Rattle.meaning.proofs.Exists.{strong}
use Rattle.meaning.proofs.Order.{under_antisym}
use Rattle.meaning.proofs.Removal.{network_closed}
use Rattle.meaning.proofs.Sub.{Sound, Sub, sub_strong}
use Rattle.meaning.proofs.Theorems.{readings_bound}
use Rattle.meaning.proofs.Transfer.{next_map}
use Rattle.meaning.proofs.Unique.{weaken}

module _ {A : Algebra} (L : Laws A) (B : Book) (N : Network) (left : Places) where
  moves_weight : (G : Graph) → Fits A B N left G → (p : Position) → (p.node < G.nodes) × Valid N left p.state → (x : ℕ) (n : Next Position) → offers_on A B N left G p x n → Value A x
  moves_weight G f p i x (goes q) o = go o.0.guard o.0.weight x p.state q.state (f.graph.edges p.node i.0 o.0 o.1).weight o.3
    where
      go : (γ : Guard) (w x : ℕ) (g h : State) → Value A w → Moves A B N left γ w g x h → Value A x
      go Plain w x g h v m = rw m.0 v
      go (By r) w x g h v m = rw m.2 (L.meet_value w m.0)
  moves_weight G f p i x (ends v) o = absurd o

  pub network_sound : (G : Graph) → Fits A B N left G → Sound A (network_system A B N left G)
  network_sound G f = record {
    closed = network_closed L B N left G f;
    weights = moves_weight G f;
    rising = λ p i x q o. rw o.2 (f.graph.edges p.node i.0 o.0 o.1).block;
  }

  module _ (G : Graph) (f : Fits A B N left G) (R Q : ℕ → ℕ) (r : Solution A (reading_system B A.lowest G) R) (q : Solution A (reading_system B A.highest G) Q) where
    -- an edge that is left is an edge
    left_edge : (b : Bool) (es : List Edge) (e : Edge) → In e (cond b [] es) → In e es
    left_edge true es e h = absurd h
    left_edge false es e h = h

    pub fold_fits : Fits A B N left (fold_graph R Q G)
    fold_fits = record {
      processes = f.processes;
      graph = record {
        places = f.graph.places;
        blocks = f.graph.blocks;
        fixed = λ n lt.
            ⊎_elim
            (λ same. rw same (λ _. r.values n lt))
            (λ apart. rw apart (f.graph.fixed n lt))
            (cases_Bool (eqb (R n) (Q n)));
        edges = λ n lt e h. let told = f.graph.edges n lt e (left_edge (eqb (R n) (Q n)) (G.edges n) e h) in record { weight = told.weight; target = told.target; block = told.block; guard = told.guard };
      };
    }

    module _ (V : Position → ℕ) (v : Solution A (network_system A B N left G) V) where
      -- where the readings agree, every global state has their value
      decided : (p : Position) → (p.node < G.nodes) × Valid N left p.state → eqb (R p.node) (Q p.node) ≡ true → R p.node ≡ V p
      decided p i same =
          let b = readings_bound A L B N left G f V v R Q r q p i in
          under_antisym L b.0 (subst (Under A (V p)) (sym (eqb-true (R p.node) (Q p.node) same)) b.1)

      next_same : (n : Next Position) → next_map (λ p. p) n ≡ n
      next_same (goes p) = refl
      next_same (ends c) = refl

      offers_same : (p : Position) (x : ℕ) (n : Next Position) → eqb (R p.node) (Q p.node) ≡ false → offers_on A B N left (fold_graph R Q G) p x n ≡ offers_on A B N left G p x n
      offers_same p x (goes y) apart = rw apart refl
      offers_same p x (ends c) apart = refl

      fold_sub : Sub A (network_system A B N left G) (network_system A B N left (fold_graph R Q G)) V
      fold_sub = record {
        f = λ p. p;
        g = λ p. p;
        hit = λ p. true;
        f_inside = λ p i. i;
        f_hit = λ p i. refl;
        g_f = λ p i. refl;
        g_inside = λ p i h. i;
        f_g = λ p i h. refl;
        block = λ p. refl;
        sign = λ b. refl;
        at = λ p i.
            ⊎_elim
            (λ same. inl (rw same refl, rw same (decided p i same)))
            (λ apart. inr (rw apart refl, rw apart refl, (λ x n o. rw (offers_same p x (next_map (λ y. y) n) apart, next_same n) o), (λ x y o. refl), (λ x n o. rw (next_same n) (rw (offers_same p x n apart) at o))))
            (cases_Bool (eqb (R p.node) (Q p.node)));
      }

      pub fold_solution : Solution A (network_system A B N left (fold_graph R Q G)) V
      unfolding fold_sub
      fold_solution =
          weaken L (network_system A B N left (fold_graph R Q G)) V
          (sub_strong L (network_system A B N left G) (network_system A B N left (fold_graph R Q G)) (network_sound G f) (network_closed L B N left (fold_graph R Q G) fold_fits) V (strong L B N left G f V v) fold_sub)
