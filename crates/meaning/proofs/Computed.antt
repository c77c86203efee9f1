-- The value of a small case, computed: its places are taken into the graph, and the run without processes
-- is followed until it is at rest.
use Rattle.std.proofs.Common.{◌≡◌, ℕ, zero, suc, ◌<◌, true, false, ◌&&◌, eqb, refl, ap, ◌∙◌, subst, ⊎_elim, arith}
use Rattle.std.proofs.lemmas.Bool.{cases_Bool, eqb-true, and_parts}
use Rattle.scale.specs.Algebra.{Algebra, Laws}
use Rattle.meaning.specs.Graph.{Graph, Position, WellFormedGraph, Fits, network_system, reading_system}
use Rattle.meaning.specs.Network.{Book, Network, Places, State, Valid, put, start}
use Rattle.meaning.specs.Quotient.{pair, quotient, without}
use Rattle.meaning.specs.System.{exactly, Solution}
use Rattle.meaning.specs.Value.{beginning, HasValue}
use Rattle.meaning.specs.Check.{all}
use Rattle.meaning.proofs.Check.{all_at}
use Rattle.meaning.proofs.Exists.{alone_alike, alone_to, exists, unique}
use Rattle.meaning.proofs.Gather.{reading_closed}
use Rattle.meaning.proofs.Iterate.{run, one_block}
use Rattle.meaning.proofs.Removal.{without_left, without_other, network_closed, removal_alike, alike_to, quotient_fits}
use Rattle.meaning.proofs.Theorems.{removal_keeps}
use Rattle.meaning.proofs.Transfer.{transfer_back}
use Rattle.meaning.proofs.Unique.{weaken}

-- the graph with the processes of the first n places taken in, the last of them first
abbrev pub removed : Algebra → Book → Network → ℕ → Places → Graph → Graph
removed A B N zero left G = G
removed A B N (suc n) left G = removed A B N n (without left n) (quotient A B left n (N n) G)

-- where node q at state g is then
abbrev pub spot : Network → ℕ → ℕ → State → ℕ
spot N zero q g = q
spot N (suc n) q g = spot N n (pair (N n).states q (g n)) (put n 0 g)

-- the places left then
abbrev pub rest_of : ℕ → Places → Places
rest_of zero left = left
rest_of (suc n) left = rest_of n (without left n)

module _ {A : Algebra} (L : Laws A) (B : Book) (N : Network) where
  pub removed_fits : (n : ℕ) (left : Places) (G : Graph) → ((p : ℕ) → p < n → left p ≡ true) → Fits A B N left G → Fits A B N (rest_of n left) (removed A B N n left G)
  removed_fits zero left G on f = f
  removed_fits (suc n) left G on f =
      removed_fits n (without left n) (quotient A B left n (N n) G)
      (λ p lt. without_other left n p (λ e. absurd (omega arith)) ∙ on p (omega arith))
      (quotient_fits L B N left n (on n (omega arith)) G f)

  pub value_removed : (n : ℕ) (left : Places) (G : Graph) (on : (p : ℕ) → p < n → left p ≡ true) → ((p : ℕ) → left p ≡ true → p < n) → (f : Fits A B N left G)
      → (V : Position → ℕ) → Solution A (network_system A B N left G) V
      → (R : ℕ → ℕ) → Solution A (reading_system B A.lowest (removed A B N n left G)) R
      → (p : Position) → (p.node < G.nodes) × Valid N left p.state → V p ≡ R (spot N n p.node p.state)
  value_removed zero left G on few f V v R r p i =
      let nobody : (x : ℕ) → left x ≡ false = λ x. ⊎_elim (λ t. absurd (omega (arith, few x t))) (λ e. e) (cases_Bool (left x)) in
      let a = alone_alike L B N left nobody G f A.lowest in
      unique L B N left G f V (λ q. R (a.to q)) v
      (transfer_back L (network_closed L B N left G f) (reading_closed L A.lowest L.lowest_value B left G f.graph) a exactly R r) p i
      ∙ ap R (alone_to L B N left nobody G f A.lowest p)
  value_removed (suc n) left G on few f V v R r p i =
      let here = on n (omega arith) in
      let Q = quotient A B left n (N n) G in
      let g = quotient_fits L B N left n here G f in
      let W = exists L B N (without left n) Q g in
      let moved = (removal_keeps A L B N left G f n here).1 V W.0 v W.1 p i in
      let inside = subst (λ q. (q.node < Q.nodes) × Valid N (without left n) q.state) (alike_to L B N left n here G f p) ((removal_alike L B N left n here G f).to_inside p i) in
      moved
      ∙ value_removed n (without left n) Q
      (λ x lt. without_other left n x (λ e. absurd (omega arith)) ∙ on x (omega arith))
      (λ x t. let w = without_left left n x t in omega (arith, few x w.0, w.1))
      g W.0 W.1 R r _ inside

  -- where all places are taken in, block 0 is the only one and the run is at rest after k turns, its value is
  -- the formula's
  module _ (left : Places) (G : Graph) (on : (p : ℕ) → p < B.places → left p ≡ true) (f : Fits A B N left G) where
    abbrev pub final : Graph
    final = removed A B N B.places left G

    pub final_formed : WellFormedGraph A B (rest_of B.places left) (removed A B N B.places left G)
    final_formed = (removed_fits B.places left G on f).graph

    abbrev pub after : ℕ → ℕ → ℕ
    after k q = run L A.lowest L.lowest_value B (rest_of B.places left) (removed A B N B.places left G) final_formed 0 (λ _. A.lowest) k q

    pub computed : (k c : ℕ) → all final.nodes (λ q. eqb (final.block q) 0 && eqb (after k q) (after (suc k) q)) ≡ true → G.initial < G.nodes → after k (spot N B.places G.initial (start N left)) ≡ c → HasValue A B N left G c
    computed k c tests initial is = record {
      solved = exists L B N left G f;
      always = λ V v.
          let at : (q : ℕ) → q < final.nodes → (final.block q ≡ 0) × (after k q ≡ after (suc k) q) =
          λ q lt.
          let two = and_parts (eqb (final.block q) 0) (eqb (after k q) (after (suc k) q)) (all_at final.nodes (λ q. eqb (final.block q) 0 && eqb (after k q) (after (suc k) q)) tests q lt) in
          (eqb-true (final.block q) 0 two.0, eqb-true (after k q) (after (suc k) q) two.1) in
          let r = one_block L A.lowest L.lowest_value B (rest_of B.places left) final final_formed k (λ q lt. (at q lt).0) (λ q lt. (at q lt).1) in
          let begins : Valid N left (start N left) = record {
            within = λ p t. rw t (f.processes p t).initial;
            elsewhere = λ p t. rw t refl;
          } in
          value_removed B.places left G on f.graph.places f V v (after k) (weaken L (reading_system B A.lowest final) (after k) r) (beginning N left G) (initial, begins) ∙ is;
    }
