-- A strong solution without processes, found block by block from the highest down: in each block the
-- right sides are put in for the values, from the block's first value on, until nothing changes.
use Rattle.std.proofs.Common.{◌≡◌, ℕ, zero, suc, ◌+◌, ◌-◌, ◌*◌, ◌<◌, ◌≤◌, cond, eqb, ◌⊎◌, List, [], ◌∷◌, length, sym, refl, ap, ◌∙◌, subst, inl, inr, ⊎_elim, suc-mul, arith}
use Rattle.std.proofs.lemmas.Bool.{cases_eq, eq-eqb, ne_eqb}
use Rattle.records.specs.declared.Edge.{Edge}
use Rattle.records.specs.declared.Guard.{Guard}
use Rattle.records.specs.declared.Guard.TheVariants.{Plain, By}
use Rattle.records.specs.declared.Kind.{Kind}
use Rattle.records.specs.declared.Kind.TheVariants.{AnyOf, AllOf, Fixed}
use Rattle.records.specs.declared.Sign.{Sign}
use Rattle.records.specs.declared.Sign.TheVariants.{Least, Greatest}
use Rattle.scale.specs.Algebra.{Algebra, Laws, Value, Under}
use Rattle.meaning.specs.Graph.{Graph, WellFormedGraph, reading_system, sign_at}
use Rattle.meaning.specs.Member.{In}
use Rattle.meaning.specs.Network.{Book, Places}
use Rattle.meaning.specs.System.{one_sided, share, way, Toward, Contributed, Above, Below, Keeps, Rival, Strong}
use Rattle.meaning.proofs.Gather.{behind, contribution, gather, gather_value, right_side, of_edge, to_edge, above_from, from_above, below_from, from_below}
use Rattle.meaning.proofs.Order.{first_of, first_value, first_toward, farther_mono, share_up, toward_trans, toward_eq, under_refl, under_eq}
use Rattle.meaning.proofs.Transfer.{Matched, above, below}

module _ {A : Algebra} (L : Laws A) where
  -- how far a value has come on its way
  abbrev pub come : Sign → ℕ → ℕ
  come Least x = A.rank x
  come Greatest x = A.height - A.rank x

  pub come_within : (σ : Sign) (x : ℕ) → come σ x ≤ A.height
  come_within Least x = L.rank_within x
  come_within Greatest x = omega arith

  pub come_rises : (σ : Sign) (x y : ℕ) → Toward A σ x y → (x ≡ y → ⊥) → come σ x < come σ y
  come_rises Least x y t n = L.rank_rises x y t.ordered n
  come_rises Greatest x y t n = omega (arith, L.rank_rises y x t.ordered (λ e. n (sym e)), L.rank_within x)

  come_keeps : (σ : Sign) (x y : ℕ) → Toward A σ x y → come σ x ≤ come σ y
  come_keeps σ x y t = ⊎_elim (λ e. omega (arith, ap (come σ) e)) (λ n. omega (arith, come_rises σ x y t n)) (cases_eq x y)

  -- how far the first n values have come together
  abbrev pub total : Sign → ℕ → (ℕ → ℕ) → ℕ
  total σ zero V = 0
  total σ (suc n) V = total σ n V + come σ (V n)

  total_within : (σ : Sign) (n : ℕ) (V : ℕ → ℕ) → total σ n V ≤ n * A.height
  total_within σ zero V = omega arith
  total_within σ (suc n) V = omega (arith, total_within σ n V, come_within σ (V n), suc-mul n A.height)

  -- nothing changes, or they come farther
  progress : (σ : Sign) (n : ℕ) (V W : ℕ → ℕ) → ((q : ℕ) → q < n → Toward A σ (V q) (W q)) → (((q : ℕ) → q < n → V q ≡ W q) × (total σ n V ≡ total σ n W)) ⊎ (total σ n V < total σ n W)
  progress σ zero V W t = inl (λ q lt. absurd (omega arith), refl)
  progress σ (suc n) V W t =
      ⊎_elim
      (λ same.
      ⊎_elim
      (λ e. inl (λ q lt. ⊎_elim (λ last. rw last e) (λ n. same.0 q (omega arith)) (cases_eq q n), omega (arith, same.1, ap (come σ) e)))
      (λ ne. inr (omega (arith, same.1, come_rises σ (V n) (W n) (t n (omega arith)) ne)))
      (cases_eq (V n) (W n)))
      (λ more. inr (omega (arith, more, come_keeps σ (V n) (W n) (t n (omega arith)))))
      (progress σ n V W (λ q lt. t q (omega arith)))

module _ {A : Algebra} (L : Laws A) (c : ℕ) (known : Value A c) (B : Book) (left : Places) (G : Graph) (f : WellFormedGraph A B left G) where
  -- the right side of node q's equation
  abbrev pub rhs : (ℕ → ℕ) → ℕ → ℕ
  rhs V q = right_side L c known B left G f (G.kind q) V q

  rhs_value : (V : ℕ → ℕ) (q : ℕ) → q < G.nodes → Value A (rhs V q)
  rhs_value V q q_in = go (G.kind q) refl
    where
      go : (k : Kind) → G.kind q ≡ k → Value A (right_side L c known B left G f k V q)
      go AnyOf is = gather_value L c known AnyOf V (G.edges q)
      go AllOf is = gather_value L c known AllOf V (G.edges q)
      go Fixed is = f.fixed q q_in is

  behind_mono : (V W : ℕ → ℕ) (γ : Guard) (y : ℕ) → Under A (V y) (W y) → Under A (behind c V γ y) (behind c W γ y)
  behind_mono V W Plain y h = h
  behind_mono V W (By r) y h = under_refl L known

  gather_mono : (k : Kind) (V W : ℕ → ℕ) (es : List Edge) → ((e : Edge) → In e es → Value A e.weight) → ((e : Edge) → In e es → Under A (V e.target) (W e.target)) → Under A (gather L c known k V es) (gather L c known k W es)
  gather_mono k V W [] w h = under_refl L (first_value L (way k))
  gather_mono k V W (e ∷ es) w h =
      farther_mono L (way k) (share_up L k (w e (inl refl)) (behind_mono V W e.guard e.target (h e (inl refl))))
      (gather_mono k V W es (λ d i. w d (inr i)) (λ d i. h d (inr i)))

  -- the right side follows the values in the same and higher blocks
  rhs_mono : (V W : ℕ → ℕ) (q : ℕ) → q < G.nodes → ((r : ℕ) → r < G.nodes → G.block q ≤ G.block r → Under A (V r) (W r)) → Under A (rhs V q) (rhs W q)
  rhs_mono V W q q_in h = go (G.kind q) refl
    where
      weights : (e : Edge) → In e (G.edges q) → Value A e.weight
      weights e i = (f.edges q q_in e i).weight

      targets : (e : Edge) → In e (G.edges q) → Under A (V e.target) (W e.target)
      targets e i = h e.target (f.edges q q_in e i).target (f.edges q q_in e i).block

      go : (k : Kind) → G.kind q ≡ k → Under A (right_side L c known B left G f k V q) (right_side L c known B left G f k W q)
      go AnyOf is = gather_mono AnyOf V W (G.edges q) weights targets
      go AllOf is = gather_mono AllOf V W (G.edges q) weights targets
      go Fixed is = under_refl L (f.fixed q q_in is)

  rhs_toward : (σ : Sign) (V W : ℕ → ℕ) (q : ℕ) → q < G.nodes → ((r : ℕ) → r < G.nodes → G.block q ≤ G.block r → Toward A σ (V r) (W r)) → Toward A σ (rhs V q) (rhs W q)
  rhs_toward Least V W q q_in h = record { ordered = rhs_mono V W q q_in (λ r i b. (h r i b).ordered) }
  rhs_toward Greatest V W q q_in h = record { ordered = rhs_mono W V q q_in (λ r i b. (h r i b).ordered) }

  -- x at the nodes of block b, y elsewhere
  abbrev pub in_block : ℕ → ℕ → ℕ → ℕ → ℕ
  in_block b q x y = cond (eqb (G.block q) b) x y

  in_yes : (b q x y : ℕ) → G.block q ≡ b → in_block b q x y ≡ x
  in_yes b q x y e = ap (λ t. cond t x y) (eq-eqb (G.block q) b e)

  in_no : (b q x y : ℕ) → (G.block q ≡ b → ⊥) → in_block b q x y ≡ y
  in_no b q x y n = ap (λ t. cond t x y) (ne_eqb (G.block q) b n)

  -- V with block b at its first value, and with its right sides put in n times
  abbrev pub run : ℕ → (ℕ → ℕ) → ℕ → ℕ → ℕ
  run b V zero q = in_block b q (first_of L (sign_at B b)) (V q)
  run b V (suc n) q = in_block b q (rhs (run b V n) q) (V q)

  module _ (b : ℕ) (V : ℕ → ℕ) (values : (q : ℕ) → q < G.nodes → Value A (V q)) where
    run_other : (n q : ℕ) → (G.block q ≡ b → ⊥) → run b V n q ≡ V q
    run_other zero q ne = in_no b q _ _ ne
    run_other (suc n) q ne = in_no b q _ _ ne

    run_values : (n q : ℕ) → q < G.nodes → Value A (run b V n q)
    run_values n q i =
        ⊎_elim (λ e. inner n e) (λ ne. rw (run_other n q ne) (values q i)) (cases_eq (G.block q) b)
      where
        inner : (n : ℕ) → G.block q ≡ b → Value A (run b V n q)
        inner zero e = rw (in_yes b q (first_of L (sign_at B b)) (V q) e) (first_value L (sign_at B b))
        inner (suc n) e = rw (in_yes b q (rhs (run b V n) q) (V q) e) (rhs_value (run b V n) q i)

    run_toward : (n q : ℕ) → q < G.nodes → Toward A (sign_at B b) (run b V n q) (run b V (suc n) q)
    run_toward zero q i =
        ⊎_elim
        (λ e. subst (λ x. Toward A (sign_at B b) x (run b V 1 q)) (sym (in_yes b q _ _ e)) (first_toward L (sign_at B b) (run_values 1 q i)))
        (λ ne. toward_eq L (sign_at B b) (run_values 0 q i) (run_other 0 q ne ∙ sym (run_other 1 q ne)))
        (cases_eq (G.block q) b)
    run_toward (suc n) q i =
        ⊎_elim
        (λ e. rw (in_yes b q (rhs (run b V n) q) (V q) e, in_yes b q (rhs (run b V (suc n)) q) (V q) e) (rhs_toward (sign_at B b) (run b V n) (run b V (suc n)) q i (λ r j up. run_toward n r j)))
        (λ ne. toward_eq L (sign_at B b) (run_values (suc n) q i) (run_other (suc n) q ne ∙ sym (run_other (suc (suc n)) q ne)))
        (cases_eq (G.block q) b)

    -- nothing changes any more
    Stable : ℕ → Type 0
    Stable n = (q : ℕ) → q < G.nodes → run b V n q ≡ run b V (suc n) q

    come_to_rest : (n : ℕ) → ((k : ℕ) × Stable k) ⊎ (n ≤ total L (sign_at B b) G.nodes (run b V n))
    unfolding Stable
    come_to_rest zero = inr (omega arith)
    come_to_rest (suc n) =
        ⊎_elim inl
        (λ h. ⊎_elim (λ same. inl (n, same.0)) (λ more. inr (omega (arith, more, h))) (progress L (sign_at B b) G.nodes (run b V n) (run b V (suc n)) (run_toward n)))
        (come_to_rest n)

    rest : (k : ℕ) × Stable k
    rest =
        ⊎_elim (λ s. s)
        (λ far. absurd (omega (arith, far, total_within L (sign_at B b) G.nodes (run b V (suc (G.nodes * A.height))))))
        (come_to_rest (suc (G.nodes * A.height)))

    -- every one-sided rival lies past the run
    module _ (W : ℕ → ℕ) (w : Rival A (reading_system B c G) one_sided b V W) where
      past_side : (q : ℕ) (i : q < G.nodes) (σ : Sign) → Keeps A (reading_system B c G) one_sided σ (G.kind q) W q → Toward A σ (rhs W q) (W q)
      past_side q i Least h = record { ordered = from_above L c known B left G f W w.values q i (G.kind q) h }
      past_side q i Greatest h = record { ordered = from_below L c known B left G f W w.values q i (G.kind q) h }

      above_block : (n q : ℕ) → q < G.nodes → b ≤ G.block q → (G.block q ≡ b → ⊥) → Toward A (sign_at B b) (run b V n q) (W q)
      above_block n q i up ne = toward_eq L (sign_at B b) (run_values n q i) (run_other n q ne ∙ sym (w.higher q i (omega arith)))

      run_before : (n q : ℕ) → q < G.nodes → b ≤ G.block q → Toward A (sign_at B b) (run b V n q) (W q)
      run_before zero q i up =
          ⊎_elim
          (λ e. subst (λ x. Toward A (sign_at B b) x (W q)) (sym (in_yes b q _ _ e)) (first_toward L (sign_at B b) (w.values q i)))
          (above_block zero q i up)
          (cases_eq (G.block q) b)
      run_before (suc n) q i up =
          ⊎_elim
          (λ e.
          let moved = rhs_toward (sign_at B b) (run b V n) W q i (λ r j h. run_before n r j (omega (arith, e))) in
          subst (λ x. Toward A (sign_at B b) x (W q)) (sym (in_yes b q _ _ e)) (toward_trans L moved (past_side q i (sign_at B b) (w.keeps q i e))))
          (above_block (suc n) q i up)
          (cases_eq (G.block q) b)

  -- two assignments that agree behind a node's edges
  same_behind : (V W : ℕ → ℕ) (γ : Guard) (y : ℕ) → W y ≡ V y → behind c W γ y ≡ behind c V γ y
  same_behind V W Plain y e = e
  same_behind V W (By r) y e = refl

  matched_here : (k : Kind) (V W : ℕ → ℕ) (q : ℕ) → Value A (V q) → W q ≡ V q → ((e : Edge) → In e (G.edges q) → W e.target ≡ V e.target) → Matched L (reading_system B c G) (reading_system B c G) k V W q q
  matched_here k V W q value here same =
      let agree : (e : Edge) → In e (G.edges q) → contribution L c known k W e ≡ contribution L c known k V e =
      λ e i. ap (share A k e.weight) (same_behind V W e.guard e.target (same e i)) in
      record {
        forth = λ s h.
            let e = of_edge L c known B left G f k V q s h in
            inl (subst (Contributed A (reading_system B c G) k W q) (agree e.0 e.1 ∙ sym e.2) (to_edge L c known B left G f k W q e.0 e.1));
        back = λ s h.
            let e = of_edge L c known B left G f k W q s h in
            inl (subst (Contributed A (reading_system B c G) k V q) (sym (agree e.0 e.1) ∙ sym e.2) (to_edge L c known B left G f k V q e.0 e.1));
        same = here;
        fixed = refl;
        value = value;
      }

  -- V is solved in every block from b on
  record Solved (b : ℕ) (V : ℕ → ℕ) : Type 0 where
    values : (q : ℕ) → q < G.nodes → Value A (V q)
    keeps : (q : ℕ) → q < G.nodes → b ≤ G.block q → Above A (reading_system B c G) (G.kind q) V q × Below A (reading_system B c G) (G.kind q) V q
    extreme : (d : ℕ) → b ≤ d → (W : ℕ → ℕ) → Rival A (reading_system B c G) one_sided d V W → (q : ℕ) → q < G.nodes → G.block q ≡ d → Toward A (sign_at B d) (V q) (W q)

  -- a run that has come to rest solves its block
  block_solved : (b : ℕ) (V : ℕ → ℕ) (v : Solved (suc b) V) (n : ℕ) → Stable b V v.values n → Solved b (run b V n)
  unfolding Stable
  block_solved b V v n at_rest =
      let W : ℕ → ℕ = run b V n in
      let other : (q : ℕ) → (G.block q ≡ b → ⊥) → W q ≡ V q = run_other b V v.values n in
      let w_values : (q : ℕ) → q < G.nodes → Value A (W q) = run_values b V v.values n in
      record {
        values = w_values;
        keeps = λ q i up.
            ⊎_elim
            (λ e.
            let solved : W q ≡ rhs W q = at_rest q i ∙ in_yes b q (rhs W q) (V q) e in
            (above_from L c known B left G f W w_values q i (G.kind q) (under_eq L (rhs_value W q i) (sym solved)), below_from L c known B left G f W w_values q i (G.kind q) (under_eq L (w_values q i) solved)))
            (λ ne.
            let m = matched_here (G.kind q) V W q (v.values q i) (other q ne) (λ e j. other e.target (λ at. absurd (omega (arith, (f.edges q i e j).block)))) in
            let told = v.keeps q i (omega arith) in
            (above L (G.kind q) m told.0, below L (G.kind q) m told.1))
            (cases_eq (G.block q) b);
        extreme = λ d up U u q i e.
            ⊎_elim
            (λ at.
            let u' : Rival A (reading_system B c G) one_sided b V U = record {
              values = u.values;
              higher = λ p j more. u.higher p j (rw at more) ∙ other p (λ same. absurd (omega arith));
              keeps = λ p j same. rw at at (u.keeps p j (same ∙ sym at));
            } in
            rw at (run_before b V v.values U u' n q i (omega arith)))
            (λ ne.
            let u' : Rival A (reading_system B c G) one_sided d V U = record {
              values = u.values;
              higher = λ p j more. u.higher p j more ∙ other p (λ same. absurd (omega arith));
              keeps = u.keeps;
            } in
            rw (other q (λ same. ne (sym e ∙ same))) (v.extreme d (omega arith) U u' q i e))
            (cases_eq d b);
      }

  next_block : (b : ℕ) (V : ℕ → ℕ) → Solved (suc b) V → (W : ℕ → ℕ) × Solved b W
  next_block b V v = let r = rest b V v.values in (run b V r.0, block_solved b V v r.0 r.1)

  all_blocks : (b : ℕ) (V : ℕ → ℕ) → Solved b V → (W : ℕ → ℕ) × Solved 0 W
  all_blocks zero V v = (V, v)
  all_blocks (suc b) V v = let n = next_block b V v in all_blocks b n.0 n.1

  whole : (V : ℕ → ℕ) → Solved 0 V → Strong A (reading_system B c G) V
  whole V s = record { values = s.values; keeps = λ q i. s.keeps q i (omega arith); extreme = λ b W w q i e. s.extreme b (omega arith) W w q i e }

  -- where block 0 is the only one, a run at rest is the solution
  pub one_block : (n : ℕ) → ((q : ℕ) → q < G.nodes → G.block q ≡ 0) → ((q : ℕ) → q < G.nodes → run 0 (λ _. A.lowest) n q ≡ run 0 (λ _. A.lowest) (suc n) q) → Strong A (reading_system B c G) (run 0 (λ _. A.lowest) n)
  unfolding Stable
  one_block n only at_rest =
      let start : Solved 1 (λ _. A.lowest) = record {
        values = λ q i. L.lowest_value;
        keeps = λ q i up. absurd (omega (arith, only q i));
        extreme = λ d up W w q i e. absurd (omega (arith, only q i));
      } in
      whole (run 0 (λ _. A.lowest) n) (block_solved 0 (λ _. A.lowest) start n at_rest)

  -- without processes there is a strong solution
  pub reading_solved : (V : ℕ → ℕ) × Strong A (reading_system B c G) V
  reading_solved =
      let start : Solved (length B.signs) (λ _. A.lowest) = record {
        values = λ q i. L.lowest_value;
        keeps = λ q i up. absurd (omega (arith, f.blocks q i));
        extreme = λ d up W w q i e. absurd (omega (arith, f.blocks q i));
      } in
      let s = all_blocks (length B.signs) (λ _. A.lowest) start in
      (s.0, whole s.0 s.1)
