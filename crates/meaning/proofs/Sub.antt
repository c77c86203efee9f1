-- A system that has some of another's positions, each with the same edges or fixed at the value that it had,
-- has the same solution there.
use Rattle.std.proofs.Common.{◌≡◌, ℕ, ◌≤◌, Bool, true, false, cond, ◌&&◌, eqb, ◌⊎◌, sym, refl, ap, ◌∙◌, subst, inl, ⊎_elim, arith}
use Rattle.std.proofs.lemmas.Bool.{cases_eq, cases_Bool, eq-eqb, ne_eqb}
use Rattle.records.specs.declared.Kind.{Kind}
use Rattle.records.specs.declared.Kind.TheVariants.{AnyOf, AllOf, Fixed}
use Rattle.records.specs.declared.Sign.{Sign}
use Rattle.records.specs.declared.Sign.TheVariants.{Least, Greatest}
use Rattle.scale.specs.Algebra.{Algebra, Laws, Value, Under}
use Rattle.meaning.specs.System.{System, Next, goes, ends, one_sided, share, worth, way, Toward, Bounds, Nearest, Above, Below, Keeps, Rival, Strong}
use Rattle.meaning.proofs.Order.{opposite, turned, turned_back, nearer, nearer_value, nearer_left, nearer_right, nearer_last, share_toward, toward_refl, toward_trans, toward_antisym, toward_eq, under_eq}
use Rattle.meaning.proofs.Transfer.{Closed, next_map, Matched, above, below, keeps}
use Rattle.meaning.proofs.Unique.{kept}

-- the half of an equation that a rival keeps from the side σ, at a value c
abbrev pub KeepsAt : {P : Type 0} → Algebra → System P → Sign → Kind → (P → ℕ) → P → ℕ → Type 0
KeepsAt A S Least AnyOf V p c = Bounds A S AnyOf V p c
KeepsAt A S Least AllOf V p c = Nearest A S AllOf V p c
KeepsAt A S Least Fixed V p c = Under A (S.fixed p) c
KeepsAt A S Greatest AnyOf V p c = Nearest A S AnyOf V p c
KeepsAt A S Greatest AllOf V p c = Bounds A S AllOf V p c
KeepsAt A S Greatest Fixed V p c = Under A c (S.fixed p)

module _ {P : Type 0} {A : Algebra} (L : Laws A) (S : System P) where
  keeps_here : (σ : Sign) (k : Kind) (V : P → ℕ) (p : P) → Keeps A S one_sided σ k V p → KeepsAt A S σ k V p (V p)
  keeps_here Least AnyOf V p h = h
  keeps_here Least AllOf V p h = h
  keeps_here Least Fixed V p h = h
  keeps_here Greatest AnyOf V p h = h
  keeps_here Greatest AllOf V p h = h
  keeps_here Greatest Fixed V p h = h

  here_keeps : (σ : Sign) (k : Kind) (V : P → ℕ) (p : P) → KeepsAt A S σ k V p (V p) → Keeps A S one_sided σ k V p
  here_keeps Least AnyOf V p h = h
  here_keeps Least AllOf V p h = h
  here_keeps Least Fixed V p h = h
  here_keeps Greatest AnyOf V p h = h
  here_keeps Greatest AllOf V p h = h
  here_keeps Greatest Fixed V p h = h

  -- X is before V behind every edge of p
  module _ (σ : Sign) (k : Kind) (X V : P → ℕ) (p : P) (near : (x : ℕ) (n : Next P) → S.offers p x n → Value A x × Toward A σ (worth X n) (worth V n)) where
    nearer_bounds : way k ≡ σ → (c : ℕ) → Bounds A S k V p c → Bounds A S k X p c
    nearer_bounds e c h s m =
        let q = near m.weight m.next m.offered in
        let there = h (share A k m.weight (worth V m.next)) (record { weight = m.weight; next = m.next; offered = m.offered; shared = refl }) in
        let step : Toward A (way k) s (share A k m.weight (worth V m.next)) = rw (m.shared, e) (share_toward L k q.0 q.1) in
        toward_trans L step there

    farther_bounds : way k ≡ opposite σ → (c : ℕ) → Bounds A S k X p c → Bounds A S k V p c
    farther_bounds e c h s m =
        let q = near m.weight m.next m.offered in
        let there = h (share A k m.weight (worth X m.next)) (record { weight = m.weight; next = m.next; offered = m.offered; shared = refl }) in
        let step : Toward A (way k) s (share A k m.weight (worth X m.next)) = rw (m.shared, e) (turned σ (share_toward L k q.0 q.1)) in
        toward_trans L step there

    nearer_nearest : way k ≡ opposite σ → (c : ℕ) → Nearest A S k V p c → Nearest A S k X p c
    nearer_nearest e c h d v b = h d v (farther_bounds e d b)

  keeps_before : (σ : Sign) (k : Kind) (X V : P → ℕ) (p : P) → ((x : ℕ) (n : Next P) → S.offers p x n → Value A x × Toward A σ (worth X n) (worth V n)) → (c : ℕ) → KeepsAt A S σ k V p c → KeepsAt A S σ k X p c
  keeps_before Least AnyOf X V p near c h = nearer_bounds Least AnyOf X V p near refl c h
  keeps_before Least AllOf X V p near c h = nearer_nearest Least AllOf X V p near refl c h
  keeps_before Least Fixed X V p near c h = h
  keeps_before Greatest AnyOf X V p near c h = nearer_nearest Greatest AnyOf X V p near refl c h
  keeps_before Greatest AllOf X V p near c h = nearer_bounds Greatest AllOf X V p near refl c h
  keeps_before Greatest Fixed X V p near c h = h

  -- what two values keep the nearer of them keeps
  both_bounds : (σ : Sign) (k : Kind) (X : P → ℕ) (p : P) (c d : ℕ) → way k ≡ σ → Bounds A S k X p c → Bounds A S k X p d → Bounds A S k X p (nearer L σ c d)
  both_bounds σ k X p c d e a b s m = subst (λ τ. Toward A τ s (nearer L σ c d)) (sym e) (nearer_last L (subst (λ τ. Toward A τ s c) e (a s m)) (subst (λ τ. Toward A τ s d) e (b s m)))

  both_nearest : (σ : Sign) (k : Kind) (X : P → ℕ) (p : P) (c d : ℕ) → way k ≡ opposite σ → Nearest A S k X p c → Nearest A S k X p d → Nearest A S k X p (nearer L σ c d)
  both_nearest σ k X p c d e a b x v h =
      let one : Toward A σ x c = turned_back σ (subst (λ τ. Toward A τ c x) e (a x v h)) in
      let two : Toward A σ x d = turned_back σ (subst (λ τ. Toward A τ d x) e (b x v h)) in
      subst (λ τ. Toward A τ (nearer L σ c d) x) (sym e) (turned σ (nearer_last L one two))

  keeps_both : (σ : Sign) (k : Kind) (X : P → ℕ) (p : P) (c d : ℕ) → KeepsAt A S σ k X p c → KeepsAt A S σ k X p d → KeepsAt A S σ k X p (nearer L σ c d)
  keeps_both Least AnyOf X p c d a b = both_bounds Least AnyOf X p c d refl a b
  keeps_both Least AllOf X p c d a b = both_nearest Least AllOf X p c d refl a b
  keeps_both Least Fixed X p c d a b = (nearer_last L {σ = Least} (record { ordered = a }) (record { ordered = b })).ordered
  keeps_both Greatest AnyOf X p c d a b = both_nearest Greatest AnyOf X p c d refl a b
  keeps_both Greatest AllOf X p c d a b = both_bounds Greatest AllOf X p c d refl a b
  keeps_both Greatest Fixed X p c d a b = (nearer_last L {σ = Greatest} (record { ordered = a }) (record { ordered = b })).ordered

-- what a system offers has values for weights, and leads to no lower block
pub record Sound {P : Type 0} (A : Algebra) (S : System P) : Type 0 where
  pub closed : Closed A S
  pub weights : (p : P) → S.inside p → (x : ℕ) (n : Next P) → S.offers p x n → Value A x
  pub rising : (p : P) → S.inside p → (x : ℕ) (q : P) → S.offers p x (goes q) → S.block p ≤ S.block q

-- T has the positions of S that `hit` has, by other names: f takes them back, g on.
pub record Sub {P Q : Type 0} (A : Algebra) (S : System P) (T : System Q) (V : P → ℕ) : Type 0 where
  pub f : Q → P
  pub g : P → Q
  pub hit : P → Bool
  pub f_inside : (q : Q) → T.inside q → S.inside (f q)
  pub f_hit : (q : Q) → T.inside q → hit (f q) ≡ true
  pub g_f : (q : Q) → T.inside q → g (f q) ≡ q
  pub g_inside : (p : P) → S.inside p → hit p ≡ true → T.inside (g p)
  pub f_g : (p : P) → S.inside p → hit p ≡ true → f (g p) ≡ p
  pub block : (q : Q) → T.block q ≡ S.block (f q)
  pub sign : (b : ℕ) → T.sign b ≡ S.sign b
  -- a position is fixed at its value, or has its kind and edges
  pub at : (q : Q) → T.inside q
      → ((T.kind q ≡ Fixed) × (T.fixed q ≡ V (f q)))
      ⊎ ((T.kind q ≡ S.kind (f q)) × (T.fixed q ≡ S.fixed (f q))
      × ((x : ℕ) (n : Next P) → S.offers (f q) x n → T.offers q x (next_map g n))
      × ((x : ℕ) (p : P) → S.offers (f q) x (goes p) → hit p ≡ true)
      × ((x : ℕ) (n : Next Q) → T.offers q x n → S.offers (f q) x (next_map f n)))

module _ {P Q : Type 0} {A : Algebra} (L : Laws A) (S : System P) (T : System Q) (sound : Sound A S) (closed : Closed A T) (V : P → ℕ) (v : Strong A S V) (a : Sub A S T V) where
  -- the same edges, so the same contributions
  module _ (k : Kind) (q : Q) (j : T.inside q)
      (forth : (x : ℕ) (n : Next P) → S.offers (a.f q) x n → T.offers q x (next_map a.g n))
      (among : (x : ℕ) (p : P) → S.offers (a.f q) x (goes p) → a.hit p ≡ true)
      (back : (x : ℕ) (n : Next Q) → T.offers q x n → S.offers (a.f q) x (next_map a.f n)) where
    behind : (x : ℕ) (n : Next P) → S.offers (a.f q) x n → worth (λ r. V (a.f r)) (next_map a.g n) ≡ worth V n
    behind x (goes p) o = ap V (a.f_g p (sound.closed.stays (a.f q) (a.f_inside q j) x p o) (among x p o))
    behind x (ends c) o = refl

    behind_f : (n : Next Q) → worth V (next_map a.f n) ≡ worth (λ r. V (a.f r)) n
    behind_f (goes r) = refl
    behind_f (ends c) = refl

    solution_matched : T.fixed q ≡ S.fixed (a.f q) → Matched L S T k V (λ r. V (a.f r)) (a.f q) q
    solution_matched fixed = record {
      forth = λ s m. inl (record { weight = m.weight; next = next_map a.g m.next; offered = forth m.weight m.next m.offered; shared = m.shared ∙ ap (share A k m.weight) (sym (behind m.weight m.next m.offered)) });
      back = λ s m. inl (record { weight = m.weight; next = next_map a.f m.next; offered = back m.weight m.next m.offered; shared = m.shared ∙ ap (share A k m.weight) (sym (behind_f m.next)) });
      same = refl;
      fixed = fixed;
      value = v.values (a.f q) (a.f_inside q j);
    }

    module _ (W : Q → ℕ) (values : (r : Q) → T.inside r → Value A (W r)) where
      behind_g : (x : ℕ) (n : Next Q) → T.offers q x n → worth (λ p. W (a.g p)) (next_map a.f n) ≡ worth W n
      behind_g x (goes r) o = ap W (a.g_f r (closed.stays q j x r o))
      behind_g x (ends c) o = refl

      on_g : (n : Next P) → worth W (next_map a.g n) ≡ worth (λ p. W (a.g p)) n
      on_g (goes p) = refl
      on_g (ends c) = refl

      rival_matched : T.fixed q ≡ S.fixed (a.f q) → Matched L T S k W (λ p. W (a.g p)) q (a.f q)
      rival_matched fixed = record {
        forth = λ s m. inl (record { weight = m.weight; next = next_map a.f m.next; offered = back m.weight m.next m.offered; shared = m.shared ∙ ap (share A k m.weight) (sym (behind_g m.weight m.next m.offered)) });
        back = λ s m. inl (record { weight = m.weight; next = next_map a.g m.next; offered = forth m.weight m.next m.offered; shared = m.shared ∙ ap (share A k m.weight) (sym (on_g m.next)) });
        same = ap W (a.g_f q j);
        fixed = sym fixed;
        value = values q j;
      }

  -- A rival W in T, and with it the nearer of V and W as a rival in S.
  module _ (b : ℕ) (W : Q → ℕ) (w : Rival A T one_sided b (λ q. V (a.f q)) W) where
    X : P → ℕ
    X p = cond (a.hit p && eqb (S.block p) b) (nearer L (S.sign b) (V p) (W (a.g p))) (V p)

    x_in : (p : P) → a.hit p ≡ true → S.block p ≡ b → X p ≡ nearer L (S.sign b) (V p) (W (a.g p))
    unfolding X
    x_in p h e = rw (h, eq-eqb (S.block p) b e) refl

    x_low : (p : P) → a.hit p ≡ false → X p ≡ V p
    unfolding X
    x_low p h = rw h refl

    x_high : (p : P) → (S.block p ≡ b → ⊥) → X p ≡ V p
    unfolding X
    x_high p n =
        ⊎_elim
        (λ h. ap (λ t. cond (t && eqb (S.block p) b) (nearer L (S.sign b) (V p) (W (a.g p))) (V p)) h ∙ ap (λ t. cond t (nearer L (S.sign b) (V p) (W (a.g p))) (V p)) (ne_eqb (S.block p) b n))
        (λ h. rw h refl)
        (cases_Bool (a.hit p))

    w_value : (p : P) → S.inside p → a.hit p ≡ true → Value A (W (a.g p))
    w_value p i h = w.values (a.g p) (a.g_inside p i h)

    -- by cases: in the block and hit, or as V has it
    by_cases : (R : ℕ → Type 0) (p : P) → (a.hit p ≡ true → S.block p ≡ b → R (nearer L (S.sign b) (V p) (W (a.g p)))) → R (V p) → R (X p)
    by_cases R p yes_way no_way =
        ⊎_elim
        (λ h. ⊎_elim (λ e. subst R (sym (x_in p h e)) (yes_way h e)) (λ n. subst R (sym (x_high p n)) no_way) (cases_eq (S.block p) b))
        (λ h. subst R (sym (x_low p h)) no_way)
        (cases_Bool (a.hit p))

    x_values : (p : P) → S.inside p → Value A (X p)
    x_values p i = by_cases (Value A) p (λ h e. nearer_value L (S.sign b) (V p) (W (a.g p))) (v.values p i)

    x_before_V : (p : P) → S.inside p → Toward A (S.sign b) (X p) (V p)
    x_before_V p i = by_cases (λ x. Toward A (S.sign b) x (V p)) p (λ h e. nearer_left L (S.sign b) (v.values p i) (w_value p i h)) (toward_refl L (S.sign b) (v.values p i))

    x_before_W : (p : P) → S.inside p → a.hit p ≡ true → b ≤ S.block p → Toward A (S.sign b) (X p) (W (a.g p))
    x_before_W p i h up =
        ⊎_elim
        (λ e. subst (λ x. Toward A (S.sign b) x (W (a.g p))) (sym (x_in p h e)) (nearer_right L (S.sign b) (v.values p i) (w_value p i h)))
        (λ (n : S.block p ≡ b → ⊥).
        let inside = a.g_inside p i h in
        let back = a.f_g p i h in
        let same : W (a.g p) ≡ V p = w.higher (a.g p) inside (rw (a.block (a.g p), back) (omega arith)) ∙ ap V back in
        toward_eq L (S.sign b) (x_values p i) (x_high p n ∙ sym same))
        (cases_eq (S.block p) b)

    -- X is before V behind every edge, and before W behind those that T has
    near_V : (p : P) → S.inside p → (x : ℕ) (n : Next P) → S.offers p x n → Value A x × Toward A (S.sign b) (worth X n) (worth V n)
    near_V p i x (goes r) o = (sound.weights p i x (goes r) o, x_before_V r (sound.closed.stays p i x r o))
    near_V p i x (ends c) o = (sound.weights p i x (ends c) o, toward_refl L (S.sign b) (sound.closed.known p i x c o))

    near_W : (p : P) → S.inside p → S.block p ≡ b → ((x : ℕ) (r : P) → S.offers p x (goes r) → a.hit r ≡ true) → (x : ℕ) (n : Next P) → S.offers p x n → Value A x × Toward A (S.sign b) (worth X n) (worth (λ r. W (a.g r)) n)
    near_W p i e among x (goes r) o = (sound.weights p i x (goes r) o, x_before_W r (sound.closed.stays p i x r o) (among x r o) (omega (arith, sound.rising p i x r o, e)))
    near_W p i e among x (ends c) o = (sound.weights p i x (ends c) o, toward_refl L (S.sign b) (sound.closed.known p i x c o))

    v_keeps : (p : P) → S.inside p → KeepsAt A S (S.sign b) (S.kind p) X p (V p)
    v_keeps p i =
        keeps_before L S (S.sign b) (S.kind p) X V p (near_V p i) (V p)
        (keeps_here L S (S.sign b) (S.kind p) V p (kept L S one_sided (S.sign b) (S.kind p) V p (v.keeps p i)))

    -- at a value equal to X's
    as_X : (p : P) (c : ℕ) → X p ≡ c → KeepsAt A S (S.sign b) (S.kind p) X p c → Keeps A S one_sided (S.sign b) (S.kind p) X p
    as_X p c e h = here_keeps L S (S.sign b) (S.kind p) X p (subst (KeepsAt A S (S.sign b) (S.kind p) X p) (sym e) h)

    fixed_side : (τ : Sign) (q : Q) → Keeps A T one_sided τ Fixed W q → Toward A τ (T.fixed q) (W q)
    fixed_side Least q h = record { ordered = h }
    fixed_side Greatest q h = record { ordered = h }

    at_hit : (q : Q) → T.inside q → S.block (a.f q) ≡ b → Keeps A S one_sided (S.sign b) (S.kind (a.f q)) X (a.f q)
    at_hit q j e =
        let p = a.f q in
        let i = a.f_inside q j in
        let in_T : T.block q ≡ b = a.block q ∙ e in
        let told : Keeps A T one_sided (S.sign b) (T.kind q) W q = subst (λ τ. Keeps A T one_sided τ (T.kind q) W q) (a.sign b) (w.keeps q j in_T) in
        let here : X p ≡ nearer L (S.sign b) (V p) (W q) = x_in p (a.f_hit q j) e ∙ ap (λ r. nearer L (S.sign b) (V p) (W r)) (a.g_f q j) in
        ⊎_elim
        (λ fixed.
        let past : Toward A (S.sign b) (V p) (W q) = subst (λ x. Toward A (S.sign b) x (W q)) fixed.1 (fixed_side (S.sign b) q (subst (λ k. Keeps A T one_sided (S.sign b) k W q) fixed.0 told)) in
        let same : nearer L (S.sign b) (V p) (W q) ≡ V p =
        toward_antisym L (nearer_left L (S.sign b) (v.values p i) (w.values q j)) (nearer_last L (toward_refl L (S.sign b) (v.values p i)) past) in
        as_X p (V p) (here ∙ same) (v_keeps p i))
        (λ r.
        let m = rival_matched (S.kind p) q j r.2 r.3 r.4 W w.values r.1 in
        let moved = keeps L one_sided (S.sign b) (S.kind p) m (subst (λ k. Keeps A T one_sided (S.sign b) k W q) r.0 told) in
        let there = keeps_here L S (S.sign b) (S.kind p) (λ y. W (a.g y)) p moved in
        let there' = subst (KeepsAt A S (S.sign b) (S.kind p) (λ y. W (a.g y)) p) (ap W (a.g_f q j)) there in
        let w_keeps = keeps_before L S (S.sign b) (S.kind p) X (λ y. W (a.g y)) p (near_W p i e r.3) (W q) there' in
        as_X p (nearer L (S.sign b) (V p) (W q)) here (keeps_both L S (S.sign b) (S.kind p) X p (V p) (W q) (v_keeps p i) w_keeps))
        (a.at q j)

    x_rival : Rival A S one_sided b V X
    x_rival = record {
      values = x_values;
      higher = λ p i up. x_high p (λ e. absurd (omega arith));
      keeps = λ p i e.
          ⊎_elim
          (λ h.
          let back = a.f_g p i h in
          subst (λ r. Keeps A S one_sided (S.sign b) (S.kind r) X r) back (at_hit (a.g p) (a.g_inside p i h) (ap S.block back ∙ e)))
          (λ h. as_X p (V p) (x_low p h) (v_keeps p i))
          (cases_Bool (a.hit p));
    }

  pub sub_strong : Strong A T (λ q. V (a.f q))
  sub_strong = record {
    values = λ q j. v.values (a.f q) (a.f_inside q j);
    keeps = λ q j.
        ⊎_elim
        (λ fixed.
        let value = v.values (a.f q) (a.f_inside q j) in
        subst (λ k. Above A T k (λ r. V (a.f r)) q × Below A T k (λ r. V (a.f r)) q) (sym fixed.0) (under_eq L (rw fixed.1 value) fixed.1, under_eq L value (sym fixed.1)))
        (λ r.
        let m = solution_matched (S.kind (a.f q)) q j r.2 r.3 r.4 r.1 in
        let told = v.keeps (a.f q) (a.f_inside q j) in
        subst (λ k. Above A T k (λ r. V (a.f r)) q × Below A T k (λ r. V (a.f r)) q) (sym r.0) (above L (S.kind (a.f q)) m told.0, below L (S.kind (a.f q)) m told.1))
        (a.at q j);
    extreme = λ b W w q j e.
        let p = a.f q in
        let i = a.f_inside q j in
        let in_S : S.block p ≡ b = sym (a.block q) ∙ e in
        let won = v.extreme b (X b W w) (x_rival b W w) p i in_S in
        let past = x_before_W b W w p i (a.f_hit q j) (omega (arith, in_S)) in
        rw (a.sign b) (subst (λ r. Toward A (S.sign b) (V p) (W r)) (a.g_f q j) (toward_trans L won past));
  }
