-- Two systems compared through a map of values that has an adjoint: if everything that the first makes of
-- an assignment is before what the second makes of its image, then so are their solutions.
use Rattle.std.proofs.Common.{◌≡◌, ℕ, zero, suc, ◌+◌, ◌<◌, ◌≤◌, cond, eqb, ◌⊎◌, sym, refl, ap, ◌∙◌, subst, inl, inr, ⊎_elim, arith}
use Rattle.std.proofs.lemmas.Bool.{cases_eq, eq-eqb, ne_eqb}
use Rattle.records.specs.declared.Kind.{Kind}
use Rattle.records.specs.declared.Kind.TheVariants.{AnyOf, AllOf, Fixed}
use Rattle.records.specs.declared.Sign.{Sign}
use Rattle.records.specs.declared.Sign.TheVariants.{Least, Greatest}
use Rattle.scale.specs.Algebra.{Algebra, Laws, Value}
use Rattle.meaning.specs.System.{System, Next, one_sided, share, worth, way, Toward, Bounds, Nearest, Above, Below, Keeps, Rival, Strong}
use Rattle.meaning.proofs.Order.{opposite, turned, turned_back, toward_refl, toward_trans}

-- On the way τ, f takes values of A to values of C, and g is its adjoint.
pub record Adjoint (A C : Algebra) (τ : Sign) : Type 0 where
  pub f : ℕ → ℕ
  pub g : ℕ → ℕ
  pub f_value : (x : ℕ) → Value A x → Value C (f x)
  pub g_value : (y : ℕ) → Value C y → Value A (g y)
  pub up : (x y : ℕ) → Value A x → Value C y → Toward C τ (f x) y → Toward A τ x (g y)
  pub down : (x y : ℕ) → Value A x → Value C y → Toward A τ x (g y) → Toward C τ (f x) y

module _ {P : Type 0} {A C : Algebra} (L : Laws A) (M : Laws C) (τ : Sign) (a : Adjoint A C τ) (S T : System P) where
  -- assignments of the two systems whose values are related in p's block and above
  abbrev pub Related : P → (P → ℕ) → (P → ℕ) → Type 0
  Related p U W = (r : P) → S.inside r → S.block p ≤ S.block r → Value A (U r) × Toward C τ (a.f (U r)) (W r)

  -- what an edge of S makes is before what an edge of T makes
  abbrev pub Before : Kind → P → ℕ → Next P → ℕ → Next P → Type 0
  Before k p x n y o =
      (U W : P → ℕ) → Related p U W → Value A (share A k x (worth U n)) × Toward C τ (a.f (share A k x (worth U n))) (share C k y (worth W o))

  -- The comparison at a position of kind k. On the kind's own way every edge of S is before one of T, or
  -- before all; on the other way every edge of T is past one of S.
  pub record Compared (k : Kind) (p : P) : Type 0 where
    pub along : way k ≡ τ → (x : ℕ) (n : Next P) → S.offers p x n
        → ((y : ℕ) × (o : Next P) × T.offers p y o × Before k p x n y o)
        ⊎ ((U W : P → ℕ) → Related p U W → Value A (share A k x (worth U n)) × ((d : ℕ) → Value C d → Toward C τ (a.f (share A k x (worth U n))) d))
    pub against : way k ≡ opposite τ → (y : ℕ) (o : Next P) → T.offers p y o → (x : ℕ) × (n : Next P) × S.offers p x n × Before k p x n y o
    pub fixed : k ≡ Fixed → Value A (S.fixed p) × Toward C τ (a.f (S.fixed p)) (T.fixed p)

  pub record Comparable : Type 0 where
    pub inside : (p : P) → S.inside p → T.inside p
    pub inside_back : (p : P) → T.inside p → S.inside p
    pub kind : (p : P) → T.kind p ≡ S.kind p
    pub block : (p : P) → T.block p ≡ S.block p
    pub sign : (b : ℕ) → T.sign b ≡ S.sign b
    pub at : (p : P) → S.inside p → Compared (S.kind p) p

  f_mono : (x y : ℕ) → Value A x → Value A y → Toward A τ x y → Toward C τ (a.f x) (a.f y)
  f_mono x y v w t =
      a.down x (a.f y) v (a.f_value y w) (toward_trans L t (a.up y (a.f y) w (a.f_value y w) (toward_refl M τ (a.f_value y w))))

  -- The halves of an equation, carried from one system to the other.
  module _ (k : Kind) (p : P) (c : Compared k p) (U W : P → ℕ) (rel : Related p U W) where
    -- from T back to S, where the kind gathers on the way τ: g of a bound is a bound
    bounds_S : way k ≡ τ → (d : ℕ) → Value C d → Bounds C T k W p d → Bounds A S k U p (a.g d)
    bounds_S e d v h s m =
        let back : Toward C τ (a.f (share A k m.weight (worth U m.next))) d → Value A (share A k m.weight (worth U m.next)) → Toward A (way k) s (a.g d) =
        λ t val. subst (λ σ. Toward A σ s (a.g d)) (sym e) (rw m.shared (a.up (share A k m.weight (worth U m.next)) d val v t)) in
        ⊎_elim
        (λ t.
        let r = t.3 U W rel in
        let there = h (share C k t.0 (worth W t.1)) (record { weight = t.0; next = t.1; offered = t.2; shared = refl }) in
        back (toward_trans M r.1 (subst (λ σ. Toward C σ (share C k t.0 (worth W t.1)) d) e there)) r.0)
        (λ t. let r = t U W rel in back (r.1 d v) r.0)
        (c.along e m.weight m.next m.offered)

    -- on to T, where the kind gathers the other way: f of a bound is a bound
    bounds_T : way k ≡ opposite τ → (d : ℕ) → Value A d → Bounds A S k U p d → Bounds C T k W p (a.f d)
    bounds_T e d v h t m =
        let o = c.against e m.weight m.next m.offered in
        let r = o.3 U W rel in
        let s = share A k o.0 (worth U o.1) in
        let there : Toward A τ d s = turned_back τ (subst (λ σ. Toward A σ s d) e (h s (record { weight = o.0; next = o.1; offered = o.2; shared = refl }))) in
        let on : Toward C τ (a.f d) t = rw m.shared (toward_trans M (f_mono d s v r.0 there) r.1) in
        subst (λ σ. Toward C σ t (a.f d)) (sym e) (turned τ on)

    nearest_S : way k ≡ opposite τ → (d : ℕ) → Value C d → Nearest C T k W p d → Nearest A S k U p (a.g d)
    nearest_S e d v h x w b =
        let there : Toward C τ (a.f x) d = turned_back τ (subst (λ σ. Toward C σ d (a.f x)) e (h (a.f x) (a.f_value x w) (bounds_T e x w b))) in
        subst (λ σ. Toward A σ (a.g d) x) (sym e) (turned τ (a.up x d w v there))

    nearest_T : way k ≡ τ → (d : ℕ) → Value A d → Nearest A S k U p d → Nearest C T k W p (a.f d)
    nearest_T e d v h x w b =
        let there : Toward A τ d (a.g x) = subst (λ σ. Toward A σ d (a.g x)) e (h (a.g x) (a.g_value x w) (bounds_S e x w b)) in
        subst (λ σ. Toward C σ (a.f d) x) (sym e) (a.down d x v w there)

module _ {P : Type 0} {A C : Algebra} (L : Laws A) (M : Laws C) (S T : System P) where
  -- W keeps an equation of T, so g of it keeps that of S from the side τ
  keep_S : (τ : Sign) (a : Adjoint A C τ) (k : Kind) (p : P) → Compared L M τ a S T k p → (U W : P → ℕ) → Related L M τ a S T p U W → Value C (W p) → U p ≡ a.g (W p) → Above C T k W p × Below C T k W p → Keeps A S one_sided τ k U p
  keep_S Least a AnyOf p c U W rel v is h = rw is (bounds_S L M Least a S T AnyOf p c U W rel refl (W p) v h.0)
  keep_S Least a AllOf p c U W rel v is h = rw is (nearest_S L M Least a S T AllOf p c U W rel refl (W p) v h.0)
  keep_S Least a Fixed p c U W rel v is h =
      let x = c.fixed refl in
      rw is (a.up (S.fixed p) (W p) x.0 v (toward_trans M x.1 (record { ordered = h.0 }))).ordered
  keep_S Greatest a AnyOf p c U W rel v is h = rw is (nearest_S L M Greatest a S T AnyOf p c U W rel refl (W p) v h.1)
  keep_S Greatest a AllOf p c U W rel v is h = rw is (bounds_S L M Greatest a S T AllOf p c U W rel refl (W p) v h.1)
  keep_S Greatest a Fixed p c U W rel v is h =
      let x = c.fixed refl in
      rw is (a.up (S.fixed p) (W p) x.0 v (toward_trans M x.1 (record { ordered = h.1 }))).ordered

  -- U keeps an equation of S, so f of it keeps that of T from the other side
  keep_T : (τ : Sign) (a : Adjoint A C τ) (k : Kind) (p : P) → Compared L M τ a S T k p → (U W : P → ℕ) → Related L M τ a S T p U W → Value A (U p) → W p ≡ a.f (U p) → Above A S k U p × Below A S k U p → Keeps C T one_sided (opposite τ) k W p
  keep_T Least a AnyOf p c U W rel v is h = rw is (nearest_T L M Least a S T AnyOf p c U W rel refl (U p) v h.1)
  keep_T Least a AllOf p c U W rel v is h = rw is (bounds_T L M Least a S T AllOf p c U W rel refl (U p) v h.1)
  keep_T Least a Fixed p c U W rel v is h =
      let x = c.fixed refl in
      rw is (toward_trans M (f_mono L M Least a S T (U p) (S.fixed p) v x.0 (record { ordered = h.1 })) x.1).ordered
  keep_T Greatest a AnyOf p c U W rel v is h = rw is (bounds_T L M Greatest a S T AnyOf p c U W rel refl (U p) v h.0)
  keep_T Greatest a AllOf p c U W rel v is h = rw is (nearest_T L M Greatest a S T AllOf p c U W rel refl (U p) v h.0)
  keep_T Greatest a Fixed p c U W rel v is h =
      let x = c.fixed refl in
      rw is (toward_trans M (f_mono L M Greatest a S T (U p) (S.fixed p) v x.0 (record { ordered = h.0 })) x.1).ordered

  same_or_other : (σ τ : Sign) → (σ ≡ τ) ⊎ (σ ≡ opposite τ)
  same_or_other Least Least = inl refl
  same_or_other Least Greatest = inr refl
  same_or_other Greatest Least = inr refl
  same_or_other Greatest Greatest = inl refl

  module _ (τ : Sign) (a : Adjoint A C τ) (q : Comparable L M τ a S T) (top : ℕ) (low : (p : P) → S.inside p → S.block p < top)
      (V W : P → ℕ) (v : Strong A S V) (w : Strong C T W) where
    -- x in block b, y elsewhere
    abbrev in_block : ℕ → P → ℕ → ℕ → ℕ
    in_block b p x y = cond (eqb (S.block p) b) x y

    in_yes : (b : ℕ) (p : P) (x y : ℕ) → S.block p ≡ b → in_block b p x y ≡ x
    in_yes b p x y e = ap (λ t. cond t x y) (eq-eqb (S.block p) b e)

    in_no : (b : ℕ) (p : P) (x y : ℕ) → (S.block p ≡ b → ⊥) → in_block b p x y ≡ y
    in_no b p x y n = ap (λ t. cond t x y) (ne_eqb (S.block p) b n)

    w_values : (p : P) → S.inside p → Value C (W p)
    w_values p i = w.values p (q.inside p i)

    w_keeps : (p : P) → S.inside p → Above C T (S.kind p) W p × Below C T (S.kind p) W p
    w_keeps p i = subst (λ k. Above C T k W p × Below C T k W p) (q.kind p) (w.keeps p (q.inside p i))

    -- one block, where the higher ones are compared already
    module _ (b : ℕ) (above : (p : P) → S.inside p → b < S.block p → Toward C τ (a.f (V p)) (W p)) where
      -- where the block's sign is τ, g of W is a rival of V
      U : P → ℕ
      U p = in_block b p (a.g (W p)) (V p)

      u_values : (p : P) → S.inside p → Value A (U p)
      unfolding U
      u_values p i =
          ⊎_elim (λ e. rw (in_yes b p (a.g (W p)) (V p) e) (a.g_value (W p) (w_values p i))) (λ n. rw (in_no b p (a.g (W p)) (V p) n) (v.values p i)) (cases_eq (S.block p) b)

      u_related : (p : P) → S.block p ≡ b → Related L M τ a S T p U W
      unfolding U
      u_related p e r i up = (
        u_values r i,
        ⊎_elim
            (λ here. rw (in_yes b r (a.g (W r)) (V r) here) (a.down (a.g (W r)) (W r) (a.g_value (W r) (w_values r i)) (w_values r i) (toward_refl L τ (a.g_value (W r) (w_values r i)))))
            (λ n. rw (in_no b r (a.g (W r)) (V r) n) (above r i (omega arith)))
            (cases_eq (S.block r) b),
      )

      same_way : S.sign b ≡ τ → (p : P) → S.inside p → S.block p ≡ b → Toward C τ (a.f (V p)) (W p)
      unfolding U
      same_way σ p i e =
          let rival : Rival A S one_sided b V U = record {
            values = u_values;
            higher = λ r j up. in_no b r (a.g (W r)) (V r) (λ at. absurd (omega arith));
            keeps = λ r j at. subst (λ s. Keeps A S one_sided s (S.kind r) U r) (sym σ) (keep_S τ a (S.kind r) r (q.at r j) U W (u_related r at) (w_values r j) (in_yes b r (a.g (W r)) (V r) at) (w_keeps r j));
          } in
          let won : Toward A τ (V p) (U p) = subst (λ s. Toward A s (V p) (U p)) σ (v.extreme b U rival p i e) in
          a.down (V p) (W p) (v.values p i) (w_values p i) (rw (in_yes b p (a.g (W p)) (V p) e) at won)

      -- where it is the other, f of V is a rival of W
      X : P → ℕ
      X p = in_block b p (a.f (V p)) (W p)

      x_values : (p : P) → S.inside p → Value C (X p)
      unfolding X
      x_values p i =
          ⊎_elim (λ e. rw (in_yes b p (a.f (V p)) (W p) e) (a.f_value (V p) (v.values p i))) (λ n. rw (in_no b p (a.f (V p)) (W p) n) (w_values p i)) (cases_eq (S.block p) b)

      x_related : (p : P) → S.block p ≡ b → Related L M τ a S T p V X
      unfolding X
      x_related p e r i up = (
        v.values r i,
        ⊎_elim
            (λ here. rw (in_yes b r (a.f (V r)) (W r) here) (toward_refl M τ (a.f_value (V r) (v.values r i))))
            (λ n. rw (in_no b r (a.f (V r)) (W r) n) (above r i (omega arith)))
            (cases_eq (S.block r) b),
      )

      other_way : S.sign b ≡ opposite τ → (p : P) → S.inside p → S.block p ≡ b → Toward C τ (a.f (V p)) (W p)
      unfolding X
      other_way σ p i e =
          let σ' : T.sign b ≡ opposite τ = q.sign b ∙ σ in
          let rival : Rival C T one_sided b W X = record {
            values = λ r j. x_values r (q.inside_back r j);
            higher = λ r j up. in_no b r (a.f (V r)) (W r) (λ at. absurd (omega (arith, q.block r)));
            keeps = λ r j at.
                let at' : S.block r ≡ b = sym (q.block r) ∙ at in
                let j' = q.inside_back r j in
                let told = keep_T τ a (S.kind r) r (q.at r j') V X (x_related r at') (v.values r j') (in_yes b r (a.f (V r)) (W r) at') (v.keeps r j') in
                subst (λ s. Keeps C T one_sided s (T.kind r) X r) (sym σ') (subst (λ k. Keeps C T one_sided (opposite τ) k X r) (sym (q.kind r)) told);
          } in
          let won : Toward C (opposite τ) (W p) (X p) = subst (λ s. Toward C s (W p) (X p)) σ' (w.extreme b X rival p (q.inside p i) (q.block p ∙ e)) in
          rw (in_yes b p (a.f (V p)) (W p) e) at (turned_back τ won)

    down_to : (n : ℕ) (p : P) → S.inside p → top ≤ S.block p + n → Toward C τ (a.f (V p)) (W p)
    down_to zero p i h = absurd (omega (arith, low p i))
    down_to (suc n) p i h =
        let above : (r : P) → S.inside r → S.block p < S.block r → Toward C τ (a.f (V r)) (W r) = λ r j up. down_to n r j (omega arith) in
        ⊎_elim (λ σ. same_way (S.block p) above σ p i refl) (λ σ. other_way (S.block p) above σ p i refl) (same_or_other (S.sign (S.block p)) τ)

    -- f of the first system's solution is before the second's
    pub compare : (p : P) → S.inside p → Toward C τ (a.f (V p)) (W p)
    compare p i = down_to top p i (omega arith)
