-- Two solutions of one system agree, whatever rivals each was compared with.
use Rattle.std.proofs.Common.{◌≡◌, ℕ, zero, suc, ◌+◌, ◌<◌, ◌≤◌, sym, refl, ⊎_elim, arith}
use Rattle.std.proofs.lemmas.Bool.{cases_lt}
use Rattle.records.specs.declared.Kind.{Kind}
use Rattle.records.specs.declared.Sign.{Sign}
use Rattle.records.specs.declared.Sign.TheVariants.{Least, Greatest}
use Rattle.scale.specs.Algebra.{Algebra, Laws}
use Rattle.meaning.specs.System.{System, Mode, exactly, one_sided, Keeps, Above, Below, Rival, Solves, Solution, Strong}
use Rattle.meaning.proofs.Order.{toward_antisym}

module _ {P : Type 0} {A : Algebra} (L : Laws A) (S : System P) where
  -- what is kept exactly is kept in either mode
  pub kept : (m : Mode) (σ : Sign) (k : Kind) (W : P → ℕ) (p : P) → Above A S k W p × Below A S k W p → Keeps A S m σ k W p
  kept exactly σ k W p h = h
  kept one_sided Least k W p h = h.0
  kept one_sided Greatest k W p h = h.1

  module _ (top : ℕ) (low : (p : P) → S.inside p → S.block p < top) (m n : Mode) (V W : P → ℕ) (v : Solves A S m V) (w : Solves A S n W) where
    -- block by block from the highest
    from_top : (k : ℕ) (p : P) → S.inside p → top ≤ S.block p + k → V p ≡ W p
    from_top zero p i h = absurd (omega (arith, low p i))
    from_top (suc k) p i h =
        ⊎_elim
        (λ here.
        let v_rival : Rival A S m (S.block p) V W = record {
          values = w.values;
          higher = λ q j up. sym (from_top k q j (omega arith));
          keeps = λ q j e. kept m (S.sign (S.block p)) (S.kind q) W q (w.keeps q j);
        } in
        let w_rival : Rival A S n (S.block p) W V = record {
          values = v.values;
          higher = λ q j up. from_top k q j (omega arith);
          keeps = λ q j e. kept n (S.sign (S.block p)) (S.kind q) V q (v.keeps q j);
        } in
        toward_antisym L (v.extreme (S.block p) W v_rival p i refl) (w.extreme (S.block p) V w_rival p i refl))
        (λ above. from_top k p i above)
        (cases_lt (S.block p + k) top)

    pub agree : (p : P) → S.inside p → V p ≡ W p
    agree p i = from_top top p i (omega arith)

  -- a solution is strong where some strong one exists
  pub strong_solution : (top : ℕ) (low : (p : P) → S.inside p → S.block p < top) (V W : P → ℕ) → Strong A S V → Solution A S W → Strong A S W
  strong_solution top low V W v w =
      let same : (p : P) → S.inside p → V p ≡ W p = agree top low one_sided exactly V W v w in
      record {
        values = w.values;
        keeps = w.keeps;
        extreme = λ b U u p i e.
            let rival : Rival A S one_sided b V U = record {
              values = u.values;
              higher = λ q j up. rw (same q j) (u.higher q j up);
              keeps = u.keeps;
            } in
            rw (← same p i) (v.extreme b U rival p i e);
      }

  -- a strong solution is a solution
  pub weaken : (V : P → ℕ) → Strong A S V → Solution A S V
  weaken V v = record {
    values = v.values;
    keeps = v.keeps;
    extreme = λ b W w p i e.
        v.extreme b W (record { values = w.values; higher = w.higher; keeps = λ q j f. kept one_sided (S.sign b) (S.kind q) W q (w.keeps q j f) }) p i e;
  }
