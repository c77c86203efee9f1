-- Two systems whose positions stand for one another have the same solutions.
-- Edges of lowest weight may be missing on either side: they contribute nothing.
use Rattle.std.proofs.Common.{◌≡◌, ℕ, ◌⊎◌, sym, refl, ap, ◌∙◌, subst, inl, inr, ⊎_elim}
use Rattle.records.specs.declared.Kind.{Kind}
use Rattle.records.specs.declared.Kind.TheVariants.{AnyOf, AllOf, Fixed}
use Rattle.records.specs.declared.Sign.{Sign}
use Rattle.records.specs.declared.Sign.TheVariants.{Least, Greatest}
use Rattle.scale.specs.Algebra.{Algebra, Laws, Value}
use Rattle.meaning.specs.System.{System, Next, goes, ends, Mode, exactly, one_sided, share, worth, way, Toward, Contributed, Bounds, Nearest, Keeps, Above, Below, Rival, Solves}
use Rattle.meaning.proofs.Order.{first_of, first_toward, lowest_under, under_highest, under_antisym, under_meet, complement_lowest, join_left}

abbrev pub next_map : {P Q : Type 0} → (P → Q) → Next P → Next Q
next_map f (goes p) = goes (f p)
next_map f (ends v) = ends v

-- what a system's positions offer stays within it, and the values at its ends are values
pub record Closed {P : Type 0} (A : Algebra) (S : System P) : Type 0 where
  pub stays : (p : P) → S.inside p → (x : ℕ) (q : P) → S.offers p x (goes q) → S.inside q
  pub known : (p : P) → S.inside p → (x v : ℕ) → S.offers p x (ends v) → Value A v

module _ {A : Algebra} (L : Laws A) where
  -- an edge of lowest weight contributes what is before every value
  pub share_lowest : (k : Kind) (v : ℕ) → Value A v → share A k A.lowest v ≡ first_of L (way k)
  share_lowest AnyOf v h = under_meet L (lowest_under L h)
  share_lowest AllOf v h =
      ap (λ c. A.join c v) (complement_lowest L) ∙ sym (under_antisym L (join_left L L.highest_value h) (under_highest L (L.join_value A.highest v)))
  share_lowest Fixed v h = under_meet L (lowest_under L h)

  pub worth_value : {P : Type 0} (S : System P) → Closed A S → (V : P → ℕ) → ((p : P) → S.inside p → Value A (V p)) → (p : P) → S.inside p → (x : ℕ) (n : Next P) → S.offers p x n → Value A (worth V n)
  worth_value S c V h p i x (goes q) o = h q (c.stays p i x q o)
  worth_value S c V h p i x (ends v) o = c.known p i x v o

  -- At a position of each system: what one contributes the other does too, unless it contributes nothing.
  pub record Matched {P Q : Type 0} (S : System P) (T : System Q) (k : Kind) (V : P → ℕ) (W : Q → ℕ) (p : P) (q : Q) : Type 0 where
    pub forth : (s : ℕ) → Contributed A S k V p s → Contributed A T k W q s ⊎ (s ≡ first_of L (way k))
    pub back : (s : ℕ) → Contributed A T k W q s → Contributed A S k V p s ⊎ (s ≡ first_of L (way k))
    pub same : W q ≡ V p
    pub fixed : T.fixed q ≡ S.fixed p
    pub value : Value A (V p)

  pub flip : {P Q : Type 0} {S : System P} {T : System Q} {k : Kind} {V : P → ℕ} {W : Q → ℕ} {p : P} {q : Q} → Matched S T k V W p q → Matched T S k W V q p
  flip m = record { forth = m.back; back = m.forth; same = sym m.same; fixed = sym m.fixed; value = rw m.same m.value }

  module _ {P Q : Type 0} {S : System P} {T : System Q} {k : Kind} {V : P → ℕ} {W : Q → ℕ} {p : P} {q : Q} (m : Matched S T k V W p q) where
    bounds : (c : ℕ) → Value A c → Bounds A S k V p c → Bounds A T k W q c
    bounds c v h s o =
        ⊎_elim (h s) (λ e. subst (λ x. Toward A (way k) x c) (sym e) (first_toward L (way k) v)) (m.back s o)

  module _ {P Q : Type 0} {S : System P} {T : System Q} {k : Kind} {V : P → ℕ} {W : Q → ℕ} {p : P} {q : Q} (m : Matched S T k V W p q) where
    bounds_here : Bounds A S k V p (V p) → Bounds A T k W q (W q)
    bounds_here h = rw m.same (bounds m (V p) m.value h)

    nearest_here : Nearest A S k V p (V p) → Nearest A T k W q (W q)
    nearest_here h d v b = rw m.same (h d v (bounds (flip m) d v b))

  pub above : {P Q : Type 0} {S : System P} {T : System Q} (k : Kind) {V : P → ℕ} {W : Q → ℕ} {p : P} {q : Q} → Matched S T k V W p q → Above A S k V p → Above A T k W q
  above AnyOf m h = bounds_here m h
  above AllOf m h = nearest_here m h
  above Fixed m h = rw (m.same, m.fixed) h

  pub below : {P Q : Type 0} {S : System P} {T : System Q} (k : Kind) {V : P → ℕ} {W : Q → ℕ} {p : P} {q : Q} → Matched S T k V W p q → Below A S k V p → Below A T k W q
  below AnyOf m h = nearest_here m h
  below AllOf m h = bounds_here m h
  below Fixed m h = rw (m.same, m.fixed) h

  pub keeps : {P Q : Type 0} {S : System P} {T : System Q} (m : Mode) (σ : Sign) (k : Kind) {V : P → ℕ} {W : Q → ℕ} {p : P} {q : Q} → Matched S T k V W p q → Keeps A S m σ k V p → Keeps A T m σ k W q
  keeps exactly σ k m h = (above k m h.0, below k m h.1)
  keeps one_sided Least k m h = above k m h
  keeps one_sided Greatest k m h = below k m h

-- The positions of two systems stand for one another, and offer the same edges.
pub record Alike {P Q : Type 0} (A : Algebra) (S : System P) (T : System Q) : Type 0 where
  pub to : P → Q
  pub from : Q → P
  pub to_inside : (p : P) → S.inside p → T.inside (to p)
  pub from_inside : (q : Q) → T.inside q → S.inside (from q)
  pub from_to : (p : P) → S.inside p → from (to p) ≡ p
  pub to_from : (q : Q) → T.inside q → to (from q) ≡ q
  pub kind : (p : P) → S.inside p → T.kind (to p) ≡ S.kind p
  pub block : (p : P) → S.inside p → T.block (to p) ≡ S.block p
  pub fixed : (p : P) → S.inside p → T.fixed (to p) ≡ S.fixed p
  pub sign : (b : ℕ) → T.sign b ≡ S.sign b
  pub forth : (p : P) → S.inside p → (x : ℕ) (n : Next P) → S.offers p x n → T.offers (to p) x (next_map to n) ⊎ (x ≡ A.lowest)
  pub back : (p : P) → S.inside p → (x : ℕ) (n : Next Q) → T.offers (to p) x n → ((o : Next P) × S.offers p x o × (next_map to o ≡ n)) ⊎ (x ≡ A.lowest)

module _ {A : Algebra} (L : Laws A) {P Q : Type 0} {S : System P} {T : System Q} (closed_S : Closed A S) (closed_T : Closed A T) (a : Alike A S T) where
  -- two assignments that agree are matched at every position
  module _ (V : P → ℕ) (W : Q → ℕ) (values : (p : P) → S.inside p → Value A (V p)) (agree : (p : P) → S.inside p → W (a.to p) ≡ V p) where
    worths : (p : P) → S.inside p → (x : ℕ) (n : Next P) → S.offers p x n → worth W (next_map a.to n) ≡ worth V n
    worths p i x (goes q) o = agree q (closed_S.stays p i x q o)
    worths p i x (ends v) o = refl

    w_values : (q : Q) → T.inside q → Value A (W q)
    w_values q j =
        let e : W q ≡ V (a.from q) = sym (ap W (a.to_from q j)) ∙ agree (a.from q) (a.from_inside q j) in
        rw e (values (a.from q) (a.from_inside q j))

    pub matched : (k : Kind) (p : P) → S.inside p → Matched L S T k V W p (a.to p)
    matched k p i = record {
      forth = λ s c.
          ⊎_elim
          (λ o. inl (record { weight = c.weight; next = next_map a.to c.next; offered = o; shared = c.shared ∙ ap (share A k c.weight) (sym (worths p i c.weight c.next c.offered)) }))
          (λ e. inr (c.shared ∙ ap (λ x. share A k x (worth V c.next)) e ∙ share_lowest L k (worth V c.next) (worth_value L S closed_S V values p i c.weight c.next c.offered)))
          (a.forth p i c.weight c.next c.offered);
      back = λ s c.
          ⊎_elim
          (λ o.
          let behind : worth W c.next ≡ worth V o.0 = ap (worth W) (sym o.2) ∙ worths p i c.weight o.0 o.1 in
          inl (record { weight = c.weight; next = o.0; offered = o.1; shared = c.shared ∙ ap (share A k c.weight) behind }))
          (λ e. inr (c.shared ∙ ap (λ x. share A k x (worth W c.next)) e ∙ share_lowest L k (worth W c.next) (worth_value L T closed_T W w_values (a.to p) (a.to_inside p i) c.weight c.next c.offered)))
          (a.back p i c.weight c.next c.offered);
      same = agree p i;
      fixed = a.fixed p i;
      value = values p i;
    }

  -- the match read at a position of the other system
  matched_at : (V : P → ℕ) (W : Q → ℕ) (values : (p : P) → S.inside p → Value A (V p)) (agree : (p : P) → S.inside p → W (a.to p) ≡ V p) (k : Kind) (q : Q) → T.inside q → Matched L S T k V W (a.from q) q
  matched_at V W values agree k q j =
      subst (Matched L S T k V W (a.from q)) (a.to_from q j) (matched V W values agree k (a.from q) (a.from_inside q j))

  kind_at : (q : Q) → T.inside q → S.kind (a.from q) ≡ T.kind q
  kind_at q j = sym (a.kind (a.from q) (a.from_inside q j)) ∙ ap T.kind (a.to_from q j)

  block_at : (q : Q) → T.inside q → S.block (a.from q) ≡ T.block q
  block_at q j = sym (a.block (a.from q) (a.from_inside q j)) ∙ ap T.block (a.to_from q j)

  -- a solution of the first solves the second
  pub transfer : (m : Mode) (V : P → ℕ) → Solves A S m V → Solves A T m (λ q. V (a.from q))
  transfer m V v =
      let agree : (p : P) → S.inside p → V (a.from (a.to p)) ≡ V p = λ p i. ap V (a.from_to p i) in
      record {
        values = λ q j. v.values (a.from q) (a.from_inside q j);
        keeps = λ q j.
            let here = matched_at V (λ r. V (a.from r)) v.values agree (T.kind q) q j in
            let told = subst (λ k. Above A S k V (a.from q) × Below A S k V (a.from q)) (kind_at q j) (v.keeps (a.from q) (a.from_inside q j)) in
            (above L (T.kind q) here told.0, below L (T.kind q) here told.1);
        extreme = λ b W w q j e.
            let rival : Rival A S m b V (λ p. W (a.to p)) = record {
              values = λ p i. w.values (a.to p) (a.to_inside p i);
              higher = λ p i up. w.higher (a.to p) (a.to_inside p i) (rw (a.block p i) up) ∙ agree p i;
              keeps = λ p i f.
                  let there = matched (λ r. W (a.to r)) W (λ r h. w.values (a.to r) (a.to_inside r h)) (λ r h. refl) (S.kind p) p i in
                  let told = w.keeps (a.to p) (a.to_inside p i) (a.block p i ∙ f) in
                  keeps L m (S.sign b) (S.kind p) (flip L there) (rw (a.kind p i, a.sign b) at told);
            } in
            let won = v.extreme b (λ p. W (a.to p)) rival (a.from q) (a.from_inside q j) (block_at q j ∙ e) in
            rw (a.to_from q j, ← a.sign b) at won;
      }

  -- and a solution of the second solves the first
  pub transfer_back : (m : Mode) (W : Q → ℕ) → Solves A T m W → Solves A S m (λ p. W (a.to p))
  transfer_back m W w =
      let values : (p : P) → S.inside p → Value A (W (a.to p)) = λ p i. w.values (a.to p) (a.to_inside p i) in
      record {
        values = values;
        keeps = λ p i.
            let here = flip L (matched (λ r. W (a.to r)) W values (λ r h. refl) (S.kind p) p i) in
            let told = subst (λ k. Above A T k W (a.to p) × Below A T k W (a.to p)) (a.kind p i) (w.keeps (a.to p) (a.to_inside p i)) in
            (above L (S.kind p) here told.0, below L (S.kind p) here told.1);
        extreme = λ b V v p i e.
            let rival : Rival A T m b W (λ q. V (a.from q)) = record {
              values = λ q j. v.values (a.from q) (a.from_inside q j);
              higher = λ q j up. v.higher (a.from q) (a.from_inside q j) (rw (block_at q j) up) ∙ ap W (a.to_from q j);
              keeps = λ q j f.
                  let there = matched_at V (λ r. V (a.from r)) v.values (λ r h. ap V (a.from_to r h)) (T.kind q) q j in
                  let told = v.keeps (a.from q) (a.from_inside q j) (block_at q j ∙ f) in
                  keeps L m (T.sign b) (T.kind q) there (rw (kind_at q j, ← a.sign b) at told);
            } in
            let won = w.extreme b (λ q. V (a.from q)) rival (a.to p) (a.to_inside p i) (a.block p i ∙ e) in
            rw (a.from_to p i, a.sign b) at won;
      }
