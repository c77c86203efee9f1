-- Which nodes can be reached is found by following edges until nothing new comes.
use Rattle.std.proofs.Common.{◌≡◌, ℕ, zero, suc, ◌<◌, ◌≤◌, Bool, true, false, cond, ◌&&◌, ◌||◌, eqb, ◌⊎◌, List, [], ◌∷◌, sym, refl, ap, ◌∙◌, subst, subst₂, inl, inr, ⊎_elim, arith}
use Rattle.std.proofs.lemmas.Bool.{cases_eq, cases_Bool, eq-eqb, eqb-true, or_cases, or_left, or_right, and_parts, and_from, true≢false}
use Rattle.records.specs.declared.Edge.{Edge}
use Rattle.meaning.specs.Graph.{Graph}
use Rattle.meaning.specs.Member.{In}
use Rattle.meaning.specs.Quotient.{any}
use Rattle.meaning.specs.Trim.{Reached, begins, follows, Marks, rank}
use Rattle.calls.proofs.Again.{any_from}

-- some edge of the list leads to q
abbrev leads : List Edge → ℕ → Bool
leads [] q = false
leads (e ∷ es) q = eqb e.target q || leads es q

leads_from : (es : List Edge) (q : ℕ) → leads es q ≡ true → (e : Edge) × In e es × (e.target ≡ q)
leads_from [] q h = absurd (true≢false (sym h))
leads_from (e ∷ es) q h =
    ⊎_elim (λ y. (e, inl refl, eqb-true e.target q y)) (λ y. let r = leads_from es q y in (r.0, inr r.1, r.2)) (or_cases (eqb e.target q) (leads es q) h)

leads_to : (es : List Edge) (e : Edge) → In e es → leads es e.target ≡ true
leads_to [] e i = absurd i
leads_to (d ∷ es) e (inl same) = or_left (eqb d.target e.target) (leads es e.target) (eq-eqb d.target e.target (ap (λ x. x.target) (sym same)))
leads_to (d ∷ es) e (inr i) = or_right (eqb d.target e.target) (leads es e.target) (leads_to es e i)

any_at : (n : ℕ) (t : ℕ → Bool) → any n t ≡ true → (q : ℕ) × (q < n) × (t q ≡ true)
any_at zero t h = absurd (true≢false (sym h))
any_at (suc n) t h = ⊎_elim (λ y. let r = any_at n t y in (r.0, omega (arith, r.1), r.2)) (λ y. (n, omega arith, y)) (or_cases (any n t) (t n) h)

module _ (G : Graph) where
  -- the nodes that are reached by at most n edges
  abbrev within : ℕ → ℕ → Bool
  within zero q = eqb q G.initial
  within (suc n) q = within n q || any G.nodes (λ p. within n p && leads (G.edges p) q)

  sound : (n q : ℕ) → within n q ≡ true → Reached G q
  sound zero q h = subst (Reached G) (sym (eqb-true q G.initial h)) begins
  sound (suc n) q h =
      ⊎_elim (sound n q)
      (λ y.
      let p = any_at G.nodes (λ p. within n p && leads (G.edges p) q) y in
      let both = and_parts (within n p.0) (leads (G.edges p.0) q) p.2 in
      let e = leads_from (G.edges p.0) q both.1 in
      subst (Reached G) e.2 (follows e.0 (sound n p.0 both.0) e.1))
      (or_cases (within n q) (any G.nodes (λ p. within n p && leads (G.edges p) q)) h)

  grows : (n q : ℕ) → within n q ≡ true → within (suc n) q ≡ true
  grows n q h = or_left (within n q) (any G.nodes (λ p. within n p && leads (G.edges p) q)) h

  from_start : (n : ℕ) → within n G.initial ≡ true
  from_start zero = eq-eqb G.initial G.initial refl
  from_start (suc n) = grows n G.initial (from_start n)

  step_le : (k n : ℕ) → cond (within k n) 1 0 ≤ cond (within (suc k) n) 1 0
  step_le k n = ⊎_elim (λ h. subst₂ (λ a b. cond a 1 0 ≤ cond b 1 0) (sym h) (sym (grows k n h)) (omega arith)) (λ h. subst (λ a. cond a 1 0 ≤ cond (within (suc k) n) 1 0) (sym h) (omega arith)) (cases_Bool (within k n))

  rank_le : (k n : ℕ) → rank (within k) n ≤ rank (within (suc k)) n
  rank_le k zero = omega arith
  rank_le k (suc n) = omega (arith, rank_le k n, step_le k n)

  -- nothing new comes, or there are more
  more : (k n : ℕ) → ((q : ℕ) → q < n → within (suc k) q ≡ true → within k q ≡ true) ⊎ (rank (within k) n < rank (within (suc k)) n)
  more k zero = inl (λ q lt h. absurd (omega arith))
  more k (suc n) =
      ⊎_elim
      (λ same.
      ⊎_elim
      (λ on.
      ⊎_elim
      (λ was. inl (λ q lt h. ⊎_elim (λ e. subst (λ x. within k x ≡ true) (sym e) was) (λ (ne : q ≡ n → ⊥). same q (omega arith) h) (cases_eq q n)))
      (λ was. inr (omega (arith, rank_le k n, ap {B = ℕ} (λ b. cond b 1 0) on, ap {B = ℕ} (λ b. cond b 1 0) was)))
      (cases_Bool (within k n)))
      (λ off. inl (λ q lt h. ⊎_elim (λ e. absurd (true≢false (sym h ∙ ap (within (suc k)) e ∙ off))) (λ (ne : q ≡ n → ⊥). same q (omega arith) h) (cases_eq q n)))
      (cases_Bool (within (suc k) n)))
      (λ less. inr (omega (arith, less, step_le k n)))
      (more k n)

  rank_few : (marks : ℕ → Bool) (n : ℕ) → rank marks n ≤ n
  rank_few marks zero = omega arith
  rank_few marks (suc n) = omega (arith, rank_few marks n, one (marks n))
    where
      one : (b : Bool) → cond b 1 0 ≤ 1
      one true = omega arith
      one false = omega arith

  -- nothing new after k turns
  Settled : ℕ → Type 0
  Settled k = (q : ℕ) → q < G.nodes → within (suc k) q ≡ true → within k q ≡ true

  settle : (n : ℕ) → ((k : ℕ) × Settled k) ⊎ (n ≤ rank (within n) G.nodes)
  unfolding Settled
  settle zero = inr (omega arith)
  settle (suc n) = ⊎_elim inl (λ far. ⊎_elim (λ same. inl (n, same)) (λ less. inr (omega (arith, less, far))) (more n G.nodes)) (settle n)

  settled : (k : ℕ) × Settled k
  settled = ⊎_elim (λ s. s) (λ far. absurd (omega (arith, far, rank_few (within (suc G.nodes)) G.nodes))) (settle (suc G.nodes))

  complete : (k : ℕ) → Settled k → ((q : ℕ) → q < G.nodes → (e : Edge) → In e (G.edges q) → e.target < G.nodes) → G.initial < G.nodes → {q : ℕ} → Reached G q → (q < G.nodes) × (within k q ≡ true)
  unfolding Settled
  complete k s on starts begins = (starts, from_start k)
  complete k s on starts (follows {q} e r i) =
      let p = complete k s on starts r in
      let there = on q p.0 e i in
      let step : within (suc k) e.target ≡ true =
      or_right (within k e.target) (any G.nodes (λ y. within k y && leads (G.edges y) e.target))
      (any_from G.nodes (λ y. within k y && leads (G.edges y) e.target) q p.0 (and_from (within k q) (leads (G.edges q) e.target) p.1 (leads_to (G.edges q) e i))) in
      (there, s e.target there step)

  -- there are marks at just the nodes that can be reached
  pub marks_exist : ((q : ℕ) → q < G.nodes → (e : Edge) → In e (G.edges q) → e.target < G.nodes) → G.initial < G.nodes → (marks : ℕ → Bool) × Marks G marks
  marks_exist on starts = (within settled.0, λ q lt. (sound settled.0 q, λ r. (complete settled.0 settled.1 on starts r).1))
