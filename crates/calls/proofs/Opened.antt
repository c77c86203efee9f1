-- The graph that a well-formed case file opens as is well formed and tidy.
use Rattle.std.proofs.Common.{◌≡◌, ℕ, zero, suc, ◌+◌, ◌-◌, ◌<◌, ◌≤◌, Bool, true, false, cond, eqb, List, [], ◌∷◌, map, length, get_or, sym, ap, ◌∙◌, subst, inl, inr, ⊎_elim, arith}
use Rattle.std.specs.List.{range_with_len}
use Rattle.std.proofs.lemmas.List.FromFn.{length-map-range_with_len, get_or-map-range_with_len}
use Rattle.std.proofs.lemmas.Bool.{cases_eq, cases_Bool, cases_lt, eq-eqb, ne_eqb, lt-ltb, ltb-true, not_from_false, and_from}
use Rattle.records.specs.Codes.{none, kind_of, label, takes_part}
use Rattle.records.specs.declared.Edge.{Edge}
use Rattle.records.specs.declared.Guard.TheVariants.{Plain, By}
use Rattle.records.specs.declared.Kind.TheVariants.{AnyOf, AllOf, Fixed}
use Rattle.records.specs.declared.Rule.{Rule}
use Rattle.scale.specs.Algebra.{Algebra, Laws}
use Rattle.format.specs.Layout.{header_of, kind_byte, node_row, edge_row, rule_label, rule_asks, rule_row, block_sign}
use Rattle.casefile.specs.WellFormed.{WellFormed}
use Rattle.meaning.specs.Graph.{Guards, EdgeFits, WellFormedGraph}
use Rattle.meaning.specs.Member.{In}
use Rattle.meaning.specs.Network.{rule_of, idle_rule}
use Rattle.meaning.specs.Quotient.{gathered}
use Rattle.meaning.proofs.Members.{of_map, of_gathered}
use Rattle.calls.specs.Opening.{book_of, rules_for, opened_edge, formula_graph}
use Rattle.calls.specs.Promise.{places_of}
use Rattle.calls.proofs.Again.{Tidy}
use Rattle.calls.proofs.Lefts.{all_left_is}

-- the numbers from a on
of_counting : (a n k : ℕ) → In k (range_with_len a n) → (a ≤ k) × (k < a + n)
of_counting a zero k h = absurd h
of_counting a (suc n) k (inl e) = (omega arith, omega arith)
of_counting a (suc n) k (inr h) = let r = of_counting (a + 1) n k h in (omega (arith, r.0), omega (arith, r.1))

of_rules : (label n : ℕ) (rs : List Rule) (k : ℕ) → In k (rules_for label n rs) → (n ≤ k) × (k < n + length rs)
of_rules label n [] k h = absurd h
of_rules label n (r ∷ rs) k h = go (eqb r.result label) (of_rules label (n + 1) rs k) h
  where
    go : (b : Bool) → (In k (rules_for label (n + 1) rs) → (n + 1 ≤ k) × (k < n + 1 + length rs)) → In k (cond b (n ∷ rules_for label (n + 1) rs) (rules_for label (n + 1) rs)) → (n ≤ k) × (k < n + suc (length rs))
    go true later (inl e) = (omega arith, omega arith)
    go true later (inr i) = let r = later i in (omega (arith, r.0), omega (arith, r.1))
    go false later i = let r = later i in (omega (arith, r.0), omega (arith, r.1))

-- the code of a kind
fixed_code : (c : ℕ) → c ≤ 2 → kind_of c ≡ Fixed → c ≡ 2
fixed_code c small h =
    ⊎_elim
    (λ e. absurd (apart_any (ap (λ x. cond x AnyOf (cond (eqb c 1) AllOf Fixed)) (sym (eq-eqb c 0 e)) ∙ h)))
    (λ n.
    ⊎_elim
    (λ e. absurd (apart_all (ap (λ x. cond x AllOf Fixed) (sym (eq-eqb c 1 e)) ∙ sym (ap (λ x. cond x AnyOf (cond (eqb c 1) AllOf Fixed)) (ne_eqb c 0 n)) ∙ h)))
    (λ m. omega arith)
    (cases_eq c 1))
    (cases_eq c 0)
  where
    apart_any : AnyOf ≡ Fixed → ⊥
    apart_any e = let z : ◌≡◌ {A = ℕ} 0 1 = cc in omega arith

    apart_all : AllOf ≡ Fixed → ⊥
    apart_all e = let z : ◌≡◌ {A = ℕ} 0 1 = cc in omega arith

other_code : (c : ℕ) → (kind_of c ≡ Fixed → ⊥) → c ≡ 2 → ⊥
other_code c n e = n (ap kind_of e)

module _ {A : Algebra} (L : Laws A) (n : ℕ) (bs : List ℕ) (w : WellFormed A n bs) where
  -- the ranges of edges rise
  rising : (d i : ℕ) → i + d < (header_of bs).nodes → (node_row bs (header_of bs) i).first ≤ (node_row bs (header_of bs) (i + d)).first
  rising zero i lt = let e : i + 0 ≡ i = omega arith in omega (arith, ap (λ x. (node_row bs (header_of bs) x).first) e)
  rising (suc d) i lt =
      let e : i + suc d ≡ i + d + 1 = omega arith in
      omega (arith, ap (λ x. (node_row bs (header_of bs) x).first) e, w.ranges.follows (i + d) (omega arith), rising d i (omega arith))

  -- an edge has one owner
  before : (i q k : ℕ) → i < q → q < (header_of bs).nodes → k < (node_row bs (header_of bs) i).first + (node_row bs (header_of bs) i).count → (node_row bs (header_of bs) q).first ≤ k → ⊥
  before i q k lt q_in low high =
      let d = q - (i + 1) in
      let e : i + 1 + d ≡ q = omega arith in
      omega (arith, w.ranges.follows i (omega arith), rising d (i + 1) (omega arith), ap (λ x. (node_row bs (header_of bs) x).first) e)

  one_owner : (i q k : ℕ) → i < (header_of bs).nodes → q < (header_of bs).nodes
      → (node_row bs (header_of bs) i).first ≤ k → k < (node_row bs (header_of bs) i).first + (node_row bs (header_of bs) i).count
      → (node_row bs (header_of bs) q).first ≤ k → k < (node_row bs (header_of bs) q).first + (node_row bs (header_of bs) q).count → i ≡ q
  one_owner i q k i-in q_in a b c d =
      ⊎_elim
      (λ lt. absurd (before i q k lt q_in b c))
      (λ ge. ⊎_elim (λ lt. absurd (before q i k lt i-in d a)) (λ le. omega arith) (cases_lt q i))
      (cases_lt i q)

  -- a rule of the book has a participant
  rule_at_is : (r : ℕ) → r < (header_of bs).rules → rule_of (book_of bs) r ≡ rule_row bs (header_of bs) r
  rule_at_is r lt = get_or-map-range_with_len (rule_row bs (header_of bs)) 0 (header_of bs).rules r r idle_rule lt (omega arith)

  pub label_is : (r p : ℕ) → p < (header_of bs).places → label (rule_row bs (header_of bs) r) p ≡ rule_label bs (header_of bs) r p
  label_is r p lt =
      let near : p < 8 = omega (arith, w.header.places.1) in
      ap (λ b. cond b (get_or (map (rule_asks bs (header_of bs) r) (range_with_len 0 8)) p 0) none) (lt-ltb p 8 near)
      ∙ get_or-map-range_with_len (rule_asks bs (header_of bs) r) 0 8 p p 0 near (omega arith)
      ∙ ap (λ b. cond b (rule_label bs (header_of bs) r p) none) (lt-ltb p (header_of bs).places lt)

  guards : (r : ℕ) → r < (header_of bs).rules → Guards (book_of bs) (places_of bs) (By r)
  guards r lt =
      let fine = (w.rules r lt).participant in
      let p = fine.0 in
      let here : places_of bs p ≡ true = all_left_is (header_of bs).places p ∙ lt-ltb p (header_of bs).places fine.1 in
      let is : label (rule_of (book_of bs) r) p ≡ rule_label bs (header_of bs) r p = ap (λ x. label x p) (rule_at_is r lt) ∙ label_is r p fine.1 in
      let part : takes_part (rule_of (book_of bs) r) p ≡ true = not_from_false (eqb (label (rule_of (book_of bs) r) p) none) (ne_eqb (label (rule_of (book_of bs) r) p) none (λ e. fine.2 (sym is ∙ e))) in
      (p, and_from (places_of bs p) (takes_part (rule_of (book_of bs) r) p) here part)

  -- an edge that comes of a formula edge
  opened_fits : (q k : ℕ) (e : Edge) → q < (header_of bs).nodes → (node_row bs (header_of bs) q).first ≤ k → k < (node_row bs (header_of bs) q).first + (node_row bs (header_of bs) q).count
      → In e (opened_edge A (book_of bs).rules (edge_row bs (header_of bs) k)) → EdgeFits A (book_of bs) (places_of bs) (formula_graph A bs) q e
  opened_fits q k e q_in low high h =
      let few : k < (header_of bs).edges = omega (arith, (w.nodes q q_in).ends) in
      let fine = w.edges k few in
      let o = fine.owner in
      let same : o.0 ≡ q = one_owner o.0 q k o.1.within q_in o.1.begun o.1.before low high in
      let rise : (node_row bs (header_of bs) q).block ≤ (node_row bs (header_of bs) (edge_row bs (header_of bs) k).target).block = subst (λ x. (node_row bs (header_of bs) x).block ≤ (node_row bs (header_of bs) (edge_row bs (header_of bs) k).target).block) same o.2 in
      let good : (d : Edge) → d.weight ≡ A.highest → d.target ≡ (edge_row bs (header_of bs) k).target → Guards (book_of bs) (places_of bs) d.guard → EdgeFits A (book_of bs) (places_of bs) (formula_graph A bs) q d =
      λ d a b g. record { weight = rw a L.highest_value; target = rw b fine.target; block = rw b rise; guard = g } in
      ⊎_elim
      (λ plain.
      let one = subst (λ b. In e (cond b (record { guard = Plain; weight = A.highest; target = (edge_row bs (header_of bs) k).target } ∷ []) (map (λ r. record { guard = By r; weight = A.highest; target = (edge_row bs (header_of bs) k).target }) (rules_for (edge_row bs (header_of bs) k).label 0 (book_of bs).rules)))) plain h in
      ⊎_elim
      (λ (is : e ≡ record { guard = Plain; weight = A.highest; target = (edge_row bs (header_of bs) k).target }). good e (ap (λ (d : Edge). d.weight) is) (ap (λ (d : Edge). d.target) is) (rw (ap (λ (d : Edge). d.guard) is) tt))
      (λ no_more. absurd no_more)
      one)
      (λ ruled.
      let some = subst (λ b. In e (cond b (record { guard = Plain; weight = A.highest; target = (edge_row bs (header_of bs) k).target } ∷ []) (map (λ r. record { guard = By r; weight = A.highest; target = (edge_row bs (header_of bs) k).target }) (rules_for (edge_row bs (header_of bs) k).label 0 (book_of bs).rules)))) ruled h in
      let r = of_map (λ r. record { guard = By r; weight = A.highest; target = (edge_row bs (header_of bs) k).target }) e (rules_for (edge_row bs (header_of bs) k).label 0 (book_of bs).rules) some in
      let below : r.0 < (header_of bs).rules = omega (arith, (of_rules (edge_row bs (header_of bs) k).label 0 (book_of bs).rules r.0 r.1).1, length-map-range_with_len (rule_row bs (header_of bs)) 0 (header_of bs).rules) in
      good e (ap (λ (d : Edge). d.weight) r.2) (ap (λ (d : Edge). d.target) r.2) (rw (ap (λ (d : Edge). d.guard) r.2) (guards r.0 below)))
      (cases_Bool (eqb (edge_row bs (header_of bs) k).label none))

  pub formula_formed : WellFormedGraph A (book_of bs) (places_of bs) (formula_graph A bs)
  formula_formed = record {
    places = λ p t. ltb-true p (header_of bs).places (sym (all_left_is (header_of bs).places p) ∙ t);
    blocks = λ q lt. rw (length-map-range_with_len (block_sign bs (header_of bs)) 0 (header_of bs).blocks) (w.nodes q lt).block;
    fixed = λ q lt e. ((w.nodes q lt).fixed (fixed_code (kind_byte bs (header_of bs) q) (w.nodes q lt).kind e)).0;
    edges = λ q lt e h.
        let o = of_gathered (λ k. opened_edge A (book_of bs).rules (edge_row bs (header_of bs) k)) e (range_with_len (node_row bs (header_of bs) q).first (node_row bs (header_of bs) q).count) h in
        let r = of_counting (node_row bs (header_of bs) q).first (node_row bs (header_of bs) q).count o.0 o.1 in
        opened_fits q o.0 e lt r.0 r.1 o.2;
  }

  pub formula_tidy : Tidy (formula_graph A bs)
  formula_tidy = record {
    fixed = λ q lt e. ap (λ k. gathered (λ x. opened_edge A (book_of bs).rules (edge_row bs (header_of bs) x)) (range_with_len (node_row bs (header_of bs) q).first k)) ((w.nodes q lt).fixed (fixed_code (kind_byte bs (header_of bs) q) (w.nodes q lt).kind e)).1;
    other = λ q lt ne. (w.nodes q lt).other (other_code (kind_byte bs (header_of bs) q) ne);
  }
