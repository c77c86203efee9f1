-- The rules and the edges of a case file: a check finds nothing exactly where its rule is kept.
use Rattle.std.proofs.Common.{◌≡◌, ℕ, zero, suc, zero-add, ap₂, ◌||◌, ◌+◌, ◌-◌, ◌<◌, Bool, true, false, not, eqb, List, is_some, Some, None, Option, sym, refl, ap, ◌∙◌, subst, arith}
use Rattle.std.specs.List.{list_any, range_with_len}
use Rattle.std.proofs.lemmas.Bool.{true≢false, or_from, or_parts, and_parts, not-true, not-false, not_from_true, not_from_false, leb-true, ltb-true, ltb-false, lt-ltb, le-ltb, eqb-true, eqb-false, eq-eqb, ne_eqb}
use Rattle.records.specs.Codes.{none}
use Rattle.fault.specs.First.{flag, or_else, earliest}
use Rattle.format.specs.Layout.{rule_label, rule_result, node_row}
use Rattle.casefile.specs.Refusal.{participant, has_participant, rule_fault, LaidOut, owns, owner, owner_wrong, owned_fault, edge_fault}
use Rattle.casefile.specs.WellFormed.{FineRule, Owner, FineEdge}
use Rattle.format.specs.declared.header.Header.{Header}
use Rattle.fault.proofs.First.{flag_off, flag_on, flag_failed, earliest_at, earliest_from, earliest_parts}
use Rattle.casefile.proofs.Ranges.{owner_of}

some_or : {X : Type 0} (o p : Option X) → is_some (or_else o p) ≡ (is_some o || is_some p)
some_or (Some x) p = refl
some_or None p = refl

some_flag : {X : Type 0} (b : Bool) (x : X) → is_some (flag b x) ≡ b
some_flag true x = refl
some_flag false x = refl

any_from : {X : Type 0} (test : ℕ → Bool) (f : ℕ → Option X) (a n : ℕ) → ((p : ℕ) → is_some (f p) ≡ test (a + p))
    → list_any test (range_with_len a n) ≡ is_some (earliest n f)
unfolding earliest
any_from test f a zero h = refl
any_from test f a (suc n) h =
    let e : suc n ≡ 1 + n = omega arith in
    let at : a ≡ a + 0 = omega arith in
    let later : (p : ℕ) → a + (1 + p) ≡ a + 1 + p = λ p. omega arith in
    let rest = any_from test (λ p. f (1 + p)) (a + 1) n (λ p. h (1 + p) ∙ ap test (later p)) in
    ap₂ (λ b c. b || c) (ap test at ∙ sym (h 0)) rest
    ∙ sym (ap (λ m. is_some (earliest m f)) e ∙ ap is_some (earliest_parts f 1 n) ∙ some_or (f 0) _)

-- one of the positions passes the test exactly where a first one is found
pub any_found : (test : ℕ → Bool) (n : ℕ) → list_any test (range_with_len 0 n) ≡ is_some (earliest n (λ p. flag (test p) p))
any_found test n = any_from test _ 0 n (λ p. rw zero-add (some_flag (test p) p))

-- a flag that is raised
flagged : {X : Type 0} (b : Bool) (x y : X) → flag b x ≡ Some y → (b ≡ true) × (x ≡ y)
flagged true x y h = (refl, cc)
flagged false x y h = let z : ◌≡◌ {A = ℕ} 0 1 = cc in absurd (omega arith)

found : {X : Type 0} (o : Option X) → is_some o ≡ true → (x : X) × (o ≡ Some x)
found (Some x) h = (x, refl)
found None h = absurd (true≢false (sym h))

seen : {X : Type 0} (o : Option X) → (o ≡ None → ⊥) → is_some o ≡ true
seen (Some x) h = refl
seen None h = absurd (h refl)

pub rule_fine : (bs : List ℕ) (h : Header) (r : ℕ) → rule_fault bs h r ≡ None → FineRule bs h r
rule_fine bs h r k =
    let tests = or_parts (not (has_participant bs h r)) (eqb (rule_result bs h r) none) (flag_failed _ _ k) in
    let first = found (earliest h.places (participant bs h r)) (not-false _ tests.0) in
    let at = earliest_from (participant bs h r) h.places first.0 first.1 in
    let raised = flagged (not (eqb (rule_label bs h r at.0) none)) _ _ at.2 in
    record {
      participant = (at.0, at.1, eqb-false _ _ (not-true _ raised.0));
      result = eqb-false _ _ tests.1;
    }

pub rule_none : (bs : List ℕ) (h : Header) (r : ℕ) → FineRule bs h r → rule_fault bs h r ≡ None
rule_none bs h r f =
    let p = f.participant.0 in
    let raised : participant bs h r p ≡ Some p = flag_on _ (not_from_false _ (ne_eqb _ _ f.participant.2)) in
    let some : has_participant bs h r ≡ true = seen _ (λ e.
    let lost : participant bs h r p ≡ None = earliest_at _ h.places p e f.participant.1 in
    let z : ◌≡◌ {A = ℕ} 0 1 = cc in omega arith) in
    flag_off _ (or_from _ _ (not_from_true _ some) (ne_eqb _ _ f.result))

-- the owner that the check finds has the edge
owner_fine : (bs : List ℕ) (h : Header) (e i : ℕ) → owner bs h e ≡ Some i → Owner bs h i e
owner_fine bs h e i k =
    let at = earliest_from (λ j. flag (owns bs h j e) j) h.nodes i k in
    let raised = flagged (owns bs h at.0 e) at.0 i at.2 in
    let both = and_parts _ _ raised.0 in
    let own : Owner bs h at.0 e = record { within = at.1; begun = leb-true _ _ both.0; before = ltb-true _ _ both.1 } in
    subst (λ j. Owner bs h j e) raised.1 own

owned_fine : (bs : List ℕ) (h : Header) (e : ℕ) (o : Option ℕ) → owner bs h e ≡ o → owned_fault bs h o e ≡ None → FineEdge bs h e
owned_fine bs h e (Some i) own k =
    let tests = or_parts _ (owner_wrong bs h e (Some i)) (flag_failed _ _ k) in
    let fields = or_parts _ _ tests.0 in
    record {
      target = ltb-true _ _ (not-false _ fields.0);
      gap = eqb-true _ _ (not-false _ fields.1);
      owner = (i, owner_fine bs h e i own, ltb-false _ _ tests.1);
    }
owned_fine bs h e None own k = absurd (true≢false (or_parts _ true (flag_failed _ _ k)).1)

pub edge_fine : (bs : List ℕ) (h : Header) (e : ℕ) → edge_fault bs h e ≡ None → FineEdge bs h e
edge_fine bs h e k = owned_fine bs h e (owner bs h e) refl k

-- where the ranges follow one another, the node that has the edge is the owner that the check finds
pub edge_none : (bs : List ℕ) (h : Header) → LaidOut bs h → (e : ℕ) → FineEdge bs h e → edge_fault bs h e ≡ None
edge_none bs h l e f =
    let i = f.owner.0 in
    let own = f.owner.1 in
    let same : (node_row bs h i).first + (e - (node_row bs h i).first) ≡ e = omega (arith, own.begun) in
    let inside : e - (node_row bs h i).first < (node_row bs h i).count = omega (arith, own.begun, own.before) in
    let found : owner bs h e ≡ Some i = rw same at (owner_of bs h l i (e - (node_row bs h i).first) own.within inside) in
    ap (λ o. owned_fault bs h o e) found
    ∙ flag_off _ (or_from _ _ (or_from _ _ (not_from_true _ (lt-ltb _ _ f.target)) (not_from_true _ (eq-eqb _ _ f.gap))) (le-ltb _ _ f.owner.2))
