-- The rules with a result, one rule after another.
use Rattle.std.proofs.Common.{◌≡◌, ℕ, zero, suc, ◌+◌, ◌<◌, ◌≤◌, Bool, true, false, cond, eqb, List, [], ◌∷◌, ◌++◌, map, length, get_or, take, drop, set, sym, refl, ap, ◌∙◌, add-zero, arith, length-append}
use mathlib.Core.List.{map-append}
use Rattle.std.specs.List.{range_with_len, filter, sum_by}
use Rattle.std.proofs.lemmas.List.{length-map, take-append-drop, take_more, length-take-le, append-nil}
use Rattle.std.proofs.lemmas.List.FromFn.{length-range_with_len}
use Rattle.std.proofs.lemmas.List.Sums.{length-filter, count_by-le-length}
use Rattle.std.proofs.lemmas.Bool.{cond-true, cond-false, eq-eqb, ne_eqb}
use Rattle.records.specs.declared.Edge.{Edge}
use Rattle.records.specs.declared.Node.{Node}
use Rattle.records.specs.declared.Rule.{Rule}
use Rattle.scale.specs.Algebra.{Algebra}
use Rattle.format.specs.Layout.{edge_row, node_row}
use Rattle.format.specs.declared.header.Header.{Header}
use Rattle.meaning.specs.Quotient.{gathered}
use Rattle.calls.specs.Memory.{over}
use Rattle.calls.specs.Opening.{book_in, rules_for, opened_edge, formula_in}
use Rattle.writing.proofs.Filling.{gathered_more, over_one}
use Rattle.opening.specs.Ruled.{ruled}

-- the number n, where the rule has the result
abbrev pub one_for : ℕ → ℕ → Rule → List ℕ
one_for label n r = cond (eqb r.result label) (n ∷ []) []

-- the rules in two parts
pub rules_for_append : (label n : ℕ) (rs ss : List Rule) → rules_for label n (rs ++ ss) ≡ rules_for label n rs ++ rules_for label (n + length rs) ss
rules_for_append label n [] ss = ap (λ k. rules_for label k ss) (sym (add-zero n))
rules_for_append label n (x ∷ rs) ss =
    let e : n + 1 + length rs ≡ n + suc (length rs) = omega arith in
    go (eqb x.result label) (rules_for_append label (n + 1) rs ss ∙ ap (λ k. rules_for label (n + 1) rs ++ rules_for label k ss) e)
  where
    go : (b : Bool) → rules_for label (n + 1) (rs ++ ss) ≡ rules_for label (n + 1) rs ++ rules_for label (n + suc (length rs)) ss
        → cond b (n ∷ rules_for label (n + 1) (rs ++ ss)) (rules_for label (n + 1) (rs ++ ss)) ≡ cond b (n ∷ rules_for label (n + 1) rs) (rules_for label (n + 1) rs) ++ rules_for label (n + suc (length rs)) ss
    go true later = ap (λ l. n ∷ l) later
    go false later = later

-- one rule more at the end
pub rules_for_more : (label n : ℕ) (rs : List Rule) (r : Rule) → rules_for label n (rs ++ r ∷ []) ≡ rules_for label n rs ++ one_for label (n + length rs) r
rules_for_more label n rs r = rules_for_append label n rs (r ∷ [])

-- those of the first rules are among all
pub rules_within : (label i : ℕ) (rs : List Rule) → length (rules_for label 0 (take i rs)) ≤ length (rules_for label 0 rs)
rules_within label i rs =
    omega (arith, ap (λ l. length (rules_for label 0 l)) (take-append-drop i rs), ap length (rules_for_append label 0 (take i rs) (drop i rs)), length-append (rules_for label 0 (take i rs)) (rules_for label (0 + length (take i rs)) (drop i rs)))

-- those among rules that are made from their numbers
pub rules_counted : (row : ℕ → Rule) (label a n : ℕ) → rules_for label a (map row (range_with_len a n)) ≡ filter (λ r. eqb (row r).result label) (range_with_len a n)
rules_counted row label a zero = refl
rules_counted row label a (suc n) = go (eqb (row a).result label) (rules_counted row label (a + 1) n)
  where
    go : (b : Bool) {xs ys : List ℕ} → xs ≡ ys → cond b (a ∷ xs) xs ≡ cond b (a ∷ ys) ys
    go true e = ap (λ l. a ∷ l) e
    go false e = e

-- 1 for a rule that has the result, 0 for any other
abbrev pub hit : (ℕ → Rule) → ℕ → ℕ → ℕ
hit row label r = cond (eqb (row r).result label) 1 0

-- how many they are, as a sum over all
pub rules_summed : (row : ℕ → Rule) (label n : ℕ) → sum_by (hit row label) (range_with_len 0 n) ≡ length (rules_for label 0 (map row (range_with_len 0 n)))
rules_summed row label n = sym (length-filter (λ r. eqb (row r).result label) (range_with_len 0 n)) ∙ ap length (sym (rules_counted row label 0 n))

pub rules_few : (row : ℕ → Rule) (label n : ℕ) → sum_by (hit row label) (range_with_len 0 n) ≤ n
rules_few row label n = omega (arith, count_by-le-length (λ r. eqb (row r).result label) (range_with_len 0 n), length-range_with_len 0 n)

-- the size of what is gathered, with the next piece
pub sum_more : {Y : Type 0} (f : ℕ → List Y) (a k total more : ℕ) → total ≡ length (gathered f (range_with_len a k)) → more ≡ length (f (a + k)) → total + more ≡ length (gathered f (range_with_len a (k + 1)))
sum_more f a k total more so_far is = omega (arith, ap length (gathered_more f a k), length-append (gathered f (range_with_len a k)) (f (a + k)))

-- what is read where there is no rule
abbrev pub no_rule : Rule
no_rule = record { labels = []; result = 0 }

-- the turn of a loop over the rules: a rule with the result adds its number, any other nothing
module _ (label : ℕ) (rs : List Rule) (i : ℕ) (within : i < length rs) where
  one_more : rules_for label 0 (take (i + 1) rs) ≡ rules_for label 0 (take i rs) ++ one_for label i (get_or rs i no_rule)
  one_more =
      let here : 0 + length (take i rs) ≡ i = omega (arith, length-take-le i rs (omega arith)) in
      ap (rules_for label 0) (take_more rs i no_rule within) ∙ rules_for_more label 0 (take i rs) (get_or rs i no_rule) ∙ ap (λ k. rules_for label 0 (take i rs) ++ one_for label k (get_or rs i no_rule)) here

  pub turn_taken : (get_or rs i no_rule).result ≡ label → rules_for label 0 (take (i + 1) rs) ≡ rules_for label 0 (take i rs) ++ i ∷ []
  turn_taken h = one_more ∙ ap (λ l. rules_for label 0 (take i rs) ++ l) (cond-true (eqb (get_or rs i no_rule).result label) (i ∷ []) [] (eq-eqb (get_or rs i no_rule).result label h))

  pub turn_left : ((get_or rs i no_rule).result ≡ label → ⊥) → rules_for label 0 (take (i + 1) rs) ≡ rules_for label 0 (take i rs)
  turn_left h = one_more ∙ ap (λ l. rules_for label 0 (take i rs) ++ l) (cond-false (eqb (get_or rs i no_rule).result label) (i ∷ []) [] (ne_eqb (get_or rs i no_rule).result label h)) ∙ append-nil (rules_for label 0 (take i rs))

  -- there is room for one more
  pub room_left : (get_or rs i no_rule).result ≡ label → length (rules_for label 0 (take i rs)) + 1 ≤ length (rules_for label 0 rs)
  room_left h = omega (arith, rules_within label (i + 1) rs, ap length (turn_taken h), length-append (rules_for label 0 (take i rs)) (i ∷ []))

  -- what is written
  module _ (weight target count : ℕ) (before now : List Edge) (here : count ≡ length (rules_for label 0 (take i rs)))
      (so_far : now ≡ over (map (ruled weight target) (rules_for label 0 (take i rs))) before) where
    pub written_taken : length (rules_for label 0 rs) ≤ length before → (get_or rs i no_rule).result ≡ label
        → set now count (ruled weight target i) ≡ over (map (ruled weight target) (rules_for label 0 (take (i + 1) rs))) before
    written_taken room h =
        let out = map (ruled weight target) (rules_for label 0 (take i rs)) in
        let size = length-map (rules_for label 0 (take i rs)) (ruled weight target) in
        over_one count (ruled weight target i) out before now so_far (here ∙ sym size) (omega (arith, room_left h))
        ∙ ap (λ l. over l before) (sym (ap (map (ruled weight target)) (turn_taken h) ∙ map-append (ruled weight target) (rules_for label 0 (take i rs)) (i ∷ [])))

    pub end_taken : (get_or rs i no_rule).result ≡ label → count + 1 ≡ length (rules_for label 0 (take (i + 1) rs))
    end_taken h = omega (arith, ap length (turn_taken h), length-append (rules_for label 0 (take i rs)) (i ∷ []))

    pub end_left : ((get_or rs i no_rule).result ≡ label → ⊥) → count ≡ length (rules_for label 0 (take (i + 1) rs))
    end_left h = here ∙ ap length (sym (turn_left h))

    pub written_left : ((get_or rs i no_rule).result ≡ label → ⊥) → now ≡ over (map (ruled weight target) (rules_for label 0 (take (i + 1) rs))) before
    written_left h = so_far ∙ ap (λ l. over (map (ruled weight target) l) before) (sym (turn_left h))

-- what the formula edge of number e becomes
abbrev pub opened_at : Algebra → List Rule → List ℕ → Header → ℕ → List Edge
opened_at A rules bs h e = opened_edge A rules (edge_row bs h e)

-- the edges of a node, by the rules and the node as they are read
pub node_edges : (A : Algebra) (rules : List Rule) (bs : List ℕ) (h : Header) (q : ℕ) (n : Node) → rules ≡ (book_in bs h).rules → n ≡ node_row bs h q
    → gathered (opened_at A rules bs h) (range_with_len n.first n.count) ≡ (formula_in A bs h).edges q
node_edges A rules bs h q n is-rules is-node =
    ap (λ rs. gathered (opened_at A rs bs h) (range_with_len n.first n.count)) is-rules ∙ ap (λ x. gathered (opened_at A (book_in bs h).rules bs h) (range_with_len x.first x.count)) is-node
