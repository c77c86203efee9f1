-- What a read of the memories and of the rule book answers.
use Rattle.std.proofs.Common.{◌≡◌, ℕ, zero, suc, ◌+◌, ◌-◌, ◌≤◌, Bool, false, cond, not, ◌&&◌, eqb, List, length, get_or, take, drop, Some, refl, ap, ◌∙◌, arith, Bor}
use Rattle.std.specs.Slice.{IsGetResult}
use Rattle.std.proofs.lemmas.List.{get_or_read, get_or_past}
use Rattle.std.proofs.lemmas.Bool.{le-ltb, or_from, and_right}
use Rattle.records.specs.Codes.{none, takes_part}
use Rattle.records.specs.declared.Node.{Node}
use Rattle.records.specs.declared.Rule.{Rule}
use Rattle.meaning.specs.Network.{Book, Places, counts, idle_rule, rule_of}
use Rattle.meaning.specs.Quotient.{any}
use Rattle.calls.specs.Memory.{Memory, edges_of}

-- what is cut from a memory between the first edge of a node and the end of its edges
pub part_is : (m : Memory) (n x : Node) (end : ℕ) → x ≡ n → end ≡ x.first + x.count → take (end - x.first) (drop x.first m.edges) ≡ edges_of m n
part_is m n x end same ends =
    let many : end - x.first ≡ x.count = omega arith in
    ap (λ k. take k (drop x.first m.edges)) many ∙ ap (edges_of m) same

-- a place counts where it is left and takes part in the rule that was found by its number
pub counts_found : (B : Book) (left : Places) (n p i : ℕ) (rules : List Rule) (x : Bor Rule) → rules ≡ B.rules → i ≡ n → IsGetResult rules i i (Some x) → (left p && takes_part x.now p) ≡ counts B left n p
counts_found B left n p i rules x all same h =
    ap (λ y. left p && takes_part y p) (get_or_read rules i x.now h.3.0 h.1 idle_rule ∙ ap (λ l. get_or l i idle_rule) all ∙ ap (rule_of B) same)

idle : (p : ℕ) → takes_part idle_rule p ≡ false
idle zero = refl
idle (suc zero) = refl
idle (suc (suc zero)) = refl
idle (suc (suc (suc zero))) = refl
idle (suc (suc (suc (suc zero)))) = refl
idle (suc (suc (suc (suc (suc zero))))) = refl
idle (suc (suc (suc (suc (suc (suc zero)))))) = refl
idle (suc (suc (suc (suc (suc (suc (suc zero))))))) = refl
idle (suc (suc (suc (suc (suc (suc (suc (suc p)))))))) =
    let q = suc (suc (suc (suc (suc (suc (suc (suc p))))))) in
    ap (λ b. not (eqb (cond b (get_or idle_rule.labels q 0) none) none)) (le-ltb q 8 (omega arith))

any_none : (t : ℕ → Bool) (n : ℕ) → ((i : ℕ) → t i ≡ false) → any n t ≡ false
any_none t zero h = refl
any_none t (suc n) h = or_from (any n t) (t n) (any_none t n h) (h n)

-- no place counts in a rule past the last
pub past_rules : (B : Book) (left : Places) (n k : ℕ) → length B.rules ≤ n → any k (counts B left n) ≡ false
past_rules B left n k h =
    any_none (counts B left n) k
    (λ p. and_right (left p) (takes_part (rule_of B n) p) (ap (λ x. takes_part x p) (get_or_past B.rules n idle_rule h) ∙ idle p))
