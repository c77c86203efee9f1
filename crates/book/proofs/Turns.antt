-- A test over numbers that one of them passes, and a list that is filled by counting.
use Rattle.std.proofs.Common.{◌≡◌, ℕ, zero, suc, ◌+◌, ◌<◌, ◌≤◌, Bool, true, List, [], ◌∷◌, ◌++◌, map, sym, refl, ap, ◌∙◌, ⊎_elim, arith}
use Rattle.std.specs.List.{range_with_len}
use Rattle.std.proofs.lemmas.List.FromFn.{map-range_with_len_more}
use Rattle.std.proofs.lemmas.Bool.{cases_eq, or_left, or_right, and_from}
use Rattle.meaning.specs.Check.{all, every}
use Rattle.meaning.specs.Quotient.{any}
use Rattle.meaning.proofs.Check.{all_at}

pub any_found : (t : ℕ → Bool) (i n : ℕ) → i < n → t i ≡ true → any n t ≡ true
any_found t i zero lt h = absurd (omega arith)
any_found t i (suc n) lt h =
    ⊎_elim (λ e. or_right (any n t) (t n) (ap t (sym e) ∙ h)) (λ (ne : i ≡ n → ⊥). or_left (any n t) (t n) (any_found t i n (omega arith) h)) (cases_eq i n)

-- a test at every number of a list made by counting
pub every_counted : {X : Type 0} (t : X → Bool) (f : ℕ → X) (n a : ℕ) → ((i : ℕ) → a ≤ i → i < a + n → t (f i) ≡ true) → every t (map f (range_with_len a n)) ≡ true
every_counted t f zero a h = refl
every_counted t f (suc n) a h = and_from (t (f a)) (every t (map f (range_with_len (a + 1) n))) (h a (omega arith) (omega arith)) (every_counted t f n (a + 1) (λ i l u. h i (omega arith) (omega arith)))

-- a list that holds the first `i` of a count, with the next one pushed
pub pushed_next : {X : Type 0} (f : ℕ → X) (i : ℕ) (before after : List X) (x : X) → after ≡ before ++ x ∷ [] → x ≡ f i → before ≡ map f (range_with_len 0 i) → after ≡ map f (range_with_len 0 (i + 1))
pushed_next f i before after x push next so_far =
    push ∙ ap (λ y. before ++ y ∷ []) next ∙ ap (λ l. l ++ f i ∷ []) so_far ∙ sym (map-range_with_len_more f 0 i i (omega arith))

-- a list that holds all of a count passes a test that every one of the count passes
pub every_read : {X : Type 0} (t : X → Bool) (f : ℕ → X) (n : ℕ) (items : List X) → items ≡ map f (range_with_len 0 n) → all n (λ i. t (f i)) ≡ true → every t items ≡ true
every_read t f n items so h = ap (every t) so ∙ every_counted t f n 0 (λ i (l : 0 ≤ i) (u : i < 0 + n). all_at n (λ j. t (f j)) h i (omega arith))
