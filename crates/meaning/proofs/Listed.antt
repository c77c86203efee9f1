-- Tests over the numbers below n, and over a list, in the words of std's iterators.
use Rattle.std.proofs.Common.{◌≡◌, ℕ, zero, suc, ◌+◌, Bool, true, false, ◌||◌, ◌&&◌, Option, MatchOption, List, [], ◌∷◌, ◌++◌, refl, ap, ◌∙◌, arith}
use Rattle.std.specs.Fn.{Called}
use Rattle.std.specs.Iterator.{YieldsThen}
use Rattle.std.specs.List.{range_with_len, list_any, list_all, FoldsTo}
use Rattle.std.specs.declared.ops.Range.{Range}
use Rattle.std.proofs.iter.Yields.{nat_range_steps}
use Rattle.std.proofs.lemmas.Iterator.{YieldsList-from_range}
use Rattle.std.proofs.lemmas.Iterator.Search.{any_from_yields_List, all_from_yields_List}
use denote.Param.Members.{Mut}
use Rattle.std.proofs.lemmas.List.Folds.{list_any-append, list_all-append}
use Rattle.meaning.specs.Check.{all, every}
use Rattle.meaning.specs.Quotient.{any}

-- one number more at the end
range_more : (a n : ℕ) → range_with_len a (suc n) ≡ range_with_len a n ++ (a + n) ∷ []
range_more a zero = let e : a ≡ a + 0 = omega arith in ap (λ x. x ∷ []) e
range_more a (suc n) =
    let e : a + 1 + n ≡ a + suc n = omega arith in
    ap (λ l. a ∷ l) (range_more (a + 1) n ∙ ap (λ x. range_with_len (a + 1) n ++ x ∷ []) e)

counted_more : (n : ℕ) → range_with_len 0 (suc n) ≡ range_with_len 0 n ++ n ∷ []
counted_more n = let e : 0 + n ≡ n = omega arith in range_more 0 n ∙ ap (λ x. range_with_len 0 n ++ x ∷ []) e

or_none : (b : Bool) → (b || false) ≡ b
or_none true = refl
or_none false = refl

and_more : (b : Bool) → (b && true) ≡ b
and_more true = refl
and_more false = refl

pub any_listed : (n : ℕ) (t : ℕ → Bool) → list_any t (range_with_len 0 n) ≡ any n t
any_listed zero t = refl
any_listed (suc n) t =
    ap (list_any t) (counted_more n) ∙ list_any-append t (range_with_len 0 n) (n ∷ [])
    ∙ ap (λ b. b || (t n || false)) (any_listed n t) ∙ ap (λ b. any n t || b) (or_none (t n))

pub all_listed : (n : ℕ) (t : ℕ → Bool) → list_all t (range_with_len 0 n) ≡ all n t
all_listed zero t = refl
all_listed (suc n) t =
    ap (list_all t) (counted_more n) ∙ list_all-append t (range_with_len 0 n) (n ∷ [])
    ∙ ap (λ b. b && (t n && true)) (all_listed n t) ∙ ap (λ b. all n t && b) (and_more (t n))

pub every_listed : {X : Type 0} (t : X → Bool) (xs : List X) → list_all t xs ≡ every t xs
every_listed t [] = refl
every_listed t (x ∷ xs) = ap (λ b. t x && b) (every_listed t xs)

-- `any` and `all` over the numbers below n, with a closure that no call changes and that computes the test
module _ {F : Type 0} {g : Mut F (ℕ × Unit {0}) Bool} {s : Range ℕ} (n : ℕ) (test : ℕ → Bool) (u : Range ℕ) (f : F) (r : Bool) (from : s ≡ record { start = 0; end = n })
    (computes : (x : ℕ) (b : Bool) (q : F) → Called g f (x, tt) b q → (q ≡ f) × (b ≡ test x)) where
  pub any_below : (xs : List ℕ) × (o : Option ℕ) × (j : F) × YieldsThen nat_range_steps s xs o u × FoldsTo (λ p x q. Called g p (x, tt) false q) f xs j
      × MatchOption o (r ≡ false) (λ x. (r ≡ true) × ((h : F) × Called g j (x, tt) true h)) → r ≡ any n test
  any_below ran = any_from_yields_List test u f r ran (YieldsList-from_range 0 n n from (omega arith)) computes ∙ any_listed n test

  pub all_below : (xs : List ℕ) × (o : Option ℕ) × (j : F) × YieldsThen nat_range_steps s xs o u × FoldsTo (λ p x q. Called g p (x, tt) true q) f xs j
      × MatchOption o (r ≡ true) (λ x. (r ≡ false) × ((h : F) × Called g j (x, tt) false h)) → r ≡ all n test
  all_below ran = all_from_yields_List test u f r ran (YieldsList-from_range 0 n n from (omega arith)) computes ∙ all_listed n test
