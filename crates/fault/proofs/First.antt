-- The first of several faults, step by step.
use Rattle.std.proofs.Common.{◌≡◌, ℕ, zero, suc, ◌+◌, ◌-◌, ◌<◌, ◌≤◌, Bool, true, false, ◌⊎◌, IsErrAnd, Some, None, Ok, Err, Option, Result, sym, refl, ap, ◌∙◌, inl, inr, add-zero, add-suc, suc-add, zero-add, add-one, arith}
use Rattle.std.proofs.lemmas.Bool.{cases_eq, cond-true, cond-false}
use Rattle.fault.specs.First.{flag, or_else, earliest, Answers}

-- a test that fails finds nothing, and one that holds finds its fault
pub flag_off : {X : Type 0} {b : Bool} (x : X) → b ≡ false → flag b x ≡ None
flag_off x h = cond-false _ (Some x) None h

pub flag_on : {X : Type 0} {b : Bool} (x : X) → b ≡ true → flag b x ≡ Some x
flag_on x h = cond-true _ (Some x) None h

pub flag_failed : {X : Type 0} (b : Bool) (x : X) → flag b x ≡ None → b ≡ false
flag_failed true x h = let z : ◌≡◌ {A = ℕ} 0 1 = cc in absurd (omega arith)
flag_failed false x h = refl

-- the first check finds it
pub first_here : {X : Type 0} (o p : Option X) {x : X} → o ≡ Some x → or_else o p ≡ Some x
first_here o p h = ap (λ o. or_else o p) h

-- the first check finds nothing, so the rest decides
pub first_later : {X : Type 0} (o p : Option X) {q : Option X} → o ≡ None → p ≡ q → or_else o p ≡ q
first_later o p h k = ap (λ o. or_else o p) h ∙ k

-- both find nothing
pub neither : {X : Type 0} (o p : Option X) → or_else o p ≡ None → (o ≡ None) × (p ≡ None)
neither (Some x) p h = let z : ◌≡◌ {A = ℕ} 0 1 = cc in absurd (omega arith)
neither None p h = (refl, h)

-- what is found is found by one of them
cases_or : {X : Type 0} (o p : Option X) (x : X) → or_else o p ≡ Some x → (o ≡ Some x) ⊎ (p ≡ Some x)
cases_or (Some y) p x h = inl h
cases_or None p x h = inr h

-- nothing at any position below 0, and one position more
pub earliest_none : {X : Type 0} (f : ℕ → Option X) → earliest 0 f ≡ None
unfolding earliest
earliest_none f = refl

pub earliest_more : {X : Type 0} (f : ℕ → Option X) (i : ℕ) → earliest i f ≡ None → f i ≡ None → earliest (i + 1) f ≡ None
unfolding earliest
earliest_more f i h k = rw add-one (first_later _ _ h k)

-- what is found at a position stays the first, whatever follows
earliest_stays : {X : Type 0} (f : ℕ → Option X) (x : X) (i d : ℕ) → earliest i f ≡ Some x → earliest (d + i) f ≡ Some x
unfolding earliest
earliest_stays f x i zero h = rw zero-add h
earliest_stays f x i (suc d) h = rw suc-add (first_here _ _ (earliest_stays f x i d h))

pub earliest_found : {X : Type 0} (f : ℕ → Option X) (i n : ℕ) (x : X) → earliest i f ≡ None → f i ≡ Some x → i < n → earliest n f ≡ Some x
unfolding earliest
earliest_found f i n x h k l =
    let e : (n - suc i) + suc i ≡ n = omega arith in
    rw e at (earliest_stays f x (suc i) (n - suc i) (first_later _ _ h k))

-- a check that finds nothing finds nothing at any position
pub earliest_at : {X : Type 0} (f : ℕ → Option X) (n k : ℕ) → earliest n f ≡ None → k < n → f k ≡ None
unfolding earliest
earliest_at f zero k h l = absurd (omega arith)
earliest_at f (suc n) k h l =
    let p = neither (earliest n f) (f n) h in
    elim (cases_eq k n) [ inl e ↦ rw e p.1 | inr other ↦ earliest_at f n k p.0 (omega arith) ]

pub earliest_all : {X : Type 0} (f : ℕ → Option X) (n : ℕ) → ((k : ℕ) → k < n → f k ≡ None) → earliest n f ≡ None
unfolding earliest
earliest_all f zero h = refl
earliest_all f (suc n) h = first_later _ _ (earliest_all f n (λ k l. h k (omega arith))) (h n (omega arith))

-- what is found is found at some position
pub earliest_from : {X : Type 0} (f : ℕ → Option X) (n : ℕ) (x : X) → earliest n f ≡ Some x → (k : ℕ) × (k < n) × (f k ≡ Some x)
unfolding earliest
earliest_from f zero x h = let z : ◌≡◌ {A = ℕ} 0 1 = cc in absurd (omega arith)
earliest_from f (suc n) x h = elim (cases_or (earliest n f) (f n) x h) [
  | inl before ↦ let at = earliest_from f n x before in (at.0, omega arith, at.2)
  | inr here ↦ (n, omega arith, here)
]

pub earliest_past : {X : Type 0} (f : ℕ → Option X) (x : X) (i n : ℕ) → earliest i f ≡ Some x → i ≤ n → earliest n f ≡ Some x
earliest_past f x i n h l =
    let e : (n - i) + i ≡ n = omega arith in
    rw e at (earliest_stays f x i (n - i) h)

-- the positions in two parts
or_else_none : {X : Type 0} (o : Option X) → or_else o None ≡ o
or_else_none (Some x) = refl
or_else_none None = refl

or_else_assoc : {X : Type 0} (o p q : Option X) → or_else (or_else o p) q ≡ or_else o (or_else p q)
or_else_assoc (Some x) p q = refl
or_else_assoc None p q = refl

pub earliest_parts : {X : Type 0} (f : ℕ → Option X) (a n : ℕ) → earliest (a + n) f ≡ or_else (earliest a f) (earliest n (λ k. f (a + k)))
unfolding earliest
earliest_parts f a zero = rw add-zero (sym (or_else_none (earliest a f)))
earliest_parts f a (suc n) =
    rw add-suc (ap (λ o. or_else o (f (a + n))) (earliest_parts f a n)
    ∙ or_else_assoc (earliest a f) (earliest n (λ k. f (a + k))) (f (a + n)))

-- checks that agree at every position
pub earliest_same : {X : Type 0} (f g : ℕ → Option X) (n : ℕ) → ((k : ℕ) → k < n → f k ≡ g k) → earliest n f ≡ earliest n g
unfolding earliest
earliest_same f g zero h = refl
earliest_same f g (suc n) h =
    let first : earliest n f ≡ earliest n g = earliest_same f g n (λ k l. h k (omega arith)) in
    let last : f n ≡ g n = h n (omega arith) in
    rw (first, last)

-- what comes through a `?` is the answer
pub passed_up : {T E : Type 0} {o : Option E} {x : E} (P : T → Type 0) (r : Result T E) → IsErrAnd r (λ y. y ≡ x) → o ≡ Some x → Answers o P r
passed_up P (Ok y) h k = absurd h
passed_up P (Err e) h k = k ∙ ap Some (sym h)
