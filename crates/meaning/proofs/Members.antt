-- What is among the elements of lists made from other lists.
use Rattle.std.proofs.Common.{◌≡◌, Bool, true, false, cond, ◌⊎◌, List, [], ◌∷◌, ◌++◌, map, sym, refl, ap, ◌∙◌, subst, inl, inr, ⊎_elim}
use Rattle.meaning.specs.Member.{In}
use Rattle.meaning.specs.Quotient.{kept, gathered}

pub in_left : {X : Type 0} (x : X) (xs ys : List X) → In x xs → In x (xs ++ ys)
in_left x [] ys h = absurd h
in_left x (y ∷ xs) ys (inl e) = inl e
in_left x (y ∷ xs) ys (inr h) = inr (in_left x xs ys h)

pub in_right : {X : Type 0} (x : X) (xs ys : List X) → In x ys → In x (xs ++ ys)
in_right x [] ys h = h
in_right x (y ∷ xs) ys h = inr (in_right x xs ys h)

pub in_either : {X : Type 0} (x : X) (xs ys : List X) → In x (xs ++ ys) → In x xs ⊎ In x ys
in_either x [] ys h = inr h
in_either x (y ∷ xs) ys (inl e) = inl (inl e)
in_either x (y ∷ xs) ys (inr h) = ⊎_elim (λ k. inl (inr k)) inr (in_either x xs ys h)

pub in_map : {X Y : Type 0} (f : X → Y) (x : X) (xs : List X) → In x xs → In (f x) (map f xs)
in_map f x [] h = absurd h
in_map f x (y ∷ xs) (inl e) = inl (ap f e)
in_map f x (y ∷ xs) (inr h) = inr (in_map f x xs h)

pub of_map : {X Y : Type 0} (f : X → Y) (y : Y) (xs : List X) → In y (map f xs) → (x : X) × In x xs × (y ≡ f x)
of_map f y [] h = absurd h
of_map f y (x ∷ xs) (inl e) = (x, inl refl, e)
of_map f y (x ∷ xs) (inr h) = let r = of_map f y xs h in (r.0, inr r.1, r.2)

pub in_kept : {X : Type 0} (t : X → Bool) (x : X) (xs : List X) → In x xs → t x ≡ true → In x (kept t xs)
in_kept t x [] h p = absurd h
in_kept {X} t x (y ∷ xs) (inl e) p = subst (λ b. In x (cond b (y ∷ kept t xs) (kept t xs))) (sym (ap t (sym e) ∙ p)) (inl e)
in_kept {X} t x (y ∷ xs) (inr h) p = go (t y) (in_kept t x xs h p)
  where
    go : (b : Bool) → In x (kept t xs) → In x (cond b (y ∷ kept t xs) (kept t xs))
    go true k = inr k
    go false k = k

pub of_kept : {X : Type 0} (t : X → Bool) (x : X) (xs : List X) → In x (kept t xs) → In x xs × (t x ≡ true)
of_kept t x [] h = absurd h
of_kept {X} t x (y ∷ xs) h = go (t y) refl (of_kept t x xs) h
  where
    go : (b : Bool) → t y ≡ b → (In x (kept t xs) → In x xs × (t x ≡ true)) → In x (cond b (y ∷ kept t xs) (kept t xs)) → In x (y ∷ xs) × (t x ≡ true)
    go true e more (inl f) = (inl f, ap t f ∙ e)
    go true e more (inr k) = (inr (more k).0, (more k).1)
    go false e more k = (inr (more k).0, (more k).1)

pub in_gathered : {X Y : Type 0} (f : X → List Y) (y : Y) (x : X) (xs : List X) → In x xs → In y (f x) → In y (gathered f xs)
in_gathered f y x [] h k = absurd h
in_gathered f y x (z ∷ xs) (inl e) k = in_left y (f z) (gathered f xs) (subst (λ w. In y (f w)) e k)
in_gathered f y x (z ∷ xs) (inr h) k = in_right y (f z) (gathered f xs) (in_gathered f y x xs h k)

pub of_gathered : {X Y : Type 0} (f : X → List Y) (y : Y) (xs : List X) → In y (gathered f xs) → (x : X) × In x xs × In y (f x)
of_gathered f y [] h = absurd h
of_gathered f y (z ∷ xs) h =
    ⊎_elim (λ k. (z, inl refl, k)) (λ k. let r = of_gathered f y xs k in (r.0, inr r.1, r.2)) (in_either y (f z) (gathered f xs) h)
