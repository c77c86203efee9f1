-- How a rule leads with a place and without it.
use Rattle.std.proofs.Common.{◌≡◌, ℕ, zero, suc, ◌<◌, Bool, true, false, cond, eqb, sym, refl, ap, ◌∙◌, subst, ⊎_elim, arith}
use mathlib.Core.Path.{fun_ext}
use Rattle.std.proofs.lemmas.Bool.{cases_eq, cases_Bool, eq-eqb, ne_eqb, or_cases, or_parts, true≢false}
use Rattle.process.specs.declared.Transition.{Transition}
use Rattle.scale.specs.Algebra.{Algebra, Laws, Value}
use Rattle.meaning.specs.Member.{In}
use Rattle.meaning.specs.Network.{Network, Places, State, Leads, meet_over, put}
use Rattle.meaning.specs.Quotient.{any}

pub put_same : (p s : ℕ) (g : State) → put p s g p ≡ s
put_same p s g = ap (λ b. cond b s (g p)) (eq-eqb p p refl)

pub put_other : (p s : ℕ) (g : State) (x : ℕ) → (x ≡ p → ⊥) → put p s g x ≡ g x
put_other p s g x n = ap (λ b. cond b s (g x)) (ne_eqb x p n)

-- what p held comes back
pub put_back : (p s : ℕ) (g : State) → put p (g p) (put p s g) ≡ g
put_back p s g = fun_ext λ x. ⊎_elim (λ e. rw e (put_same p (g p) (put p s g))) (λ n. put_other p (g p) (put p s g) x n ∙ put_other p s g x n) (cases_eq x p)

pub put_put : (p s r : ℕ) (g : State) → put p r (put p s g) ≡ put p r g
put_put p s r g = fun_ext λ x. ⊎_elim (λ e. rw e (put_same p r (put p s g) ∙ sym (put_same p r g))) (λ n. put_other p r (put p s g) x n ∙ put_other p s g x n ∙ sym (put_other p r g x n)) (cases_eq x p)

pub put_none : (p s : ℕ) (g : State) → g p ≡ s → put p s g ≡ g
put_none p s g h = fun_ext λ x. ⊎_elim (λ e. rw e (put_same p s g ∙ sym h)) (λ n. put_other p s g x n) (cases_eq x p)

pub any_true : (n : ℕ) (f : ℕ → Bool) → any n f ≡ true → (x : ℕ) × (f x ≡ true)
any_true zero f h = absurd (true≢false (sym h))
any_true (suc n) f h = ⊎_elim (any_true n f) (λ e. (n, e)) (or_cases (any n f) (f n) h)

pub any_false : (n : ℕ) (f : ℕ → Bool) → any n f ≡ false → (x : ℕ) → x < n → f x ≡ false
any_false zero f h x lt = absurd (omega arith)
any_false (suc n) f h x lt =
    let parts = or_parts (any n f) (f n) h in
    ⊎_elim (λ e. ap f e ∙ parts.1) (λ ne. any_false n f parts.0 x (omega arith)) (cases_eq x n)

cond_same : {X : Type 0} (b d : Bool) (x y z w : X) → b ≡ d → (b ≡ true → x ≡ y) → z ≡ w → cond b x z ≡ cond d y w
cond_same true true x y z w e f g = f refl
cond_same true false x y z w e f g = absurd (true≢false e)
cond_same false true x y z w e f g = absurd (true≢false (sym e))
cond_same false false x y z w e f g = g

module _ {A : Algebra} (L : Laws A) where
  pub meet_over_value : (k : ℕ) (c : Places) (w : ℕ → ℕ) → Value A (meet_over A k c w)
  meet_over_value zero c w = L.highest_value
  meet_over_value (suc k) c w =
      let P : ℕ → Type 0 = λ x. Value A x in
      ⊎_elim
      (λ e. subst (λ b. P (cond b (A.meet (meet_over A k c w) (w k)) (meet_over A k c w))) (sym e) (L.meet_value (meet_over A k c w) (w k)))
      (λ e. subst (λ b. P (cond b (A.meet (meet_over A k c w) (w k)) (meet_over A k c w))) (sym e) (meet_over_value k c w))
      (cases_Bool (c k))

  pub meet_over_same : (k : ℕ) (c d : Places) (v w : ℕ → ℕ) → ((x : ℕ) → x < k → c x ≡ d x) → ((x : ℕ) → x < k → c x ≡ true → v x ≡ w x) → meet_over A k c v ≡ meet_over A k d w
  meet_over_same zero c d v w e f = refl
  meet_over_same (suc k) c d v w e f =
      let below = meet_over_same k c d v w (λ x lt. e x (omega arith)) (λ x lt. f x (omega arith)) in
      cond_same (c k) (d k) _ _ _ _ (e k (omega arith)) (λ t. cc (below, f k (omega arith) t)) below

  pub meet_over_none : (k : ℕ) (c : Places) (w : ℕ → ℕ) → ((x : ℕ) → x < k → c x ≡ false) → meet_over A k c w ≡ A.highest
  meet_over_none zero c w h = refl
  meet_over_none (suc k) c w h = rw (h k (omega arith), meet_over_none k c w (λ x lt. h x (omega arith)))

  -- p's weight taken out
  pub meet_over_split : (k : ℕ) (c d : Places) (w : ℕ → ℕ) (p : ℕ) → p < k → ((x : ℕ) → c x ≡ true → Value A (w x)) → c p ≡ true → d p ≡ false → ((x : ℕ) → (x ≡ p → ⊥) → d x ≡ c x) → meet_over A k c w ≡ A.meet (meet_over A k d w) (w p)
  meet_over_split zero c d w p lt v t n o = absurd (omega arith)
  meet_over_split (suc k) c d w p lt v t n o =
      ⊎_elim
      (λ here.
      let rest : meet_over A k c w ≡ meet_over A k d w = meet_over_same k c d w w (λ x l. sym (o x (λ e. absurd (omega arith)))) (λ x l y. refl) in
      let t' : c k ≡ true = ap c (sym here) ∙ t in
      let n' : d k ≡ false = ap d (sym here) ∙ n in
      rw (t', n', rest, here))
      (λ other.
      let below = meet_over_split k c d w p (omega arith) v t n o in
      let same : d k ≡ c k = o k (λ e. other (sym e)) in
      let M = meet_over A k d w in
      ⊎_elim
      (λ u. let u' : d k ≡ true = same ∙ u in rw (u, u', below) (turn M (w p) (w k) (meet_over_value k d w) (v p t) (v k u)))
      (λ u. let u' : d k ≡ false = same ∙ u in rw (u, u') below)
      (cases_Bool (c k)))
      (cases_eq p k)
    where
      turn : (x y z : ℕ) → Value A x → Value A y → Value A z → A.meet (A.meet x y) z ≡ A.meet (A.meet x z) y
      turn x y z a b e = L.meet_assoc x y z a b e ∙ ap (A.meet x) (L.meet_comm y z) ∙ sym (L.meet_assoc x z y a e b)

-- The participants c, and d for c without place p.
module _ {A : Algebra} (L : Laws A) (N : Network) (c d : Places) (a : ℕ → ℕ) (p : ℕ) (gone : d p ≡ false) (rest : (x : ℕ) → (x ≡ p → ⊥) → d x ≡ c x) where
  apart : (x : ℕ) → d x ≡ true → x ≡ p → ⊥
  apart x t e = true≢false (sym t ∙ ap d e ∙ gone)

  counted : (x : ℕ) → d x ≡ true → c x ≡ true
  counted x t = sym (rest x (apart x t)) ∙ t

  -- the others' part of a way; s is what stands at p
  others : (g h : State) (u : ℕ) (w : Leads A N c a g h u) (s : ℕ) → Leads A N d a (put p s g) (put p s h) (meet_over A 8 d (λ x. (w.taken x).weight))
  others g h u w s = record {
    taken = w.taken;
    listed = λ x t. rw (put_other p s g x (apart x t)) (w.listed x (counted x t));
    labelled = λ x t. w.labelled x (counted x t);
    arrives = λ x t. w.arrives x (counted x t) ∙ sym (put_other p s h x (apart x t));
    stays = λ x f.
        ⊎_elim
        (λ e. rw e (put_same p s h ∙ sym (put_same p s g)))
        (λ n. put_other p s h x n ∙ w.stays x (sym (rest x n) ∙ f) ∙ sym (put_other p s g x n))
        (cases_eq x p);
    weighs = refl;
  }

  -- p takes no part: the way is that of the others
  module _ (idle : c p ≡ false) where
    same_places : (x : ℕ) → d x ≡ c x
    same_places x = ⊎_elim (λ e. ap d e ∙ gone ∙ sym idle ∙ ap c (sym e)) (rest x) (cases_eq x p)

    pub beside : (g h : State) (u s : ℕ) → Leads A N c a g h u → Leads A N d a (put p s g) (put p s h) u
    beside g h u s w =
        let e = w.weighs ∙ meet_over_same L 8 c d (λ x. (w.taken x).weight) (λ x. (w.taken x).weight) (λ x l. sym (same_places x)) (λ x l t. refl) in
        rw e (others g h u w s)

    pub beside_back : (g h : State) (u s : ℕ) → Leads A N d a (put p s g) h u → Leads A N c a g (put p (g p) h) u
    beside_back g h u s w = record {
      taken = w.taken;
      listed = λ x t. let n : x ≡ p → ⊥ = λ e. true≢false (sym t ∙ ap c e ∙ idle) in rw (put_other p s g x n) at (w.listed x (same_places x ∙ t));
      labelled = λ x t. w.labelled x (same_places x ∙ t);
      arrives = λ x t. let n : x ≡ p → ⊥ = λ e. true≢false (sym t ∙ ap c e ∙ idle) in w.arrives x (same_places x ∙ t) ∙ sym (put_other p (g p) h x n);
      stays = λ x f.
          ⊎_elim
          (λ e. rw e (put_same p (g p) h))
          (λ n. put_other p (g p) h x n ∙ w.stays x (same_places x ∙ f) ∙ put_other p s g x n)
          (cases_eq x p);
      weighs = w.weighs ∙ meet_over_same L 8 d c (λ x. (w.taken x).weight) (λ x. (w.taken x).weight) (λ x l. same_places x) (λ x l t. refl);
    }

  -- p takes part by a transition: the others' way, and p's weight
  module _ (part : c p ≡ true) (near : p < 8) where
    pub along : (g h : State) (u s : ℕ) (w : Leads A N c a g h u) → ((x : ℕ) → c x ≡ true → Value A (w.taken x).weight) → (v : ℕ) × Leads A N d a (put p s g) (put p s h) v × (u ≡ A.meet v (w.taken p).weight)
    along g h u s w values = (_, others g h u w s, w.weighs ∙ meet_over_split L 8 c d _ p near values part gone rest)

    pub along_back : (g h : State) (v s : ℕ) (t : Transition) → In t ((N p).transitions (g p)) → t.label ≡ a p → Value A t.weight → (w : Leads A N d a (put p s g) h v) → ((x : ℕ) → d x ≡ true → Value A (w.taken x).weight) → Leads A N c a g (put p t.target h) (A.meet v t.weight)
    along_back g h v s t listed labelled value w values =
        let chosen : ℕ → Transition = λ x. cond (eqb x p) t (w.taken x) in
        let here : (x : ℕ) → x ≡ p → chosen x ≡ t = λ x e. ap (λ b. cond b t (w.taken x)) (eq-eqb x p e) in
        let there : (x : ℕ) → (x ≡ p → ⊥) → chosen x ≡ w.taken x = λ x n. ap (λ b. cond b t (w.taken x)) (ne_eqb x p n) in
        record {
          taken = chosen;
          listed = λ x y.
              ⊎_elim
              (λ e. rw (here x e, e) listed)
              (λ n. rw (there x n) (rw (put_other p s g x n) at (w.listed x (rest x n ∙ y))))
              (cases_eq x p);
          labelled = λ x y. ⊎_elim (λ e. rw (here x e, e) labelled) (λ n. rw (there x n) (w.labelled x (rest x n ∙ y))) (cases_eq x p);
          arrives = λ x y.
              ⊎_elim
              (λ e. rw (here x e, e) (sym (put_same p t.target h)))
              (λ n. ap (λ z. z.target) (there x n) ∙ w.arrives x (rest x n ∙ y) ∙ sym (put_other p t.target h x n))
              (cases_eq x p);
          stays = λ x f.
              let n : x ≡ p → ⊥ = λ e. true≢false (sym part ∙ ap c (sym e) ∙ f) in
              put_other p t.target h x n ∙ w.stays x (rest x n ∙ f) ∙ put_other p s g x n;
          weighs =
              let values' : (x : ℕ) → c x ≡ true → Value A (chosen x).weight =
              λ x y. ⊎_elim (λ e. rw (here x e) value) (λ n. rw (there x n) (values x (rest x n ∙ y))) (cases_eq x p) in
              let split = meet_over_split L 8 c d (λ x. (chosen x).weight) p near values' part gone rest in
              let same = meet_over_same L 8 d d (λ x. (chosen x).weight) (λ x. (w.taken x).weight) (λ x l. refl) (λ x l y. ap (λ z. z.weight) (there x (apart x y))) in
              ap (λ z. A.meet z t.weight) (w.weighs ∙ sym same) ∙ ap (λ z. A.meet (meet_over A 8 d (λ x. (chosen x).weight)) z.weight) (sym (here p refl)) ∙ sym split;
        }
