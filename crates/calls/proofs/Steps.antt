-- What an accepted call keeps: the value at the beginning, on every network.
use Rattle.std.proofs.Common.{◌≡◌, ℕ, ◌^◌, ◌<◌, ◌≤◌, Bool, true, false, cond, eqb, List, sym, refl, ap, ◌∙◌, subst, ⊎_elim, mul_comm, arith, pow_mono}
use mathlib.Core.Path.{fun_ext}
use Rattle.std.proofs.lemmas.Nat.{mul-add-lt}
use Rattle.std.proofs.lemmas.Bool.{cases_eq, cases_Bool, or_cases, eqb-true, true≢false}
use Rattle.process.specs.Lts.{Lts}
use Rattle.records.specs.declared.Kind.{Kind}
use Rattle.records.specs.declared.Kind.TheVariants.{AnyOf, AllOf, Fixed}
use Rattle.scale.specs.Algebra.{Algebra, Laws}
use Rattle.meaning.specs.Fold.{fold_graph}
use Rattle.meaning.specs.Graph.{Graph, Position, Fits, network_system}
use Rattle.meaning.specs.Network.{Book, Network, Places, Valid, Tame, put, start}
use Rattle.meaning.specs.Quotient.{pair, quotient, without}
use Rattle.meaning.specs.System.{Above, Below, Solution}
use Rattle.meaning.specs.Trim.{Marks, trim_graph, begins}
use Rattle.meaning.specs.Value.{beginning}
use Rattle.meaning.proofs.Computed.{value_removed}
use Rattle.meaning.proofs.Kept.{trim_keeps, fold_keeps}
use Rattle.meaning.proofs.Order.{under_antisym}
use Rattle.meaning.proofs.Removal.{without_left, without_same, without_other}
use Rattle.meaning.proofs.Cut.{zero_bit}
use Rattle.meaning.proofs.Trimming.{rank_below}
use Rattle.meaning.proofs.Theorems.{value_exists, value_unique, removal_keeps}
use Rattle.meaning.proofs.Ways.{put_same, put_other}
use Rattle.calls.specs.Left.{left_places, left_without}
use Rattle.calls.specs.Memory.{Memory, node_in, held, written, numbers_of}
use Rattle.calls.specs.Outcome.{removed_graph, is_fixed, initial_fixed, closes, Lower, Upper, Verdict}
use Rattle.calls.specs.declared.remainder.Remainder.{Remainder}
use Rattle.calls.proofs.Agree.{agree_fits, agree_solution}
use Rattle.calls.proofs.Lefts.{left_without_is}
use Rattle.calls.proofs.Tested.{Fitting}
use Rattle.calls.proofs.Written.{written_agrees}

module _ {A : Algebra} (L : Laws A) (B : Book) (few : B.places ≤ 8) (N : Network) where
  -- every process at a place left passes
  abbrev pub Tames : ℕ → Type 0
  Tames left = (p : ℕ) → left_places left p ≡ true → Tame A (N p)

  pub valid_start : (left : Places) → ((p : ℕ) → left p ≡ true → Tame A (N p)) → Valid N left (start N left)
  valid_start left t = record {
    within = λ p h. rw h (t p h).initial;
    elsewhere = λ p h. rw h refl;
  }

  -- the values at the beginning of two graphs on the network are the same
  abbrev pub Same : ℕ → Graph → ℕ → Graph → Type 0
  Same l G k H =
      (V : Position → ℕ) → Solution A (network_system A B N (left_places l) G) V
      → (W : Position → ℕ) → Solution A (network_system A B N (left_places k) H) W
      → V (beginning N (left_places l) G) ≡ W (beginning N (left_places k) H)

  pub same_trans : (l : ℕ) (G : Graph) (k : ℕ) (H : Graph) (j : ℕ) (K : Graph) → Fits A B N (left_places k) H → Same l G k H → Same k H j K → Same l G j K
  same_trans l G k H j K f a b V v W w =
      let U = value_exists A L B N (left_places k) H f in
      a V v U.0 U.1 ∙ b U.0 U.1 W w

  pub same_refl : (l : ℕ) (G : Graph) → Fits A B N (left_places l) G → G.initial < G.nodes → Same l G l G
  same_refl l G f i V v W w = value_unique A L B N (left_places l) G f V W v w (beginning N (left_places l) G) (i, valid_start (left_places l) f.processes)

  -- what is written of a graph has the graph's value
  same_written : (l : ℕ) (G : Graph) (t : Memory) → Fits A B N (left_places l) G → G.initial < G.nodes → Same l G l (held (numbers_of G l) (written G t))
  same_written l G t f i V v W w =
      let H = held (numbers_of G l) (written G t) in
      let a = written_agrees G t l in
      value_unique A L B N (left_places l) H (agree_fits L B N (left_places l) G H a f) V W (agree_solution L B N (left_places l) G H a f V v) w (beginning N (left_places l) H) (i, valid_start (left_places l) f.processes)

  written_fits : (l : ℕ) (G : Graph) (t : Memory) → Fits A B N (left_places l) G → Fits A B N (left_places l) (held (numbers_of G l) (written G t))
  written_fits l G t f = agree_fits L B N (left_places l) G (held (numbers_of G l) (written G t)) (written_agrees G t l) f

  -- a step to a graph that is written: the value is the same, and it fits
  abbrev pub Step : Remainder → Memory → ℕ → Graph → Memory → Type 0
  Step r m l G w = Same r.left (held r m) l (held (numbers_of G l) (written G w)) × Fits A B N (left_places l) (held (numbers_of G l) (written G w))

  step_to : (r : Remainder) (m : Memory) (l : ℕ) (G : Graph) (w : Memory) → Fits A B N (left_places l) G → G.initial < G.nodes → Same r.left (held r m) l G → Step r m l G w
  step_to r m l G w f i same = (same_trans r.left (held r m) l G l (held (numbers_of G l) (written G w)) f same (same_written l G w f i), written_fits l G w f)

  pub fits_of : (r : Remainder) (m : Memory) → Fitting A B r m → Tames r.left → Fits A B N (left_places r.left) (held r m)
  fits_of r m f t = record { processes = t; graph = f.graph }

  pub small_left : (r : Remainder) (m : Memory) → Fitting A B r m → r.left < 2 ^ 8
  small_left r m f = omega (arith, f.places, pow_mono few)

  -- A removal keeps the value.
  module _ (r : Remainder) (m : Memory) (f : Fitting A B r m) (t : Tames r.left) (p : ℕ) (here : left_places r.left p ≡ true) where
    near : p < 8
    near = omega (arith, f.graph.places p here, few)

    rest_is : left_places (left_without r.left p) ≡ without (left_places r.left) p
    rest_is = left_without_is r.left p (small_left r m f) near

    pub rest_left : (x : ℕ) → left_places (left_without r.left p) x ≡ true → left_places r.left x ≡ true
    rest_left x h = (without_left (left_places r.left) p x (subst (λ s. s x ≡ true) rest_is h)).0

    pub rest_tame : Tames (left_without r.left p)
    rest_tame x h = t x (rest_left x h)

    start_rest : start N (without (left_places r.left) p) ≡ put p 0 (start N (left_places r.left))
    start_rest = fun_ext λ x.
        ⊎_elim
        (λ e. rw e (ap (λ b. cond b (N p).initial 0) (without_same (left_places r.left) p) ∙ sym (put_same p 0 (start N (left_places r.left)))))
        (λ n. ap (λ b. cond b (N x).initial 0) (without_other (left_places r.left) p x n) ∙ sym (put_other p 0 (start N (left_places r.left)) x n))
        (cases_eq x p)

    pub removed_fits : Fits A B N (left_places (left_without r.left p)) (quotient A B (left_places r.left) p (N p) (held r m))
    removed_fits = subst (λ s. Fits A B N s (quotient A B (left_places r.left) p (N p) (held r m))) (sym rest_is) (removal_keeps A L B N (left_places r.left) (held r m) (fits_of r m f t) p here).0

    pub removed_initial : (quotient A B (left_places r.left) p (N p) (held r m)).initial < (quotient A B (left_places r.left) p (N p) (held r m)).nodes
    removed_initial = rw (mul_comm r.nodes (N p).states) (mul-add-lt r.initial (N p).states (N p).initial r.nodes f.initial (t p here).initial)

    same_removed : Same r.left (held r m) (left_without r.left p) (quotient A B (left_places r.left) p (N p) (held r m))
    same_removed V v W w =
        let Q = quotient A B (left_places r.left) p (N p) (held r m) in
        let w' : Solution A (network_system A B N (without (left_places r.left) p) Q) W = subst (λ s. Solution A (network_system A B N s Q) W) rest_is w in
        let moved = (removal_keeps A L B N (left_places r.left) (held r m) (fits_of r m f t) p here).1 V W v w' (beginning N (left_places r.left) (held r m)) (f.initial, valid_start (left_places r.left) t) in
        let node : pair (N p).states r.initial (start N (left_places r.left) p) ≡ pair (N p).states r.initial (N p).initial = ap (λ b. pair (N p).states r.initial (cond b (N p).initial 0)) here in
        let state : put p 0 (start N (left_places r.left)) ≡ start N (left_places (left_without r.left p)) = sym start_rest ∙ ap (start N) (sym rest_is) in
        moved ∙ ap W (λ i. record { node = node i; state = state i })

    pub remove_step : (l : Lts) → N p ≡ l → (w : Memory) → Step r m (left_without r.left p) (removed_graph A B r m p l) w × Tames (left_without r.left p)
    remove_step l is w =
        (subst (λ k. Step r m (left_without r.left p) (removed_graph A B r m p k) w) is (step_to r m (left_without r.left p) (removed_graph A B r m p (N p)) w removed_fits removed_initial same_removed), rest_tame)

  -- Trimming and folding keep it.
  module _ (r : Remainder) (m : Memory) (f : Fitting A B r m) (t : Tames r.left) where
    pub trim_step : (marks : ℕ → Bool) → Marks (held r m) marks → (w : Memory) → Step r m r.left (trim_graph marks (held r m)) w
    trim_step marks mk w =
        let k = trim_keeps A L B N (left_places r.left) (held r m) (fits_of r m f t) marks f.initial mk in
        let on : marks r.initial ≡ true = (mk r.initial f.initial).1 begins in
        step_to r m r.left (trim_graph marks (held r m)) w k.0 (rank_below marks r.initial r.nodes f.initial on)
        (λ V v W u. k.1 V W v u (beginning N (left_places r.left) (held r m)) (f.initial, valid_start (left_places r.left) t) on)

    pub fold_step : (R Q : ℕ → ℕ) → Lower A B (held r m) R → Upper A B (held r m) Q → (w : Memory) → Step r m r.left (fold_graph R Q (held r m)) w
    fold_step R Q lo up w =
        let k = fold_keeps A L B N (left_places r.left) (held r m) (fits_of r m f t) R Q lo up in
        step_to r m r.left (fold_graph R Q (held r m)) w k.0 f.initial
        (λ V v W u. k.1 V W v u (beginning N (left_places r.left) (held r m)) (f.initial, valid_start (left_places r.left) t))

    -- The verdict of a closed remainder is its value.
    fixed_kind : (k : Kind) → is_fixed k ≡ true → k ≡ Fixed
    fixed_kind AnyOf h = absurd (true≢false (sym h))
    fixed_kind AllOf h = absurd (true≢false (sym h))
    fixed_kind Fixed h = refl

    pub verdict_step : closes r m ≡ true → (before after : List ℕ) (x : ℕ) → Verdict A B r m before x after → (V : Position → ℕ) → Solution A (network_system A B N (left_places r.left) (held r m)) V → V (beginning N (left_places r.left) (held r m)) ≡ x
    verdict_step shut before after x d V v =
        let p = beginning N (left_places r.left) (held r m) in
        let i : (r.initial < r.nodes) × Valid N (left_places r.left) (start N (left_places r.left)) = (f.initial, valid_start (left_places r.left) t) in
        ⊎_elim
        (λ yes_fixed.
        let k = fixed_kind (node_in m r.initial).kind yes_fixed in
        let both = subst (λ y. Above A (network_system A B N (left_places r.left) (held r m)) y V p × Below A (network_system A B N (left_places r.left) (held r m)) y V p) k (v.keeps p i) in
        under_antisym L both.1 both.0 ∙ sym (d.fixed yes_fixed).0)
        (λ unfixed.
        let none_left : r.left ≡ 0 = eqb-true r.left 0 (⊎_elim (λ h. h) (λ h. absurd (true≢false (sym h ∙ unfixed))) (or_cases (eqb r.left 0) (initial_fixed r m) shut)) in
        let s = d.solved unfixed in
        let nobody : (y : ℕ) → left_places r.left y ≡ true → y < 0 = λ y h. absurd (true≢false (sym h ∙ ap (λ l. left_places l y) none_left ∙ no_place y)) in
        value_removed L B N 0 (left_places r.left) (held r m) (λ y lt. absurd (omega arith)) nobody (fits_of r m f t) V v s.0 s.1 p i ∙ sym s.2)
        (cases_Bool (initial_fixed r m))
      where
        no_place : (y : ℕ) → left_places 0 y ≡ false
        no_place y = ap (λ b. eqb b 1) (zero_bit y)
