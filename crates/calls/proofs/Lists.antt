-- Lists of calls keep the value, call after call.
use Rattle.std.proofs.Common.{◌≡◌, ℕ, ◌≤◌, true, not, List, length, None, sym, refl, ap, ◌∙◌, subst, subst₂, inl, inr, ⊎_elim, arith}
use Rattle.std.proofs.lemmas.Bool.{cases_eq, not-false}
use Rattle.fault.specs.declared.Fault.TheVariants.{NotLeft}
use Rattle.fault.specs.First.{flag, or_else}
use Rattle.fault.proofs.First.{flag_failed, neither}
use Rattle.process.specs.Lts.{Lts}
use Rattle.scale.specs.Algebra.{Algebra, Laws}
use Rattle.meaning.specs.Fold.{fold_graph}
use Rattle.meaning.specs.Graph.{Graph}
use Rattle.meaning.specs.Member.{In}
use Rattle.meaning.specs.Network.{Book, Network, Tame}
use Rattle.meaning.specs.Quotient.{without}
use Rattle.meaning.specs.Trim.{trim_graph}
use Rattle.meaning.proofs.Removal.{without_left, without_other}
use Rattle.calls.specs.Left.{left_places, left_without}
use Rattle.calls.specs.Memory.{Memory, held, edge_rows, written, numbers_of}
use Rattle.calls.specs.Outcome.{fit_fault, removed_graph, remove_fault, room_fault, buffer_fault}
use Rattle.calls.specs.Process.{process_fault}
use Rattle.calls.specs.Promise.{Given}
use Rattle.calls.specs.Runs.{Call, Stage, open_at, closed_at, Removal, Runs, done, refused, removes, trims, folds, closes}
use Rattle.calls.specs.declared.remainder.Remainder.{Remainder}
use Rattle.calls.proofs.Lefts.{left_without_is}
use Rattle.calls.proofs.Steps.{Tames, Same, Step, same_trans, same_refl, fits_of, small_left, remove_step, trim_step, fold_step}
use Rattle.calls.proofs.Tested.{tame_from, Fitting, fitting}

abbrev pub numbers_at : Stage → Remainder
numbers_at (open_at r m) = r
numbers_at (closed_at r m) = r

abbrev pub memory_at : Stage → Memory
memory_at (open_at r m) = m
memory_at (closed_at r m) = m

-- What an accepted removal was checked for.
pub record Taken (A : Algebra) (B : Book) (r : Remainder) (m : Memory) (p : ℕ) (l : Lts) : Type 0 where
  pub fits : Fitting A B r m
  pub here : left_places r.left p ≡ true
  pub tame : Tame A l
  pub passes : process_fault A l ≡ None

pub taken : (A : Algebra) (B : Book) (r : Remainder) (m : Memory) (p : ℕ) (l : Lts) (t : Memory) → remove_fault A B r m p l t ≡ None → Taken A B r m p l
taken A B r m p l t h =
    let room = room_fault (removed_graph A B r m p l).nodes (length (edge_rows (removed_graph A B r m p l))) t in
    let a = neither (fit_fault A B r m) (or_else (flag (not (left_places r.left p)) NotLeft) (or_else (process_fault A l) room)) h in
    let b = neither (flag (not (left_places r.left p)) NotLeft) (or_else (process_fault A l) room) a.1 in
    let c = neither (process_fault A l) room b.1 in
    record {
      fits = fitting A B r m a.0;
      here = not-false (left_places r.left p) (flag_failed (not (left_places r.left p)) NotLeft b.0);
      tame = tame_from A l c.0;
      passes = c.0;
    }

module _ {A : Algebra} (L : Laws A) (B : Book) (few : B.places ≤ 8) (N : Network) where
  rest_of : (r : Remainder) (m : Memory) (p : ℕ) → Fitting A B r m → left_places r.left p ≡ true → left_places (left_without r.left p) ≡ without (left_places r.left) p
  rest_of r m p f here = left_without_is r.left p (small_left L B few N r m f) (omega (arith, f.graph.places p here, few))

  gone : (r : Remainder) (m : Memory) (p : ℕ) → Fitting A B r m → left_places r.left p ≡ true → (d : Removal) → left_places (left_without r.left p) d.place ≡ true → d.place ≡ p → ⊥
  gone r m p f here d h = (without_left (left_places r.left) p d.place (subst (λ z. z d.place ≡ true) (rest_of r m p f here) h)).1

  -- the places left, by equal numbers
  left_at : (s : Remainder) (l x : ℕ) → s.left ≡ l → left_places l x ≡ true → left_places s.left x ≡ true
  left_at s l x e h = subst (λ k. left_places k x ≡ true) (sym e) h

  left_from : (s : Remainder) (l x : ℕ) → s.left ≡ l → left_places s.left x ≡ true → left_places l x ≡ true
  left_from s l x e h = subst (λ k. left_places k x ≡ true) e h

  -- what is tame at the end and what was taken in makes everything tame
  pub tame_all : {s u : Stage} {cs : List Call} {gs : List Removal} → Runs A B s cs u gs → Given N gs → Tames L B few N (numbers_at u).left → Tames L B few N (numbers_at s).left
  tame_all done g t = t
  tame_all (refused f e run) g t = tame_all run g t
  tame_all (removes {r} {s} {m} p l w e o run) g t = λ x h.
      let k = taken A B r m p l w e in
      ⊎_elim
      (λ same. subst (λ y. Tame A (N y)) (sym same) (rw (g (record { place = p; process = l }) (inl refl)) k.tame))
      (λ apart.
      tame_all run (λ d i. g d (inr i)) t x
      (left_at s (left_without r.left p) x (ap (λ y. y.left) o.remainder) (subst (λ z. z x ≡ true) (sym (rest_of r m p k.fits k.here)) (without_other (left_places r.left) p x apart ∙ h))))
      (cases_eq x p)
  tame_all (trims {r} {s} w numbers given e o run) g t = λ x h. tame_all run g t x (left_at s r.left x (ap (λ y. y.left) o.remainder) h)
  tame_all (folds {r} {s} w lower upper low high e o run) g t = λ x h. tame_all run g t x (left_at s r.left x (ap (λ y. y.left) o.remainder) h)
  tame_all (closes e) g t = t

  -- a step, and what follows it
  onward : (r : Remainder) (m : Memory) (l : ℕ) (G : Graph) (w : Memory) (s : Remainder) (after : Memory) (u : Stage) → s ≡ numbers_of G l → after ≡ written G w → Step L B few N r m l G w
      → Same L B few N s.left (held s after) (numbers_at u).left (held (numbers_at u) (memory_at u))
      → Same L B few N r.left (held r m) (numbers_at u).left (held (numbers_at u) (memory_at u))
  onward r m l G w s after u is held-is step rest =
      same_trans L B few N r.left (held r m) l (held (numbers_of G l) (written G w)) (numbers_at u).left (held (numbers_at u) (memory_at u)) step.1 step.0
      (subst₂ (λ a b. Same L B few N a.left (held a b) (numbers_at u).left (held (numbers_at u) (memory_at u))) is held-is rest)

  -- the value at the beginning stays the same
  pub kept : {s u : Stage} {cs : List Call} {gs : List Removal} → Runs A B s cs u gs → Given N gs → Tames L B few N (numbers_at s).left → Fitting A B (numbers_at u) (memory_at u)
      → Same L B few N (numbers_at s).left (held (numbers_at s) (memory_at s)) (numbers_at u).left (held (numbers_at u) (memory_at u))
  kept {s} done g t f = same_refl L B few N (numbers_at s).left (held (numbers_at s) (memory_at s)) (fits_of L B few N (numbers_at s) (memory_at s) f t) f.initial
  kept (refused f e run) g t last = kept run g t last
  kept {u} (removes {r} {s} {m} {after} p l w e o run) g t last =
      let k = taken A B r m p l w e in
      let step = remove_step L B few N r m k.fits t p k.here l (g (record { place = p; process = l }) (inl refl)) w in
      let tames : Tames L B few N s.left = λ x h. step.1 x (left_from s (left_without r.left p) x (ap (λ y. y.left) o.remainder) h) in
      onward r m (left_without r.left p) (removed_graph A B r m p l) w s after u o.remainder o.memory step.0 (kept run (λ d i. g d (inr i)) tames last)
  kept {u} (trims {r} {s} {m} {after} w numbers given e o run) g t last =
      let f = fitting A B r m (neither (fit_fault A B r m) (or_else (room_fault r.nodes r.edges w) (buffer_fault r numbers)) e).0 in
      let tames : Tames L B few N s.left = λ x h. t x (left_from s r.left x (ap (λ y. y.left) o.remainder) h) in
      onward r m r.left (trim_graph o.marks (held r m)) w s after u o.remainder o.memory (trim_step L B few N r m f t o.marks o.reached w) (kept run g tames last)
  kept {u} (folds {r} {s} {m} {after} w lower upper low high e o run) g t last =
      let f = fitting A B r m (neither (fit_fault A B r m) (or_else (room_fault r.nodes r.edges w) (or_else (buffer_fault r lower) (buffer_fault r upper))) e).0 in
      let tames : Tames L B few N s.left = λ x h. t x (left_from s r.left x (ap (λ y. y.left) o.remainder) h) in
      onward r m r.left (fold_graph o.lowers o.uppers (held r m)) w s after u o.remainder o.memory (fold_step L B few N r m f t o.lowers o.uppers o.lowest o.highest w) (kept run g tames last)
  kept (closes {r} {m} e) g t f = same_refl L B few N r.left (held r m) (fits_of L B few N r m f t) f.initial

  -- a place that is removed was left
  pub was_left : {s u : Stage} {cs : List Call} {gs : List Removal} → Runs A B s cs u gs → (d : Removal) → In d gs → left_places (numbers_at s).left d.place ≡ true
  was_left done d i = absurd i
  was_left (refused f e run) d i = was_left run d i
  was_left (removes {r} {m} p l w e o run) d (inl same) = subst (λ x. left_places r.left x ≡ true) (sym (ap (λ y. y.place) same)) (taken A B r m p l w e).here
  was_left (removes {r} {s} {m} p l w e o run) d (inr i) =
      let h = left_from s (left_without r.left p) d.place (ap (λ y. y.left) o.remainder) (was_left run d i) in
      (without_left (left_places r.left) p d.place (subst (λ z. z d.place ≡ true) (rest_of r m p (taken A B r m p l w e).fits (taken A B r m p l w e).here) h)).0
  was_left (trims {r} {s} w numbers given e o run) d i = left_from s r.left d.place (ap (λ y. y.left) o.remainder) (was_left run d i)
  was_left (folds {r} {s} w lower upper low high e o run) d i = left_from s r.left d.place (ap (λ y. y.left) o.remainder) (was_left run d i)
  was_left (closes e) d i = absurd i

  -- and is removed once
  pub once : {s u : Stage} {cs : List Call} {gs : List Removal} → Runs A B s cs u gs → (c d : Removal) → In c gs → In d gs → c.place ≡ d.place → c.process ≡ d.process
  once done c d i j e = absurd i
  once (refused f h run) c d i j e = once run c d i j e
  once (removes p l w h o run) c d (inl a) (inl b) e = ap (λ y. y.process) (a ∙ sym b)
  once (removes {r} {s} {m} p l w h o run) c d (inl a) (inr j) e =
      absurd (gone r m p (taken A B r m p l w h).fits (taken A B r m p l w h).here d (left_from s (left_without r.left p) d.place (ap (λ y. y.left) o.remainder) (was_left run d j)) (sym e ∙ ap (λ y. y.place) a))
  once (removes {r} {s} {m} p l w h o run) c d (inr i) (inl b) e =
      absurd (gone r m p (taken A B r m p l w h).fits (taken A B r m p l w h).here c (left_from s (left_without r.left p) c.place (ap (λ y. y.left) o.remainder) (was_left run c i)) (e ∙ ap (λ y. y.place) b))
  once (removes p l w h o run) c d (inr i) (inr j) e = once run c d i j e
  once (trims w numbers given h o run) c d i j e = once run c d i j e
  once (folds w lower upper low high h o run) c d i j e = once run c d i j e
  once (closes h) c d i j e = absurd i

  -- every process that was taken in passes the checks
  pub passed : {s u : Stage} {cs : List Call} {gs : List Removal} → Runs A B s cs u gs → (d : Removal) → In d gs → process_fault A d.process ≡ None
  passed done d i = absurd i
  passed (refused f e run) d i = passed run d i
  passed (removes {r} {m} p l w e o run) d (inl same) = subst (λ k. process_fault A k ≡ None) (sym (ap (λ y. y.process) same)) (taken A B r m p l w e).passes
  passed (removes p l w e o run) d (inr i) = passed run d i
  passed (trims w numbers given e o run) d i = passed run d i
  passed (folds w lower upper low high e o run) d i = passed run d i
  passed (closes e) d i = absurd i

  -- what leads to something that fits fits
  pub fits_at : {s u : Stage} {cs : List Call} {gs : List Removal} → Runs A B s cs u gs → Fitting A B (numbers_at u) (memory_at u) → Fitting A B (numbers_at s) (memory_at s)
  fits_at done f = f
  fits_at (refused g e run) f = fits_at run f
  fits_at (removes {r} {m} p l w e o run) f = (taken A B r m p l w e).fits
  fits_at (trims {r} {m} w numbers given e o run) f = fitting A B r m (neither (fit_fault A B r m) (or_else (room_fault r.nodes r.edges w) (buffer_fault r numbers)) e).0
  fits_at (folds {r} {m} w lower upper low high e o run) f = fitting A B r m (neither (fit_fault A B r m) (or_else (room_fault r.nodes r.edges w) (or_else (buffer_fault r lower) (buffer_fault r upper))) e).0
  fits_at (closes e) f = f
