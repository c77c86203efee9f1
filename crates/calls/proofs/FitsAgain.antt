-- Every accepted call leaves what fits.
use Rattle.std.proofs.Common.{◌≡◌, ℕ, ◌+◌, ◌-◌, ◌^◌, ◌<◌, Bool, true, not, ◌&&◌, eqb, leb, map, length, get_or, take, drop, None, refl, ap, ⊎_elim, arith, pow_pos}
use lib.Bits.{and_le_l}
use Rattle.std.proofs.lemmas.Bool.{and_parts, cases_Bool, eqb-true, not-false}
use Rattle.fault.specs.declared.Fault.TheVariants.{Misfit}
use Rattle.fault.specs.First.{or_else}
use Rattle.fault.proofs.First.{neither, flag_failed}
use Rattle.records.specs.declared.Kind.{Kind}
use Rattle.records.specs.declared.Kind.TheVariants.{AnyOf, AllOf, Fixed}
use Rattle.records.specs.declared.Node.{Node}
use Rattle.scale.specs.Algebra.{Algebra}
use Rattle.casefile.specs.Refusal.{file_fault}
use Rattle.casefile.proofs.Accepts.{exactly}
use Rattle.meaning.specs.Check.{node_test}
use Rattle.meaning.specs.Fold.{fold_graph}
use Rattle.meaning.specs.Graph.{Graph, Fits}
use Rattle.meaning.specs.Network.{Book, Network, Tame}
use Rattle.meaning.specs.Trim.{marked, rename, trim_graph, begins}
use Rattle.meaning.proofs.Check.{all_at}
use Rattle.meaning.proofs.Kept.{trim_keeps, fold_keeps}
use Rattle.meaning.proofs.Trimming.{marked_is, rank_below}
use Rattle.calls.specs.Again as again
use Rattle.calls.specs.Fit.{due, plain_values, fits_node, fits}
use Rattle.calls.specs.Left.{left_places, all_left, left_without}
use Rattle.calls.specs.Memory.{Memory, node_in, held, edge_rows}
use Rattle.calls.specs.Opening.{book_of, formula_graph}
use Rattle.calls.specs.Outcome.{fit_fault, room_fault, buffer_fault, removed_graph}
use Rattle.calls.specs.declared.remainder.Remainder.{Remainder}
use Rattle.calls.proofs.Again.{Tidy, fits_again}
use Rattle.calls.proofs.Lists.{taken}
use Rattle.calls.proofs.Opened.{formula_formed, formula_tidy}
use Rattle.calls.proofs.Promise.{idle, idle_passes}
use Rattle.calls.proofs.Reaches.{tidy_quotient}
use Rattle.calls.proofs.Steps.{removed_fits, removed_initial}
use Rattle.calls.proofs.Tested.{tame_from, Fitting, fitting_true, nodes_fit}

-- what fits is tidy
plain_fixed : (k : Kind) (n : Node) → plain_values k n ≡ true → k ≡ Fixed → n.count ≡ 0
plain_fixed AnyOf n h e = let z : ◌≡◌ {A = ℕ} 0 1 = cc in absurd (omega arith)
plain_fixed AllOf n h e = let z : ◌≡◌ {A = ℕ} 0 1 = cc in absurd (omega arith)
plain_fixed Fixed n h e = eqb-true n.count 0 h

plain_other : (k : Kind) (n : Node) → plain_values k n ≡ true → (k ≡ Fixed → ⊥) → n.value ≡ 0
plain_other AnyOf n h e = eqb-true n.value 0 h
plain_other AllOf n h e = eqb-true n.value 0 h
plain_other Fixed n h e = absurd (e refl)

tidy_held : (A : Algebra) (B : Book) (r : Remainder) (m : Memory) → fits A B r m ≡ true → Tidy (held r m)
tidy_held A B r m h =
    let at : (q : ℕ) → q < r.nodes → plain_values (node_in m q).kind (node_in m q) ≡ true =
    λ q lt.
    let w = all_at r.nodes (fits_node A B r m) (nodes_fit A B r m h) q lt in
    let a = and_parts (eqb (node_in m q).first (due m q)) (leb ((node_in m q).first + (node_in m q).count) r.edges && (plain_values (node_in m q).kind (node_in m q) && node_test A B (left_places r.left) (held r m) q)) w in
    let b = and_parts (leb ((node_in m q).first + (node_in m q).count) r.edges) (plain_values (node_in m q).kind (node_in m q) && node_test A B (left_places r.left) (held r m) q) a.1 in
    (and_parts (plain_values (node_in m q).kind (node_in m q)) (node_test A B (left_places r.left) (held r m) q) b.1).0 in
    record {
      fixed = λ q lt e. ap (λ k. take k (drop (node_in m q).first m.edges)) (plain_fixed (node_in m q).kind (node_in m q) (at q lt) e);
      other = λ q lt n. plain_other (node_in m q).kind (node_in m q) (at q lt) n;
    }

fit_true : (A : Algebra) (B : Book) (r : Remainder) (m : Memory) → fit_fault A B r m ≡ None → fits A B r m ≡ true
fit_true A B r m h = not-false (fits A B r m) (flag_failed (not (fits A B r m)) Misfit h)

tidy_trim : (marks : ℕ → Bool) (G : Graph) → Tidy G → Tidy (trim_graph marks G)
tidy_trim marks G d = record {
  fixed = λ i lt e. ap (map (rename marks)) (d.fixed (get_or (marked marks G.nodes) i 0) (marked_is marks G.nodes i lt).0 e);
  other = λ i lt n. d.other (get_or (marked marks G.nodes) i 0) (marked_is marks G.nodes i lt).0 n;
}

tidy_fold : (R Q : ℕ → ℕ) (G : Graph) → Tidy G → Tidy (fold_graph R Q G)
tidy_fold R Q G d = record {
  fixed = λ q lt. ⊎_elim (λ same. rw same (λ _. refl)) (λ apart. rw apart (d.fixed q lt)) (cases_Bool (eqb (R q) (Q q)));
  other = λ q lt. ⊎_elim (λ same. rw same (λ n. absurd (n refl))) (λ apart. rw apart (d.other q lt)) (cases_Bool (eqb (R q) (Q q)));
}

-- any graph that fits does so with processes that do nothing
still : (A : Algebra) (B : Book) (r : Remainder) (m : Memory) → Fitting A B r m → Fits A B (λ _. idle) (left_places r.left) (held r m)
still A B r m f = record { processes = λ p t. tame_from A idle (idle_passes A); graph = f.graph }

pub fits_again_all : again.FitsAgain
fits_again_all = record {
  opens = λ A L n bs m h.
      let w = (exactly A n bs).0 (neither (file_fault A n bs) (room_fault (formula_graph A bs).nodes (length (edge_rows (formula_graph A bs))) m) h).0 in
      fits_again L (book_of bs) (all_left (book_of bs).places) (formula_graph A bs) (formula_formed L n bs w) (formula_tidy L n bs w) w.header.initial (omega (arith, pow_pos (book_of bs).places)) m;
  removes = λ A L B few r m p l t h.
      let k = taken A B r m p l t h in
      let N : Network = λ _. l in
      let tames : (x : ℕ) → left_places r.left x ≡ true → Tame A l = λ x y. k.tame in
      let whole = fit_true A B r m (neither (fit_fault A B r m) _ h).0 in
      fits_again L B (left_without r.left p) (removed_graph A B r m p l) (removed_fits L B few N r m k.fits tames p k.here).graph
      (tidy_quotient A B (left_places r.left) p l (held r m) (omega (arith, k.tame.initial)) (tidy_held A B r m whole))
      (removed_initial L B few N r m k.fits tames p k.here) (omega (arith, k.fits.places, and_le_l r.left (255 - 2 ^ p))) t;
  trims = λ A L B r m t numbers h marks mk.
      let whole = fit_true A B r m (neither (fit_fault A B r m) (or_else (room_fault r.nodes r.edges t) (buffer_fault r numbers)) h).0 in
      let f = fitting_true A B r m whole in
      fits_again L B r.left (trim_graph marks (held r m)) (trim_keeps A L B (λ _. idle) (left_places r.left) (held r m) (still A B r m f) marks f.initial mk).0.graph
      (tidy_trim marks (held r m) (tidy_held A B r m whole)) (rank_below marks r.initial r.nodes f.initial ((mk r.initial f.initial).1 begins)) f.places t;
  folds = λ A L B r m t lower upper h R Q lo up.
      let whole = fit_true A B r m (neither (fit_fault A B r m) (or_else (room_fault r.nodes r.edges t) (or_else (buffer_fault r lower) (buffer_fault r upper))) h).0 in
      let f = fitting_true A B r m whole in
      fits_again L B r.left (fold_graph R Q (held r m)) (fold_keeps A L B (λ _. idle) (left_places r.left) (held r m) (still A B r m f) R Q lo up).0.graph
      (tidy_fold R Q (held r m) (tidy_held A B r m whole)) f.initial f.places t;
}
