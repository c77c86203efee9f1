-- Every order of removals reaches a verdict, where the limits are kept.
use Rattle.std.proofs.Common.{◌≡◌, ℕ, ◌-◌, ◌/◌, ◌%◌, ◌^◌, ◌<◌, ◌≤◌, Bool, true, false, not, ◌&&◌, eqb, ltb, List, [], ◌∷◌, length, replicate, None, sym, refl, ap, ◌∙◌, ⊎_elim, arith, pow_pos}
use lib.Bits.{and_le_l}
use lib.ListN.{length-replicate}
use Rattle.std.proofs.lemmas.Nat.{div_below}
use Rattle.std.proofs.lemmas.Bool.{cases_Bool, eq-eqb, le-ltb, or_from, or_left, and_from, and_right, not_from_true, true≢false}
use Rattle.fault.specs.declared.Fault.TheVariants.{Misfit, NotLeft, FewNodes, FewEdges, ShortBuffer, PlacesLeft}
use Rattle.fault.specs.First.{flag, or_else}
use Rattle.fault.proofs.First.{flag_off, first_later}
use Rattle.process.specs.Lts.{Lts}
use Rattle.scale.specs.Algebra.{Algebra, Laws}
use Rattle.casefile.specs.Refusal.{file_fault}
use Rattle.casefile.proofs.Accepts.{exactly}
use Rattle.meaning.specs.Graph.{Graph, WellFormedGraph}
use Rattle.meaning.specs.Network.{Book, Network}
use Rattle.meaning.specs.Quotient.{quotient, quotient_edges}
use Rattle.meaning.proofs.Theorems.{reading_exists}
use Rattle.meaning.proofs.Unique.{weaken}
use Rattle.meaning.specs.Graph as graphs
use Rattle.calls.specs.Fit.{fits}
use Rattle.calls.specs.Left.{left_places, all_left, left_without}
use Rattle.calls.specs.Memory.{Memory, no_node, node_in, held, edge_rows, written, numbers_of}
use Rattle.calls.specs.NotEmpty.{Names, Small, no_edge, room_for, SmallAll, removals, EveryOrderReaches}
use Rattle.calls.specs.Opening.{book_of, formula_graph}
use Rattle.calls.specs.Outcome.{most_nodes, most_edges, few_nodes, few_edges, room_fault, fit_fault, opened, removed_graph, remove_fault, closes, initial_fixed, verdict_fault, values_over, Verdict}
use Rattle.calls.specs.Process.{process_fault}
use Rattle.calls.specs.Promise.{Passing}
use Rattle.calls.specs.Runs.{Call, remove, close, Runs, removes, open_at, closed_at}
use Rattle.calls.specs.Runs as runs
use Rattle.calls.specs.declared.remainder.Remainder.{Remainder}
use Rattle.calls.proofs.Again.{Tidy, fits_again}
use Rattle.calls.proofs.Opened.{formula_formed, formula_tidy}
use Rattle.calls.proofs.Steps.{Tames, removed_fits, removed_initial, rest_tame, rest_left}
use Rattle.calls.proofs.Tested.{tame_from, Fitting, fitting_true}
use Rattle.calls.proofs.Written.{written_agrees}

-- memory made for a graph has room for it
room_enough : (G : Graph) → Small G → room_fault G.nodes (length (edge_rows G)) (room_for G) ≡ None
room_enough G s =
    let m = room_for G in
    first_later (flag (few_nodes G.nodes m) FewNodes) (flag (few_edges (length (edge_rows G)) m) FewEdges)
    (flag_off FewNodes (or_from (ltb (length m.nodes) G.nodes) (ltb most_nodes G.nodes) (le-ltb (length m.nodes) G.nodes (omega (arith, length-replicate G.nodes no_node))) (le-ltb most_nodes G.nodes s.0)))
    (flag_off FewEdges (or_from (ltb (length m.edges) (length (edge_rows G))) (ltb most_edges (length (edge_rows G))) (le-ltb (length m.edges) (length (edge_rows G)) (omega (arith, length-replicate (length (edge_rows G)) no_edge))) (le-ltb most_edges (length (edge_rows G)) s.1)))

-- tidiness is kept by what is written, and by the quotient
tidy_written : (G : Graph) (t : Memory) (l : ℕ) → Tidy G → Tidy (held (numbers_of G l) (written G t))
tidy_written G t l d =
    let a = written_agrees G t l in
    record {
      fixed = λ q lt e. a.edges q lt ∙ d.fixed q lt (sym (a.kind q lt) ∙ e);
      other = λ q lt n. a.value q lt ∙ d.other q lt (λ e. n (a.kind q lt ∙ e));
    }

pub tidy_quotient : (A : Algebra) (B : Book) (left : ℕ → Bool) (p : ℕ) (l : Lts) (G : Graph) → 0 < l.states → Tidy G → Tidy (quotient A B left p l G)
tidy_quotient A B left p l G some d = record {
  fixed = λ i lt e. ap (quotient_edges A B left p l (i % l.states)) (d.fixed (i / l.states) (div_below i l.states G.nodes some lt) e);
  other = λ i lt n. d.other (i / l.states) (div_below i l.states G.nodes some lt) n;
}

module _ {A : Algebra} (L : Laws A) (B : Book) (few : B.places ≤ 8) (N : Network) where
  abbrev calls_for : Remainder → Memory → List ℕ → List Call
  calls_for r m [] = close ∷ []
  calls_for r m (p ∷ ps) =
      let Q = removed_graph A B r m p (N p) in
      remove p (N p) (room_for Q) ∷ calls_for (numbers_of Q (left_without r.left p)) (written Q (room_for Q)) ps

  -- what a stage on the way shows
  record Ready (r : Remainder) (m : Memory) : Type 0 where
    fit : fits A B r m ≡ true
    tidy : Tidy (held r m)
    tame : Tames L B few N r.left
    passes : Passing A N r.left

  no_misfit : (r : Remainder) (m : Memory) → fits A B r m ≡ true → fit_fault A B r m ≡ None
  no_misfit r m h = flag_off Misfit (not_from_true (fits A B r m) h)

  module _ (r : Remainder) (m : Memory) (d : Ready r m) (p : ℕ) (here : left_places r.left p ≡ true) where
    f : Fitting A B r m
    f = fitting_true A B r m d.fit

    next_ready : Ready (numbers_of (removed_graph A B r m p (N p)) (left_without r.left p)) (written (removed_graph A B r m p (N p)) (room_for (removed_graph A B r m p (N p))))
    next_ready =
        let Q = removed_graph A B r m p (N p) in
        let fq = removed_fits L B few N r m f d.tame p here in
        let tidy = tidy_quotient A B (left_places r.left) p (N p) (held r m) (omega (arith, (d.tame p here).initial)) d.tidy in
        let rest = rest_tame L B few N r m f d.tame p here in
        record {
          fit = fits_again L B (left_without r.left p) Q fq.graph tidy (removed_initial L B few N r m f d.tame p here) (omega (arith, f.places, and_le_l r.left (255 - 2 ^ p))) (room_for Q);
          tidy = tidy_written Q (room_for Q) (left_without r.left p) tidy;
          tame = rest;
          passes = λ x h. d.passes x (rest_left L B few N r m f d.tame p here x h);
        }

    accepted : Small (removed_graph A B r m p (N p)) → remove_fault A B r m p (N p) (room_for (removed_graph A B r m p (N p))) ≡ None
    accepted small =
        let Q = removed_graph A B r m p (N p) in
        let room = room_fault Q.nodes (length (edge_rows Q)) (room_for Q) in
        first_later (fit_fault A B r m) (or_else (flag (not (left_places r.left p)) NotLeft) (or_else (process_fault A (N p)) room)) (no_misfit r m d.fit)
        (first_later (flag (not (left_places r.left p)) NotLeft) (or_else (process_fault A (N p)) room) (flag_off NotLeft (not_from_true (left_places r.left p) here))
        (first_later (process_fault A (N p)) room (d.passes p here) (room_enough Q small)))

  -- the end of a run
  record Reached (r : Remainder) (m : Memory) (ps : List ℕ) : Type 0 where
    last : Remainder
    holding : Memory
    run : Runs A B (open_at r m) (calls_for r m ps) (closed_at last holding) (removals N ps)
    fit : fits A B last holding ≡ true
    none_left : last.left ≡ 0

  reach : (ps : List ℕ) (r : Remainder) (m : Memory) → Ready r m → Names r.left ps → SmallAll A B N r m ps → Reached r m ps
  reach [] r m d empty s = record {
    last = r;
    holding = m;
    run = runs.closes (first_later (fit_fault A B r m) (flag (not (closes r m)) PlacesLeft) (no_misfit r m d.fit) (flag_off PlacesLeft (not_from_true (closes r m) (or_left (eqb r.left 0) (initial_fixed r m) (eq-eqb r.left 0 empty)))));
    fit = d.fit;
    none_left = empty;
  }
  reach (p ∷ ps) r m d names s =
      let Q = removed_graph A B r m p (N p) in
      let rest = reach ps (numbers_of Q (left_without r.left p)) (written Q (room_for Q)) (next_ready r m d p names.0) names.1 s.1 in
      record {
        last = rest.last;
        holding = rest.holding;
        run = removes p (N p) (room_for Q) (accepted r m d p names.0 s.0) (record { remainder = refl; memory = refl }) rest.run;
        fit = rest.fit;
        none_left = rest.none_left;
      }

  -- a verdict of what fits with no place left
  verdict_of : (r : Remainder) (m : Memory) → fits A B r m ≡ true → r.left ≡ 0 → (x : ℕ) × (after : List ℕ) × (verdict_fault A B r m (replicate r.nodes 0) ≡ None) × Verdict A B r m (replicate r.nodes 0) x after
  verdict_of r m h empty =
      let shut : closes r m ≡ true = or_left (eqb r.left 0) (initial_fixed r m) (eq-eqb r.left 0 empty) in
      let both : (fits A B r m && closes r m) ≡ true = and_from (fits A B r m) (closes r m) h shut in
      let long : ltb (length (replicate r.nodes 0)) r.nodes ≡ false = le-ltb (length (replicate r.nodes 0)) r.nodes (omega (arith, length-replicate {A = ℕ} r.nodes 0)) in
      let asked : verdict_fault A B r m (replicate r.nodes 0) ≡ None =
      first_later (flag (not (fits A B r m && closes r m)) Misfit) (flag (not (initial_fixed r m) && ltb (length (replicate r.nodes 0)) r.nodes) ShortBuffer) (flag_off Misfit (not_from_true (fits A B r m && closes r m) both))
      (flag_off ShortBuffer (and_right (not (initial_fixed r m)) (ltb (length (replicate r.nodes 0)) r.nodes) long)) in
      let R = reading_exists A L B (left_places r.left) (held r m) (fitting_true A B r m h).graph A.lowest L.lowest_value in
      ⊎_elim
      (λ yes_fixed. ((node_in m r.initial).value, replicate r.nodes 0, asked, record { fixed = λ e. (refl, refl); solved = λ e. absurd (true≢false (sym yes_fixed ∙ e)) }))
      (λ unfixed. (R.0 r.initial, values_over R.0 r (replicate r.nodes 0), asked, record { fixed = λ e. absurd (true≢false (sym e ∙ unfixed)); solved = λ e. (R.0, weaken L (graphs.reading_system B A.lowest (held r m)) R.0 R.1, refl, refl) }))
      (cases_Bool (initial_fixed r m))

pub every_order_reaches : EveryOrderReaches
every_order_reaches A L n bs well N passes order names small smalls =
    let B = book_of bs in
    let G = formula_graph A bs in
    let w = (exactly A n bs).0 well in
    let few = w.header.places.1 in
    let t = room_for G in
    let start : Ready L B few N (opened A bs) (written G t) = record {
      fit = fits_again L B (all_left B.places) G (formula_formed L n bs w) (formula_tidy L n bs w) w.header.initial (omega (arith, pow_pos B.places)) t;
      tidy = tidy_written G t (all_left B.places) (formula_tidy L n bs w);
      tame = λ p h. tame_from A (N p) (passes p h);
      passes = passes;
    } in
    let r = reach L B few N order (opened A bs) (written G t) start names smalls in
    let v = verdict_of L B few N r.last r.holding r.fit r.none_left in (
      v.0,
      record {
        memory = t;
        opening = first_later (file_fault A n bs) (room_fault G.nodes (length (edge_rows G)) t) well (room_enough G small);
        calls = calls_for L B few N (opened A bs) (written G t) order;
        remainder = r.last;
        holding = r.holding;
        run = r.run;
        before = replicate r.last.nodes 0;
        after = v.1;
        asked = v.2;
        verdict = v.3;
        rest = r.none_left;
      },
    )
