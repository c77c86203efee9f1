-- The promise about every list of calls.
use Rattle.std.proofs.Common.{◌≡◌, ℕ, ◌<◌, ◌≤◌, true, cond, not, ◌&&◌, eqb, ltb, List, [], ◌∷◌, length, Some, None, Option, unwrap_or, sym, refl, ap, ◌∙◌, subst, inl, inr, ⊎_elim, arith}
use Rattle.std.proofs.lemmas.Bool.{and_parts, cases_eq, eq-eqb, ne_eqb, eqb-true, cases_Bool, not-false}
use Rattle.fault.specs.declared.Fault.TheVariants.{Misfit, ShortBuffer}
use Rattle.fault.specs.First.{flag, earliest}
use Rattle.fault.proofs.First.{flag_failed, neither}
use Rattle.process.specs.Lts.{Lts}
use Rattle.process.specs.SingleVariant.{bit}
use Rattle.scale.specs.Algebra.{Algebra, Laws}
use Rattle.scale.specs.Variants.{variants}
use Rattle.scale.specs.YesNo.{yes_no}
use Rattle.scale.specs.Laws.{variants_laws, yes_no_laws}
use Rattle.casefile.specs.Refusal.{file_fault}
use Rattle.casefile.proofs.Accepts.{exactly}
use Rattle.meaning.specs.Cut.{cut_network, cut_graph}
use Rattle.meaning.specs.Graph.{Graph, Position, Fits, network_system}
use Rattle.meaning.specs.Member.{In}
use Rattle.meaning.specs.Network.{Network}
use Rattle.meaning.specs.System.{Solution}
use Rattle.meaning.specs.Value.{beginning, HasValue}
use Rattle.meaning.proofs.Theorems.{value_exists, cut_to_variant}
use Rattle.calls.specs.Fit.{fits}
use Rattle.calls.specs.Left.{left_places, all_left}
use Rattle.calls.specs.Memory.{held, edge_rows, written}
use Rattle.calls.specs.Opening.{book_of, formula_graph}
use Rattle.calls.specs.Outcome.{opened, room_fault, closes, initial_fixed}
use Rattle.calls.specs.Process.{process_fault}
use Rattle.calls.specs.Promise.{places_of, Judged, Given, Passing, VerdictIsValue, VariantIsJudged, OneCase, OrderDoesNotMatter}
use Rattle.calls.specs.Runs.{Removal}
use Rattle.calls.specs.Equal.{Agree}
use Rattle.calls.proofs.Agree.{agree_fits, agree_solution}
use Rattle.calls.proofs.Lists.{tame_all, kept, once, passed, fits_at}
use Rattle.calls.proofs.Steps.{Tames, fits_of, valid_start, verdict_step}
use Rattle.calls.proofs.Tested.{tame_from, Fitting, fitting_true}
use Rattle.calls.proofs.Written.{written_agrees}

-- agreement goes both ways
agree_back : (G H : Graph) → Agree G H → Agree H G
agree_back G H a =
    let below : (q : ℕ) → q < H.nodes → q < G.nodes = λ q lt. subst (λ n. q < n) a.nodes lt in
    record {
      nodes = sym a.nodes;
      initial = sym a.initial;
      kind = λ q lt. sym (a.kind q (below q lt));
      block = λ q lt. sym (a.block q (below q lt));
      value = λ q lt. sym (a.value q (below q lt));
      edges = λ q lt. sym (a.edges q (below q lt));
    }

module _ {A : Algebra} (L : Laws A) (n : ℕ) (bs : List ℕ) (gs : List Removal) (left x : ℕ) (j : Judged A n bs gs left x) where
  well : file_fault A n bs ≡ None
  well = (neither (file_fault A n bs) (room_fault (formula_graph A bs).nodes (length (edge_rows (formula_graph A bs))) j.memory) j.opening).0

  pub few : (book_of bs).places ≤ 8
  few = ((exactly A n bs).0 well).header.places.1

  shut : (fits A (book_of bs) j.remainder j.holding ≡ true) × (closes j.remainder j.holding ≡ true)
  shut =
      let r = j.remainder in
      let m = j.holding in
      let a = neither (flag (not (fits A (book_of bs) r m && closes r m)) Misfit) (flag (not (initial_fixed r m) && ltb (length j.before) r.nodes) ShortBuffer) j.asked in
      and_parts (fits A (book_of bs) r m) (closes r m) (not-false (fits A (book_of bs) r m && closes r m) (flag_failed (not (fits A (book_of bs) r m && closes r m)) Misfit a.0))

  last : Fitting A (book_of bs) j.remainder j.holding
  last = fitting_true A (book_of bs) j.remainder j.holding shut.0

  module _ (N : Network) (g : Given N gs) (p : Passing A N left) where
    end_tame : Tames L (book_of bs) few N j.remainder.left
    end_tame y h = tame_from A (N y) (p y (subst (λ l. left_places l y ≡ true) j.rest h))

    all_tame : Tames L (book_of bs) few N (all_left (book_of bs).places)
    all_tame = tame_all L (book_of bs) few N j.run g end_tame

    abbrev first_graph : Graph
    first_graph = held (opened A bs) (written (formula_graph A bs) j.memory)

    agrees : Agree (formula_graph A bs) (held (opened A bs) (written (formula_graph A bs) j.memory))
    agrees = written_agrees (formula_graph A bs) j.memory (all_left (book_of bs).places)

    first_fits : Fits A (book_of bs) N (places_of bs) (held (opened A bs) (written (formula_graph A bs) j.memory))
    first_fits = fits_of L (book_of bs) few N (opened A bs) (written (formula_graph A bs) j.memory) (fits_at L (book_of bs) few N j.run last) all_tame

    pub formula_fits : Fits A (book_of bs) N (places_of bs) (formula_graph A bs)
    formula_fits = agree_fits L (book_of bs) N (places_of bs) first_graph (formula_graph A bs) (agree_back (formula_graph A bs) first_graph agrees) first_fits

    pub starts : (formula_graph A bs).initial < (formula_graph A bs).nodes
    starts = (fits_at L (book_of bs) few N j.run last).initial

    pub value_of_verdict : HasValue A (book_of bs) N (places_of bs) (formula_graph A bs) x
    value_of_verdict = record {
      solved = value_exists A L (book_of bs) N (places_of bs) (formula_graph A bs) formula_fits;
      always = λ V v.
          let r = j.remainder in
          let m = j.holding in
          let W = value_exists A L (book_of bs) N (left_places r.left) (held r m) (fits_of L (book_of bs) few N r m last end_tame) in
          let v' = agree_solution L (book_of bs) N (places_of bs) (formula_graph A bs) first_graph agrees formula_fits V v in
          kept L (book_of bs) few N j.run g all_tame last V v' W.0 W.1
          ∙ verdict_step L (book_of bs) few N r m last end_tame shut.1 j.before j.after x j.verdict W.0 W.1;
    }

pub verdict_is_value : VerdictIsValue
verdict_is_value A L n bs gs left x j N g p = value_of_verdict L n bs gs left x j N g p

pub variant_is_judged : VariantIsJudged
variant_is_judged n bs gs left x j N g p v v_in =
    let L = variants_laws in
    let B = book_of bs in
    let G = formula_graph variants bs in
    let f = formula_fits L n bs gs left x j N g p in
    let h = value_of_verdict L n bs gs left x j N g p in
    let V = h.solved in
    let cut = cut_to_variant B N (places_of bs) G f V.0 V.1 v v_in in
    let inside = valid_start L B (few L n bs gs left x j) N (places_of bs) f.processes in
    let same : (W : Position → ℕ) → Solution yes_no (network_system yes_no B (cut_network v N) (places_of bs) (cut_graph v G)) W → W (beginning N (places_of bs) G) ≡ bit v x =
    λ W w. sym (cut.1 W w (beginning N (places_of bs) G) (starts L n bs gs left x j N g p, inside)) ∙ ap (bit v) (h.always V.0 V.1) in (
      λ one. record {
        solved = value_exists yes_no yes_no_laws B (cut_network v N) (places_of bs) (cut_graph v G) cut.0;
        always = λ W w. same W w ∙ one;
      },
      λ k. sym (same k.solved.0 k.solved.1) ∙ k.always k.solved.0 k.solved.1,
    )

-- A network with the processes of two lists, and a process that does nothing elsewhere.
abbrev find : List Removal → ℕ → Option Lts
find [] p = None
find (g ∷ gs) p = cond (eqb g.place p) (Some g.process) (find gs p)

find_some : (gs : List Removal) (p : ℕ) (l : Lts) → find gs p ≡ Some l → (g : Removal) × In g gs × (g.place ≡ p) × (g.process ≡ l)
find_some [] p l h = let z : ◌≡◌ {A = ℕ} 0 1 = cc in absurd (omega arith)
find_some (g ∷ gs) p l h =
    ⊎_elim
    (λ e. (g, inl refl, eqb-true g.place p e, some_is (ap (λ b. cond b (Some g.process) (find gs p)) (sym e) ∙ h)))
    (λ e. let r = find_some gs p l (ap (λ b. cond b (Some g.process) (find gs p)) (sym e) ∙ h) in (r.0, inr r.1, r.2, r.3))
    (cases_Bool (eqb g.place p))
  where
    some_is : Some g.process ≡ Some l → g.process ≡ l
    some_is e = cc

find_in : (gs : List Removal) → ((c d : Removal) → In c gs → In d gs → c.place ≡ d.place → c.process ≡ d.process) → (g : Removal) → In g gs → find gs g.place ≡ Some g.process
find_in [] o g i = absurd i
find_in (c ∷ gs) o g i =
    ⊎_elim
    (λ e. ap (λ b. cond b (Some c.process) (find gs g.place)) (eq-eqb c.place g.place e) ∙ ap Some (o c g (inl refl) i e))
    (λ n.
    ap (λ b. cond b (Some c.process) (find gs g.place)) (ne_eqb c.place g.place n)
    ∙ ⊎_elim (λ e. absurd (n (ap (λ y. y.place) (sym e)))) (λ k. find_in gs (λ a b x y. o a b (inr x) (inr y)) g k) i)
    (cases_eq c.place g.place)

abbrev pub idle : Lts
idle = record { states = 1; initial = 0; transitions = λ s. [] }

pub idle_passes : (A : Algebra) → process_fault A idle ≡ None
unfolding earliest
idle_passes A = refl

abbrev both : List Removal → List Removal → Network
both gs hs p = unwrap_or (find gs p) (unwrap_or (find hs p) idle)

module _ (A : Algebra) (gs hs : List Removal) (fine : (d : Removal) → In d gs → process_fault A d.process ≡ None) (fine' : (d : Removal) → In d hs → process_fault A d.process ≡ None) where
  everywhere : (p : ℕ) → process_fault A (both gs hs p) ≡ None
  everywhere p = go (find gs p) (find hs p) refl refl
    where
      go : (a b : Option Lts) → find gs p ≡ a → find hs p ≡ b → process_fault A (unwrap_or a (unwrap_or b idle)) ≡ None
      go (Some l) b e f = let r = find_some gs p l e in subst (λ k. process_fault A k ≡ None) r.3 (fine r.0 r.1)
      go None (Some l) e f = let r = find_some hs p l f in subst (λ k. process_fault A k ≡ None) r.3 (fine' r.0 r.1)
      go None None e f = idle_passes A

  given : ((c d : Removal) → In c gs → In d gs → c.place ≡ d.place → c.process ≡ d.process) → Given (both gs hs) gs
  given o g i = ap (λ a. unwrap_or a (unwrap_or (find hs g.place) idle)) (find_in gs o g i)

  given' : ((c d : Removal) → In c hs → In d hs → c.place ≡ d.place → c.process ≡ d.process) → OneCase gs hs → Given (both gs hs) hs
  given' o same h i = go (find gs h.place) refl
    where
      go : (a : Option Lts) → find gs h.place ≡ a → unwrap_or a (unwrap_or (find hs h.place) idle) ≡ h.process
      go (Some l) e = let r = find_some gs h.place l e in sym r.3 ∙ same r.0 h r.1 i r.2
      go None e = ap (λ a. unwrap_or a idle) (find_in hs o h i)

pub order_does_not_matter : OrderDoesNotMatter
order_does_not_matter A L n bs gs hs left rest x y j k same =
    let B = book_of bs in
    let f = few L n bs gs left x j in
    let nobody : Network = λ _. idle in
    let fine = passed L B f nobody j.run in
    let fine' = passed L B f nobody k.run in
    let M = both gs hs in
    let ok = everywhere A gs hs fine fine' in
    let a = value_of_verdict L n bs gs left x j M (given A gs hs fine fine' (once L B f nobody j.run)) (λ p t. ok p) in
    let b = value_of_verdict L n bs hs rest y k M (given' A gs hs fine fine' (once L B f nobody k.run) same) (λ p t. ok p) in
    sym (a.always a.solved.0 a.solved.1) ∙ b.always a.solved.0 a.solved.1
