-- Trimming keeps the value at every node that stays and every global state.
use Rattle.std.proofs.Common.{◌≡◌, ℕ, zero, suc, ◌+◌, ◌<◌, ◌≤◌, Bool, true, false, cond, [], ◌∷◌, ◌++◌, length, get_or, sym, refl, ap, ◌∙◌, subst, inr, ⊎_elim, arith, length-append}
use lib.Seq.{get_or-append_seam}
use Rattle.std.proofs.lemmas.List.{get_or_append_left}
use Rattle.std.proofs.lemmas.Bool.{cases_Bool, cases_eq, cases_lt}
use Rattle.records.specs.declared.Edge.{Edge}
use Rattle.scale.specs.Algebra.{Algebra, Laws}
use Rattle.meaning.specs.Graph.{Graph, Position, Moves, Fits, offers_on, network_system}
use Rattle.meaning.specs.Member.{In}
use Rattle.meaning.specs.Network.{Book, Network, Places, Valid}
use Rattle.meaning.specs.System.{Next, goes, ends, Solution}
use Rattle.meaning.specs.Trim.{begins, follows, Marks, rank, marked, rename, trim_graph}
use Rattle.meaning.proofs.Exists.{strong}
use Rattle.meaning.proofs.Folding.{network_sound}
use Rattle.meaning.proofs.Members.{in_map, of_map}
use Rattle.meaning.proofs.Removal.{network_closed}
use Rattle.meaning.proofs.Sub.{Sub, sub_strong}
use Rattle.meaning.proofs.Transfer.{next_map}
use Rattle.meaning.proofs.Unique.{weaken}

-- Marked nodes and their numbers.
module _ (marks : ℕ → Bool) where
  rank_step : (q : ℕ) → marks q ≡ true → rank marks (suc q) ≡ rank marks q + 1
  rank_step q t = rw t refl

  rank_same : (q : ℕ) → marks q ≡ false → rank marks (suc q) ≡ rank marks q
  rank_same q n = ap (λ b. rank marks q + cond b 1 0) n ∙ omega arith

  pub rank_mono : (q n : ℕ) → q ≤ n → rank marks q ≤ rank marks n
  rank_mono q zero h = let e : q ≡ 0 = omega arith in omega (arith, ap (rank marks) e)
  rank_mono q (suc n) h =
      ⊎_elim
      (λ e. omega (arith, ap (rank marks) e))
      (λ (ne : q ≡ suc n → ⊥). omega (arith, rank_mono q n (omega arith)))
      (cases_eq q (suc n))

  pub rank_below : (q n : ℕ) → q < n → marks q ≡ true → rank marks q < rank marks n
  rank_below q n lt t = omega (arith, rank_mono (suc q) n lt, rank_step q t)

  length_marked : (n : ℕ) → length (marked marks n) ≡ rank marks n
  length_marked zero = refl
  length_marked (suc n) =
      length-append (marked marks n) (cond (marks n) (n ∷ []) [])
      ∙ (λ i. length_marked n i + last (marks n) i)
    where
      last : (b : Bool) → length (cond b (n ∷ []) []) ≡ cond b 1 0
      last true = refl
      last false = refl

  -- the last one
  marked_last : (n : ℕ) → marks n ≡ true → get_or (marked marks (suc n)) (rank marks n) 0 ≡ n
  marked_last n t =
      ap (λ b. get_or (marked marks n ++ cond b (n ∷ []) []) (rank marks n) 0) t
      ∙ ap (λ k. get_or (marked marks n ++ n ∷ []) k 0) (sym (length_marked n)) ∙ get_or-append_seam (marked marks n) n [] 0

  marked_before : (n i : ℕ) → i < rank marks n → get_or (marked marks (suc n)) i 0 ≡ get_or (marked marks n) i 0
  marked_before n i lt = get_or_append_left (marked marks n) (cond (marks n) (n ∷ []) []) 0 i (omega (arith, length_marked n))

  -- number rank q is q
  pub marked_at : (n q : ℕ) → q < n → marks q ≡ true → get_or (marked marks n) (rank marks q) 0 ≡ q
  marked_at zero q lt t = absurd (omega arith)
  marked_at (suc n) q lt t =
      ⊎_elim
      (λ e. ap (λ z. get_or (marked marks (suc n)) (rank marks z) 0) e ∙ marked_last n (ap marks (sym e) ∙ t) ∙ sym e)
      (λ (ne : q ≡ n → ⊥). marked_before n (rank marks q) (rank_below q n (omega arith) t) ∙ marked_at n q (omega arith) t)
      (cases_eq q n)

  -- and every number is a marked node's
  pub marked_is : (n i : ℕ) → i < rank marks n → (get_or (marked marks n) i 0 < n) × (marks (get_or (marked marks n) i 0) ≡ true) × (rank marks (get_or (marked marks n) i 0) ≡ i)
  marked_is zero i lt = absurd (omega arith)
  marked_is (suc n) i lt =
      ⊎_elim
      (λ below.
      let h = marked_is n i below in
      rw (marked_before n i below) (omega (arith, h.0), h.1, h.2))
      (λ (past : rank marks n ≤ i).
      let on : marks n ≡ true = ⊎_elim (λ t. t) (λ f. absurd (omega (arith, rank_same n f))) (cases_Bool (marks n)) in
      let e : i ≡ rank marks n = omega (arith, rank_step n on) in
      let is : get_or (marked marks (suc n)) i 0 ≡ n = ap (λ k. get_or (marked marks (suc n)) k 0) e ∙ marked_last n on in
      rw is (omega arith, on, sym e))
      (cases_lt i (rank marks n))

module _ {A : Algebra} (L : Laws A) (B : Book) (N : Network) (left : Places) (G : Graph) (f : Fits A B N left G) (marks : ℕ → Bool) (initial : G.initial < G.nodes) (m : Marks G marks) where
  abbrev pub old : ℕ → ℕ
  old i = get_or (marked marks G.nodes) i 0

  -- the marks are closed under edges
  marks_on : (q : ℕ) → q < G.nodes → marks q ≡ true → (e : Edge) → In e (G.edges q) → marks e.target ≡ true
  marks_on q lt t e h = (m e.target (f.graph.edges q lt e h).target).1 (follows e ((m q lt).0 t) h)

  pub marks_initial : marks G.initial ≡ true
  marks_initial = (m G.initial initial).1 begins

  pub old_initial : old (rank marks G.initial) ≡ G.initial
  old_initial = marked_at marks G.nodes G.initial initial marks_initial

  pub trim_initial : rank marks G.initial < rank marks G.nodes
  trim_initial = rank_below marks G.initial G.nodes initial marks_initial

  pub trim_fits : Fits A B N left (trim_graph marks G)
  trim_fits = record {
    processes = f.processes;
    graph = record {
      places = f.graph.places;
      blocks = λ i lt. f.graph.blocks (old i) (marked_is marks G.nodes i lt).0;
      fixed = λ i lt. f.graph.fixed (old i) (marked_is marks G.nodes i lt).0;
      edges = λ i lt d h.
          let o = of_map (rename marks) d (G.edges (old i)) h in
          let at = marked_is marks G.nodes i lt in
          let fit = f.graph.edges (old i) at.0 o.0 o.1 in
          let t = marks_on (old i) at.0 at.1 o.0 o.1 in
          let back : old (rank marks o.0.target) ≡ o.0.target = marked_at marks G.nodes o.0.target fit.target t in
          record {
            weight = rw (ap (λ c. c.weight) o.2) fit.weight;
            target = rw (ap (λ c. c.target) o.2) (rank_below marks o.0.target G.nodes fit.target t);
            block = rw (ap (λ c. c.target) o.2, back) fit.block;
            guard = rw (ap (λ c. c.guard) o.2) fit.guard;
          };
    };
  }

  abbrev back_to : Position → Position
  back_to p = record { node = old p.node; state = p.state }

  abbrev on_to : Position → Position
  on_to p = record { node = rank marks p.node; state = p.state }

  position : (q r : Position) → q.node ≡ r.node → q.state ≡ r.state → q ≡ r
  position q r a b = λ i. record { node = a i; state = b i }

  forth : (q : Position) → (x : ℕ) (n : Next Position) → offers_on A B N left G (back_to q) x n → offers_on A B N left (trim_graph marks G) q x (next_map on_to n)
  forth q x (goes p) o = (rename marks o.0, in_map (rename marks) o.0 (G.edges (old q.node)) o.1, ap (rank marks) o.2, o.3)
  forth q x (ends c) o = absurd o

  among : (q : Position) → (q.node < rank marks G.nodes) × Valid N left q.state → (x : ℕ) (p : Position) → offers_on A B N left G (back_to q) x (goes p) → marks p.node ≡ true
  among q i x p o =
      let at = marked_is marks G.nodes q.node i.0 in
      ap marks o.2 ∙ marks_on (old q.node) at.0 at.1 o.0 o.1

  back : (q : Position) → (q.node < rank marks G.nodes) × Valid N left q.state → (x : ℕ) (n : Next Position) → offers_on A B N left (trim_graph marks G) q x n → offers_on A B N left G (back_to q) x (next_map back_to n)
  back q i x (goes p) o =
      let e = of_map (rename marks) o.0 (G.edges (old q.node)) o.1 in
      let at = marked_is marks G.nodes q.node i.0 in
      let fit = f.graph.edges (old q.node) at.0 e.0 e.1 in
      let t = marks_on (old q.node) at.0 at.1 e.0 e.1 in
      let target : old p.node ≡ e.0.target = ap old (o.2 ∙ ap (λ c. c.target) e.2) ∙ marked_at marks G.nodes e.0.target fit.target t in
      (e.0, e.1, target, subst (λ c. Moves A B N left c.guard c.weight q.state x p.state) e.2 o.3)
  back q i x (ends c) o = absurd o

  trim_sub : (V : Position → ℕ) → Sub A (network_system A B N left G) (network_system A B N left (trim_graph marks G)) V
  trim_sub V = record {
    f = back_to;
    g = on_to;
    hit = λ p. marks p.node;
    f_inside = λ q i. ((marked_is marks G.nodes q.node i.0).0, i.1);
    f_hit = λ q i. (marked_is marks G.nodes q.node i.0).1;
    g_f = λ q i. position (on_to (back_to q)) q (marked_is marks G.nodes q.node i.0).2 refl;
    g_inside = λ p i h. (rank_below marks p.node G.nodes i.0 h, i.1);
    f_g = λ p i h. position (back_to (on_to p)) p (marked_at marks G.nodes p.node i.0 h) refl;
    block = λ q. refl;
    sign = λ b. refl;
    at = λ q i. inr (refl, refl, forth q, among q i, back q i);
  }

  pub trim_solution : (V : Position → ℕ) → Solution A (network_system A B N left G) V → Solution A (network_system A B N left (trim_graph marks G)) (λ p. V (record { node = old p.node; state = p.state }))
  unfolding trim_sub
  trim_solution V v =
      weaken L (network_system A B N left (trim_graph marks G)) (λ p. V (back_to p))
      (sub_strong L (network_system A B N left G) (network_system A B N left (trim_graph marks G)) (network_sound L B N left G f) (network_closed L B N left (trim_graph marks G) trim_fits) V (strong L B N left G f V v) (trim_sub V))
