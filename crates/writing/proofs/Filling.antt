-- What is put into a memory piece by piece, and the rows of a graph one by one.
use Rattle.std.proofs.Common.{◌≡◌, ℕ, zero, suc, ◌+◌, ◌-◌, ◌<◌, ◌≤◌, List, [], ◌∷◌, ◌++◌, map, length, take, drop, set, sym, refl, ap, ◌∙◌, append_assoc, add-zero, zero-add, add-one, arith, length-append, length-drop, length-take}
use Rattle.std.specs.List.{range_with_len}
use Rattle.std.proofs.lemmas.List.FromFn.{map-range_with_len_more, length-map-range_with_len}
use Rattle.std.proofs.lemmas.List.{append-nil, take_at, drop_at, drop-drop, set_split, take_all, drop_all}
use borrow.Rule.Slice.PartMut.{put_mid}
use Rattle.records.specs.declared.Edge.{Edge}
use Rattle.records.specs.declared.Node.{Node}
use Rattle.meaning.specs.Graph.{Graph}
use Rattle.meaning.specs.Quotient.{gathered}
use Rattle.calls.specs.Memory.{edges_before, node_row, edge_rows, over}
use Rattle.writing.specs.Row.{row}

module _ {X : Type 0} where
  pub length_over : (out before : List X) → length out ≤ length before → length (over out before) ≡ length before
  length_over out before h = omega (arith, length-append out (drop (length out) before), length-drop (length out) before)

  -- one piece more behind those before
  pub over_next : (count : ℕ) (out piece before now after : List X) → now ≡ over out before → count ≡ length out
      → after ≡ take count now ++ over piece (drop count now) → after ≡ over (out ++ piece) before
  over_next count out piece before now after so_far here step =
      let D = drop (length out) before in
      let head : take count now ≡ out = ap (take count) so_far ∙ take_at out D count (sym here) in
      let tail : drop count now ≡ D = ap (drop count) so_far ∙ drop_at out D count (sym here) in
      step ∙ ap (λ l. l ++ over piece (drop count now)) head ∙ ap (λ l. out ++ over piece l) tail
      ∙ sym (append_assoc out piece (drop (length piece) D))
      ∙ ap (λ l. (out ++ piece) ++ l) (drop-drop (length piece) (length out) before ∙ ap (λ n. drop n before) (sym (length-append out piece)))

  -- a piece at the front of what stands behind an index
  pub behind : (at : ℕ) (piece now room : List X) → at ≤ length now → room ≡ over piece (take (length now - at) (drop at now))
      → put_mid at (length now - at) now room ≡ take at now ++ over piece (drop at now)
  behind at piece now room within step =
      let size : length (drop at now) ≤ length now - at = omega (arith, length-drop at now) in
      ap (λ l. take at now ++ (room ++ l)) (drop_all (length now - at) (drop at now) size)
      ∙ ap (λ l. take at now ++ l) (append-nil room ∙ step ∙ ap (over piece) (take_all (length now - at) (drop at now) size))

  -- all that a front of a memory has room for
  pub over_front : (out before : List X) (n : ℕ) → n ≡ length out → over out (take n before) ++ drop n before ≡ over out before
  over_front out before n size =
      let rest : drop (length out) (take n before) ≡ [] = drop_all (length out) (take n before) (omega (arith, length-take n before)) in
      ap (λ l. l ++ drop n before) (ap (λ l. out ++ l) rest ∙ append-nil out) ∙ ap (λ k. out ++ drop k before) size

  -- one entry more
  pub over_one : (count : ℕ) (x : X) (out before now : List X) → now ≡ over out before → count ≡ length out → length out < length before
      → set now count x ≡ over (out ++ x ∷ []) before
  over_one count x out before now so_far here within =
      let long : length now ≡ length before = ap length so_far ∙ length_over out before (omega arith) in
      over_next count out (x ∷ []) before now (set now count x) so_far here
      (set_split now count x (omega arith) ∙ ap (λ l. take count now ++ x ∷ l) (ap (λ n. drop n now) (sym (add-one count)) ∙ sym (drop-drop 1 count now)))

-- the pieces of the numbers so far, and those of the next
pub gathered_more : {Y : Type 0} (f : ℕ → List Y) (a n : ℕ) → gathered f (range_with_len a (n + 1)) ≡ gathered f (range_with_len a n) ++ f (a + n)
gathered_more f a n = ap (λ k. gathered f (range_with_len a k)) (add-one n) ∙ more f a n
  where
    more : {Y : Type 0} (f : ℕ → List Y) (a n : ℕ) → gathered f (range_with_len a (suc n)) ≡ gathered f (range_with_len a n) ++ f (a + n)
    more f a zero = append-nil (f a) ∙ ap f (sym (add-zero a))
    more f a (suc n) =
        let e : a + 1 + n ≡ a + suc n = omega arith in
        ap (λ l. f a ++ l) (more f (a + 1) n ∙ ap (λ k. gathered f (range_with_len (a + 1) n) ++ f k) e) ∙ sym (append_assoc (f a) (gathered f (range_with_len (a + 1) n)) (f (a + suc n)))

-- the edges of the nodes before q, and with those of q
pub edges_more : (G : Graph) (q : ℕ) → gathered G.edges (range_with_len 0 (q + 1)) ≡ gathered G.edges (range_with_len 0 q) ++ G.edges q
edges_more G q = gathered_more G.edges 0 q ∙ ap (λ k. gathered G.edges (range_with_len 0 q) ++ G.edges k) (zero-add q)

pub length_more : (G : Graph) (q : ℕ) → length (gathered G.edges (range_with_len 0 (q + 1))) ≡ length (gathered G.edges (range_with_len 0 q)) + length (G.edges q)
length_more G q = ap length (edges_more G q) ∙ length-append (gathered G.edges (range_with_len 0 q)) (G.edges q)

pub before_is : (G : Graph) (q : ℕ) → edges_before G q ≡ length (gathered G.edges (range_with_len 0 q))
before_is G zero = refl
before_is G (suc q) = omega (arith, before_is G q, length_more G q, ap (λ k. length (gathered G.edges (range_with_len 0 k))) (add-one q))

-- the edges before a node are among all
pub length_within : (G : Graph) (q d : ℕ) → length (gathered G.edges (range_with_len 0 q)) ≤ length (gathered G.edges (range_with_len 0 (q + d)))
length_within G q zero = omega (arith, ap (λ k. length (gathered G.edges (range_with_len 0 k))) (add-zero q))
length_within G q (suc d) =
    let e : q + suc d ≡ q + d + 1 = omega arith in
    omega (arith, length_within G q d, length_more G (q + d), ap (λ k. length (gathered G.edges (range_with_len 0 k))) e)

pub edges_within : (G : Graph) (q : ℕ) → q ≤ G.nodes → length (gathered G.edges (range_with_len 0 q)) ≤ length (edge_rows G)
edges_within G q h =
    let e : q + (G.nodes - q) ≡ G.nodes = omega arith in
    omega (arith, length_within G q (G.nodes - q), ap (λ k. length (gathered G.edges (range_with_len 0 k))) e)

pub edges_with : (G : Graph) (q : ℕ) → q < G.nodes → length (gathered G.edges (range_with_len 0 q)) + length (G.edges q) ≤ length (edge_rows G)
edges_with G q h = omega (arith, length_more G q, edges_within G (q + 1) (omega arith))

-- the turn of a loop that writes a graph: a node is written behind those before, with its edges
module _ (G : Graph) (q at : ℕ) (here : at ≡ length (gathered G.edges (range_with_len 0 q))) where
  pub edges_step : (before now after : List Edge) → now ≡ over (gathered G.edges (range_with_len 0 q)) before
      → after ≡ take at now ++ over (G.edges q) (drop at now) → after ≡ over (gathered G.edges (range_with_len 0 (q + 1))) before
  edges_step before now after so_far step =
      over_next at (gathered G.edges (range_with_len 0 q)) (G.edges q) before now after so_far here step ∙ ap (λ l. over l before) (sym (edges_more G q))

  pub node_is : (count : ℕ) → count ≡ length (G.edges q) → row G q at count ≡ node_row G q
  node_is count many = ap (λ k. row G q at k) many ∙ ap (λ k. row G q k (length (G.edges q))) (here ∙ sym (before_is G q))

  pub nodes_step : (count : ℕ) (before now : List Node) (x : Node) → q < length before → count ≡ length (G.edges q)
      → now ≡ over (map (node_row G) (range_with_len 0 q)) before → x ≡ row G q at count
      → set now q x ≡ over (map (node_row G) (range_with_len 0 (q + 1))) before
  nodes_step count before now x within many so_far is =
      let size = length-map-range_with_len (node_row G) 0 q in
      over_one q x (map (node_row G) (range_with_len 0 q)) before now so_far (sym size) (omega arith)
      ∙ ap (λ l. over l before) (ap (λ y. map (node_row G) (range_with_len 0 q) ++ y ∷ []) (is ∙ node_is count many) ∙ sym (map-range_with_len_more (node_row G) 0 q q (omega arith)))

-- a node whose edges pass the limit takes the graph past it
pub past_limit : (G : Graph) (q total more limit : ℕ) → q < G.nodes → total ≡ length (gathered G.edges (range_with_len 0 q)) → more ≡ length (G.edges q) → limit - total < more → limit < length (edge_rows G)
past_limit G q total more limit lt so_far is over-it = omega (arith, edges_with G q lt)

-- what is gathered of the first numbers is among what is gathered of all
gathered_grows : {Y : Type 0} (f : ℕ → List Y) (a k d : ℕ) → length (gathered f (range_with_len a k)) ≤ length (gathered f (range_with_len a (k + d)))
gathered_grows f a k zero = omega (arith, ap (λ n. length (gathered f (range_with_len a n))) (add-zero k))
gathered_grows f a k (suc d) =
    let e : k + suc d ≡ k + d + 1 = omega arith in
    omega (arith, gathered_grows f a k d, ap length (gathered_more f a (k + d)), length-append (gathered f (range_with_len a (k + d))) (f (a + (k + d))), ap (λ n. length (gathered f (range_with_len a n))) e)

pub gathered_within : {Y : Type 0} (f : ℕ → List Y) (a k n : ℕ) → k ≤ n → length (gathered f (range_with_len a k)) ≤ length (gathered f (range_with_len a n))
gathered_within f a k n h =
    let e : k + (n - k) ≡ n = omega arith in
    omega (arith, gathered_grows f a k (n - k), ap (λ j. length (gathered f (range_with_len a j))) e)

-- the turn of a loop that writes what is gathered piece by piece
module _ {Y : Type 0} (f : ℕ → List Y) (a k n count : ℕ) (before now : List Y) (within : k < n)
    (here : count ≡ length (gathered f (range_with_len a k))) (so_far : now ≡ over (gathered f (range_with_len a k)) before) where
  pub gathered_end : (more : ℕ) → more ≡ length (f (a + k)) → count + more ≡ length (gathered f (range_with_len a (k + 1)))
  gathered_end more step = omega (arith, ap length (gathered_more f a k), length-append (gathered f (range_with_len a k)) (f (a + k)))

  pub gathered_room : count + length (f (a + k)) ≤ length (gathered f (range_with_len a n))
  gathered_room = omega (arith, ap length (gathered_more f a k), length-append (gathered f (range_with_len a k)) (f (a + k)), gathered_within f a (k + 1) n (omega arith))

  pub gathered_next : (after : List Y) → after ≡ take count now ++ over (f (a + k)) (drop count now) → after ≡ over (gathered f (range_with_len a (k + 1))) before
  gathered_next after step =
      over_next count (gathered f (range_with_len a k)) (f (a + k)) before now after so_far here step
      ∙ ap (λ l. over l before) (sym (gathered_more f a k))
