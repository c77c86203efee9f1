-- Bit v of the value on the variants scale is the value on yes/no of the network and graph cut to variant v.
use Rattle.std.proofs.Common.{◌≡◌, ℕ, zero, suc, ◌-◌, ◌/◌, ◌%◌, ◌^◌, ◌<◌, ◌≤◌, min, max, Bool, true, false, cond, ◌&&◌, eqb, ltb, ◌⊎◌, length, sym, refl, ap, ◌∙◌, subst, inl, inr, ⊎_elim, pow-suc, arith}
use lib.Bits.{bit_and, bit_or, or_lt}
use lib.Pow.{pow-lt}
use Rattle.std.proofs.lemmas.Bool.{cases_eq, cases_Bool, true≢false, lt-ltb, ltb-true}
use Rattle.process.specs.SingleVariant.{bit, cut_transition}
use Rattle.process.specs.declared.Transition.{Transition}
use Rattle.records.specs.declared.Guard.{Guard}
use Rattle.records.specs.declared.Guard.TheVariants.{Plain, By}
use Rattle.records.specs.declared.Kind.{Kind}
use Rattle.records.specs.declared.Kind.TheVariants.{AnyOf, AllOf, Fixed}
use Rattle.records.specs.declared.Sign.{Sign}
use Rattle.records.specs.declared.Sign.TheVariants.{Least, Greatest}
use Rattle.scale.specs.Algebra.{Value, Under}
use Rattle.scale.specs.Variants.{variants, variants_value}
use Rattle.scale.specs.YesNo.{yes_no, yes_no_value}
use Rattle.scale.specs.Bitwise.{bit_half, bit_of_or, bit_of_and, bit_complement, same_bits}
use Rattle.scale.specs.Laws.{variants_laws, yes_no_laws}
use Rattle.meaning.specs.Cut.{cut_network, cut_edge, cut_graph}
use Rattle.meaning.specs.Graph.{Graph, Position, Fits, Moves, network_system}
use Rattle.meaning.specs.Member.{In}
use Rattle.meaning.specs.Network.{Book, Network, Places, State, Valid, Leads, asked, counts, meet_over}
use Rattle.meaning.specs.System.{System, Next, goes, ends, share, Toward, Solution}
use Rattle.meaning.proofs.Compare.{Adjoint, Before, Comparable, compare}
use Rattle.meaning.proofs.Exists.{strong}
use Rattle.meaning.proofs.Members.{in_map, of_map}
use Rattle.meaning.proofs.Order.{turned_back, share_value, share_toward, toward_refl, toward_antisym}
use Rattle.meaning.proofs.Removal.{way_values, network_closed}
use Rattle.meaning.proofs.Ways.{meet_over_value, meet_over_same}

-- Bits of numbers.
raw : (v x : ℕ) → v < 64 → bit v x ≡ x / 2 ^ v % 2
raw v x h = ap (λ b. cond b (x / 2 ^ v % 2) 0) (lt-ltb v 64 h)

pub bit_small : (v x : ℕ) → bit v x < 2
bit_small v x = ⊎_elim (λ e. rw e (omega arith)) (λ e. rw e (omega arith)) (cases_Bool (ltb v 64))

-- the bits of a power of two
half_pow : (v : ℕ) → 2 ^ suc v / 2 ≡ 2 ^ v
half_pow v = omega (arith, pow-suc 2 v)

pub pow_bit_same : (v : ℕ) → 2 ^ v / 2 ^ v % 2 ≡ 1
pow_bit_same zero = refl
pow_bit_same (suc v) = sym (bit_half v (2 ^ suc v)) ∙ ap (λ x. x / 2 ^ v % 2) (half_pow v) ∙ pow_bit_same v

pub zero_bit : (w : ℕ) → 0 / 2 ^ w % 2 ≡ 0
zero_bit zero = refl
zero_bit (suc w) = sym (bit_half w 0) ∙ zero_bit w

pub pow_bit_other : (w v : ℕ) → (w ≡ v → ⊥) → 2 ^ v / 2 ^ w % 2 ≡ 0
pow_bit_other zero zero n = absurd (n refl)
pow_bit_other zero (suc v) n = omega (arith, pow-suc 2 v)
pow_bit_other (suc w) zero n = sym (bit_half w 1) ∙ zero_bit w
pow_bit_other (suc w) (suc v) n = sym (bit_half w (2 ^ suc v)) ∙ ap (λ x. x / 2 ^ w % 2) (half_pow v) ∙ pow_bit_other w v (λ e. n (ap suc e))

-- The operations on values.
coded : (x : ℕ) → Value variants x → x < 2 ^ 64
coded x h = ltb-true x (2 ^ 64) h

value_of : (x : ℕ) → x < 2 ^ 64 → Value variants x
value_of x h = lt-ltb x (2 ^ 64) h

join_is : (x y : ℕ) → Value variants x → Value variants y → variants.join x y ≡ bit_or x y
join_is x y a b = ap (λ t. cond (t && variants_value y) (bit_or x y) 0) a ∙ ap (λ t. cond t (bit_or x y) 0) b

meet_is : (x y : ℕ) → Value variants x → Value variants y → variants.meet x y ≡ bit_and x y
meet_is x y a b = ap (λ t. cond (t && variants_value y) (bit_and x y) 0) a ∙ ap (λ t. cond t (bit_and x y) 0) b

complement_is : (x : ℕ) → Value variants x → variants.complement x ≡ 2 ^ 64 - 1 - x
complement_is x a = ap (λ t. cond t (2 ^ 64 - 1 - x) 0) a

small : (x : ℕ) → x < 2 → Value yes_no x
small x h = lt-ltb x 2 h

yn_join : (x y : ℕ) → x < 2 → y < 2 → yes_no.join x y ≡ max x y
yn_join x y a b = ap (λ t. cond (t && yes_no_value y) (max x y) 0) (small x a) ∙ ap (λ t. cond t (max x y) 0) (small y b)

yn_meet : (x y : ℕ) → x < 2 → y < 2 → yes_no.meet x y ≡ min x y
yn_meet x y a b = ap (λ t. cond (t && yes_no_value y) (min x y) 0) (small x a) ∙ ap (λ t. cond t (min x y) 0) (small y b)

yn_complement : (x : ℕ) → x < 2 → yes_no.complement x ≡ 1 - x
yn_complement x a = ap (λ t. cond t (1 - x) 0) (small x a)

-- The order, bit by bit.
bits_rise : (x y : ℕ) → Under variants x y → (w : ℕ) → x / 2 ^ w % 2 ≤ y / 2 ^ w % 2
bits_rise x y h w =
    let e : bit_or x y ≡ y = sym (join_is x y h.low h.high) ∙ h.joined in
    omega (arith, bit_of_or w x y, ap (λ z. z / 2 ^ w % 2) e)

rise_bits : (x y : ℕ) → Value variants x → Value variants y → ((w : ℕ) → w < 64 → x / 2 ^ w % 2 ≤ y / 2 ^ w % 2) → Under variants x y
rise_bits x y a b h = record {
  low = a;
  high = b;
  joined = join_is x y a b ∙ same_bits 64 (bit_or x y) y (or_lt 64 x y (coded x a) (coded y b)) (coded y b) (λ w lt. omega (arith, bit_of_or w x y, h w lt));
}

yn_le : (x y : ℕ) → Under yes_no x y → x ≤ y
yn_le x y h = omega (arith, sym (yn_join x y (ltb-true x 2 h.low) (ltb-true y 2 h.high)) ∙ h.joined)

yn_under : (x y : ℕ) → x < 2 → y < 2 → x ≤ y → Under yes_no x y
yn_under x y a b h = record { low = small x a; high = small y b; joined = yn_join x y a b ∙ omega arith }

module _ (v : ℕ) (v_in : v < 64) where
  bit_value : (x : ℕ) → Value yes_no (bit v x)
  bit_value x = small (bit v x) (bit_small v x)

  -- a bit is that of its operation
  bit_of_meet : (x y : ℕ) → Value variants x → Value variants y → bit v (variants.meet x y) ≡ yes_no.meet (bit v x) (bit v y)
  bit_of_meet x y a b =
      ap (bit v) (meet_is x y a b) ∙ raw v (bit_and x y) v_in ∙ bit_of_and v x y
      ∙ (λ i. min (sym (raw v x v_in) i) (sym (raw v y v_in) i)) ∙ sym (yn_meet (bit v x) (bit v y) (bit_small v x) (bit_small v y))

  bit_of_join : (x y : ℕ) → Value variants x → Value variants y → bit v (variants.join x y) ≡ yes_no.join (bit v x) (bit v y)
  bit_of_join x y a b =
      ap (bit v) (join_is x y a b) ∙ raw v (bit_or x y) v_in ∙ bit_of_or v x y
      ∙ (λ i. max (sym (raw v x v_in) i) (sym (raw v y v_in) i)) ∙ sym (yn_join (bit v x) (bit v y) (bit_small v x) (bit_small v y))

  bit_of_complement : (x : ℕ) → Value variants x → bit v (variants.complement x) ≡ yes_no.complement (bit v x)
  bit_of_complement x a =
      ap (bit v) (complement_is x a) ∙ raw v (2 ^ 64 - 1 - x) v_in ∙ bit_complement v 64 x v_in (coded x a)
      ∙ ap (λ b. 1 - b) (sym (raw v x v_in)) ∙ sym (yn_complement (bit v x) (bit_small v x))

  bit_of_share : (k : Kind) (x y : ℕ) → Value variants x → Value variants y → bit v (share variants k x y) ≡ share yes_no k (bit v x) (bit v y)
  bit_of_share AnyOf x y a b = bit_of_meet x y a b
  bit_of_share AllOf x y a b =
      bit_of_join (variants.complement x) y (variants_laws.complement_value x) b ∙ ap (λ c. yes_no.join c (bit v y)) (bit_of_complement x a)
  bit_of_share Fixed x y a b = bit_of_meet x y a b

  bit_of_meets : (k : ℕ) (c : Places) (w : ℕ → ℕ) → ((p : ℕ) → c p ≡ true → Value variants (w p)) → bit v (meet_over variants k c w) ≡ meet_over yes_no k c (λ p. bit v (w p))
  bit_of_meets zero c w h = raw v (2 ^ 64 - 1) v_in ∙ bit_complement v 64 0 v_in (omega arith) ∙ ap (λ b. 1 - b) (zero_bit v)
  bit_of_meets (suc k) c w h =
      ⊎_elim
      (λ t. rw t (bit_of_meet (meet_over variants k c w) (w k) (meet_over_value variants_laws k c w) (h k t) ∙ ap (λ b. yes_no.meet b (bit v (w k))) (bit_of_meets k c w h)))
      (λ n. rw n (bit_of_meets k c w h))
      (cases_Bool (c k))

  -- The most, and the least, that has a given bit v.
  most : ℕ → ℕ
  most y = cond (eqb y 0) (2 ^ 64 - 1 - 2 ^ v) (2 ^ 64 - 1)

  fewest : ℕ → ℕ
  fewest y = cond (eqb y 0) 0 (2 ^ v)

  pow_in : 2 ^ v < 2 ^ 64
  pow_in = pow-lt v_in

  zero_or_one : (y : ℕ) → y < 2 → (y ≡ 0) ⊎ (y ≡ 1)
  zero_or_one zero h = inl refl
  zero_or_one (suc zero) h = inr refl
  zero_or_one (suc (suc y)) h = absurd (omega arith)

  most_value : (y : ℕ) → y < 2 → Value variants (most y)
  unfolding most
  most_value y h = ⊎_elim (λ e. rw e (value_of (2 ^ 64 - 1 - 2 ^ v) (omega arith))) (λ e. rw e (value_of (2 ^ 64 - 1) (omega arith))) (zero_or_one y h)

  fewest_value : (y : ℕ) → y < 2 → Value variants (fewest y)
  unfolding fewest
  fewest_value y h = ⊎_elim (λ e. rw e refl) (λ e. rw e (value_of (2 ^ v) pow_in)) (zero_or_one y h)

  -- their bits
  most_here : (y : ℕ) → y < 2 → most y / 2 ^ v % 2 ≡ y
  unfolding most
  most_here y h =
      ⊎_elim
      (λ e. rw e (bit_complement v 64 (2 ^ v) v_in pow_in ∙ ap (λ b. 1 - b) (pow_bit_same v)))
      (λ e. rw e (bit_complement v 64 0 v_in (omega arith) ∙ ap (λ b. 1 - b) (zero_bit v)))
      (zero_or_one y h)

  most_there : (y w : ℕ) → y < 2 → w < 64 → (w ≡ v → ⊥) → most y / 2 ^ w % 2 ≡ 1
  unfolding most
  most_there y w h lt n =
      ⊎_elim
      (λ e. rw e (bit_complement w 64 (2 ^ v) lt pow_in ∙ ap (λ b. 1 - b) (pow_bit_other w v n)))
      (λ e. rw e (bit_complement w 64 0 lt (omega arith) ∙ ap (λ b. 1 - b) (zero_bit w)))
      (zero_or_one y h)

  fewest_here : (y : ℕ) → y < 2 → fewest y / 2 ^ v % 2 ≡ y
  unfolding fewest
  fewest_here y h = ⊎_elim (λ e. rw e (zero_bit v)) (λ e. rw e (pow_bit_same v)) (zero_or_one y h)

  fewest_there : (y w : ℕ) → y < 2 → (w ≡ v → ⊥) → fewest y / 2 ^ w % 2 ≡ 0
  unfolding fewest
  fewest_there y w h n = ⊎_elim (λ e. rw e (zero_bit w)) (λ e. rw e (pow_bit_other w v n)) (zero_or_one y h)

  one_bit : (x w : ℕ) → x / 2 ^ w % 2 < 2
  one_bit x w = omega arith

  abbrev adjoint : (τ : Sign) → Adjoint variants yes_no τ
  adjoint Least = record {
    f = bit v;
    g = most;
    f_value = λ x a. bit_value x;
    g_value = λ y b. most_value y (ltb-true y 2 b);
    up = λ x y a b t. record {
      ordered = rise_bits x (most y) a (most_value y (ltb-true y 2 b))
          (λ w lt.
          ⊎_elim
          (λ e. rw e (omega (arith, most_here y (ltb-true y 2 b), yn_le (bit v x) y t.ordered, raw v x v_in)))
          (λ n. omega (arith, most_there y w (ltb-true y 2 b) lt n, one_bit x w))
          (cases_eq w v));
    };
    down = λ x y a b t. record { ordered = yn_under (bit v x) y (bit_small v x) (ltb-true y 2 b) (omega (arith, bits_rise x (most y) t.ordered v, most_here y (ltb-true y 2 b), raw v x v_in)) };
  }
  adjoint Greatest = record {
    f = bit v;
    g = fewest;
    f_value = λ x a. bit_value x;
    g_value = λ y b. fewest_value y (ltb-true y 2 b);
    up = λ x y a b t. record {
      ordered = rise_bits (fewest y) x (fewest_value y (ltb-true y 2 b)) a
          (λ w lt.
          ⊎_elim
          (λ e. rw e (omega (arith, fewest_here y (ltb-true y 2 b), yn_le y (bit v x) t.ordered, raw v x v_in)))
          (λ n. omega (arith, fewest_there y w (ltb-true y 2 b) n))
          (cases_eq w v));
    };
    down = λ x y a b t. record { ordered = yn_under y (bit v x) (ltb-true y 2 b) (bit_small v x) (omega (arith, bits_rise (fewest y) x t.ordered v, fewest_here y (ltb-true y 2 b), raw v x v_in)) };
  }

  -- A way of the network is a way of the cut one, with the bit of its weight.
  way_cut : (N : Network) (c : Places) (a : ℕ → ℕ) (g h : State) (u : ℕ) (w : Leads variants N c a g h u) → ((p : ℕ) → c p ≡ true → Value variants (w.taken p).weight) → Leads yes_no (cut_network v N) c a g h (bit v u)
  way_cut N c a g h u w values = record {
    taken = λ p. cut_transition v (w.taken p);
    listed = λ p t. in_map (cut_transition v) (w.taken p) ((N p).transitions (g p)) (w.listed p t);
    labelled = w.labelled;
    arrives = w.arrives;
    stays = w.stays;
    weighs = ap (bit v) w.weighs ∙ bit_of_meets 8 c (λ p. (w.taken p).weight) values;
  }

  -- And every way of the cut network comes from one.
  module _ (N : Network) (c : Places) (a : ℕ → ℕ) (g h : State) (u : ℕ) (w : Leads yes_no (cut_network v N) c a g h u) where
    whole : (p : ℕ) → c p ≡ true → (t : Transition) × In t ((N p).transitions (g p)) × (w.taken p ≡ cut_transition v t)
    whole p t = of_map (cut_transition v) (w.taken p) ((N p).transitions (g p)) (w.listed p t)

    pick : (p : ℕ) (b : Bool) → c p ≡ b → Transition
    pick p true e = (whole p e).0
    pick p false e = w.taken p

    picked : (p : ℕ) (b : Bool) (e : c p ≡ b) → c p ≡ true → In (pick p b e) ((N p).transitions (g p)) × (w.taken p ≡ cut_transition v (pick p b e))
    unfolding pick
    picked p true e t = ((whole p e).1, (whole p e).2)
    picked p false e t = absurd (true≢false (sym t ∙ e))

    chosen : ℕ → Transition
    chosen p = pick p (c p) refl

    weight_of : ℕ
    weight_of = meet_over variants 8 c (λ p. (chosen p).weight)

    way_whole : Leads variants N c a g h weight_of
    unfolding chosen weight_of
    way_whole = record {
      taken = chosen;
      listed = λ p t. (picked p (c p) refl t).0;
      labelled = λ p t. ap (λ y. y.label) (sym (picked p (c p) refl t).1) ∙ w.labelled p t;
      arrives = λ p t. ap (λ y. y.target) (sym (picked p (c p) refl t).1) ∙ w.arrives p t;
      stays = w.stays;
      weighs = refl;
    }

    bit_weight : ((p : ℕ) → c p ≡ true → Value variants (chosen p).weight) → bit v weight_of ≡ u
    unfolding chosen weight_of
    bit_weight values =
        bit_of_meets 8 c (λ p. (chosen p).weight) values
        ∙ meet_over_same yes_no_laws 8 c c (λ p. bit v (chosen p).weight) (λ p. (w.taken p).weight) (λ p l. refl) (λ p l t. ap (λ y. y.weight) (sym (picked p (c p) refl t).1))
        ∙ sym w.weighs

  module _ (B : Book) (N : Network) (left : Places) (G : Graph) (f : Fits variants B N left G) where
    abbrev S : System Position
    S = network_system variants B N left G

    abbrev T : System Position
    T = network_system yes_no B (cut_network v N) left (cut_graph v G)

    cut_valid : (g : State) → Valid N left g → Valid (cut_network v N) left g
    cut_valid g h = record { within = h.within; elsewhere = h.elsewhere }

    whole_valid : (g : State) → Valid (cut_network v N) left g → Valid N left g
    whole_valid g h = record { within = h.within; elsewhere = h.elsewhere }

    moves_cut : (γ : Guard) (w x : ℕ) (g h : State) → Value variants w → Valid N left g → Moves variants B N left γ w g x h → Moves yes_no B (cut_network v N) left γ (bit v w) g (bit v x) h
    moves_cut Plain w x g h value ok m = (ap (bit v) m.0, m.1)
    moves_cut (By r) w x g h value ok m =
        let u_value : Value variants m.0 = rw m.1.weighs (meet_over_value variants_laws 8 (counts B left r) (λ y. (m.1.taken y).weight)) in
        (bit v m.0, way_cut N (counts B left r) (asked B r) g h m.0 m.1 (way_values variants_laws B N left G f r g h m.0 ok m.1), ap (bit v) m.2 ∙ bit_of_meet w m.0 value u_value)

    values_of : (r : ℕ) (g h : State) (u : ℕ) (m : Leads yes_no (cut_network v N) (counts B left r) (asked B r) g h u) → Valid N left g → (p : ℕ) → counts B left r p ≡ true → Value variants (chosen N (counts B left r) (asked B r) g h u m p).weight
    unfolding way_whole
    values_of r g h u m ok = way_values variants_laws B N left G f r g h (weight_of N (counts B left r) (asked B r) g h u m) ok (way_whole N (counts B left r) (asked B r) g h u m)

    moves_whole : (γ : Guard) (w y : ℕ) (g h : State) → Value variants w → Valid N left g → Moves yes_no B (cut_network v N) left γ (bit v w) g y h → (x : ℕ) × Moves variants B N left γ w g x h × (y ≡ bit v x)
    moves_whole Plain w y g h value ok m = (w, (refl, m.1), m.0)
    moves_whole (By r) w y g h value ok m =
        let u : ℕ = weight_of N (counts B left r) (asked B r) g h m.0 m.1 in
        let way = way_whole N (counts B left r) (asked B r) g h m.0 m.1 in
        let u_value : Value variants u = rw way.weighs (meet_over_value variants_laws 8 (counts B left r) (λ z. (way.taken z).weight)) in
        let is : bit v u ≡ m.0 = bit_weight N (counts B left r) (asked B r) g h m.0 m.1 (values_of r g h m.0 m.1 ok) in
        (variants.meet w u, (u, way, refl), m.2 ∙ ap (yes_no.meet (bit v w)) (sym is) ∙ sym (bit_of_meet w u value u_value))

    -- an edge of one is before the edge of the other whose weight is its bit
    before : (τ : Sign) (k : Kind) (p q : Position) (x y : ℕ) → Value variants x → y ≡ bit v x → S.inside q → G.block p.node ≤ G.block q.node → Before variants_laws yes_no_laws τ (adjoint τ) S T k p x (goes q) y (goes q)
    before Least k p q x y a is i up U W rel =
        let r = rel q i up in
        (share_value variants_laws k x r.0, rw (bit_of_share k x (U q) a r.0, is) (share_toward yes_no_laws k (bit_value x) r.1))
    before Greatest k p q x y a is i up U W rel =
        let r = rel q i up in
        (share_value variants_laws k x r.0, rw (bit_of_share k x (U q) a r.0, is) (share_toward yes_no_laws k (bit_value x) r.1))

    moves_value : (γ : Guard) (w x : ℕ) (g h : State) → Value variants w → Moves variants B N left γ w g x h → Value variants x
    moves_value Plain w x g h value m = rw m.0 value
    moves_value (By r) w x g h value m = rw m.2 (variants_laws.meet_value w m.0)

    module _ (p : Position) (i : S.inside p) where
      on : (x : ℕ) (q : Position) → S.offers p x (goes q) → S.inside q × (G.block p.node ≤ G.block q.node) × Value variants x
      on x q o =
          let fit = f.graph.edges p.node i.0 o.0 o.1 in
          ((network_closed variants_laws B N left G f).stays p i x q o, rw o.2 fit.block, moves_value o.0.guard o.0.weight x p.state q.state fit.weight o.3)

      along : (τ : Sign) (k : Kind) (x : ℕ) (n : Next Position) → S.offers p x n → (y : ℕ) × (o : Next Position) × T.offers p y o × Before variants_laws yes_no_laws τ (adjoint τ) S T k p x n y o
      along τ k x (goes q) o =
          let r = on x q o in
          let fit = f.graph.edges p.node i.0 o.0 o.1 in (
            bit v x,
            goes q,
            (cut_edge v o.0, in_map (cut_edge v) o.0 (G.edges p.node) o.1, o.2, moves_cut o.0.guard o.0.weight x p.state q.state fit.weight i.1 o.3),
            before τ k p q x (bit v x) r.2 refl r.0 r.1,
          )
      along τ k x (ends c) o = absurd o

      against : (τ : Sign) (k : Kind) (y : ℕ) (o : Next Position) → T.offers p y o → (x : ℕ) × (n : Next Position) × S.offers p x n × Before variants_laws yes_no_laws τ (adjoint τ) S T k p x n y o
      against τ k y (goes q) o =
          let e = of_map (cut_edge v) o.0 (G.edges p.node) o.1 in
          let fit = f.graph.edges p.node i.0 e.0 e.1 in
          let moved = subst (λ d. Moves yes_no B (cut_network v N) left d.guard d.weight p.state y q.state) e.2 o.3 in
          let w = moves_whole e.0.guard e.0.weight y p.state q.state fit.weight i.1 moved in
          let offer : S.offers p w.0 (goes q) = (e.0, e.1, o.2 ∙ ap (λ d. d.target) e.2, w.1) in
          let r = on w.0 q offer in
          (w.0, goes q, offer, before τ k p q w.0 y r.2 w.2 r.0 r.1)
      against τ k y (ends c) o = absurd o

    fixed_before : (τ : Sign) (p : Position) → S.inside p → G.kind p.node ≡ Fixed → Value variants (G.value p.node) × Toward yes_no τ ((adjoint τ).f (G.value p.node)) (bit v (G.value p.node))
    fixed_before Least p i e = (f.graph.fixed p.node i.0 e, toward_refl yes_no_laws Least (bit_value (G.value p.node)))
    fixed_before Greatest p i e = (f.graph.fixed p.node i.0 e, toward_refl yes_no_laws Greatest (bit_value (G.value p.node)))

    comparable : (τ : Sign) → Comparable variants_laws yes_no_laws τ (adjoint τ) S T
    comparable τ = record {
      inside = λ p i. (i.0, cut_valid p.state i.1);
      inside_back = λ p i. (i.0, whole_valid p.state i.1);
      kind = λ p. refl;
      block = λ p. refl;
      sign = λ b. refl;
      at = λ p i. record { along = λ e x n o. inl (along p i τ (G.kind p.node) x n o); against = λ e y o h. against p i τ (G.kind p.node) y o h; fixed = fixed_before τ p i };
    }

    -- what is cut fits on yes/no
    pub cut_fits : Fits yes_no B (cut_network v N) left (cut_graph v G)
    cut_fits = record {
      processes = λ p t.
          let tame = f.processes p t in
          record {
            initial = tame.initial;
            labels = λ s lt y h. let o = of_map (cut_transition v) y ((N p).transitions s) h in λ no_label. tame.labels s lt o.0 o.1 (ap (λ z. z.label) (sym o.2) ∙ no_label);
            targets = λ s lt y h. let o = of_map (cut_transition v) y ((N p).transitions s) h in rw (ap (λ z. z.target) o.2) (tame.targets s lt o.0 o.1);
            weights = λ s lt y h. let o = of_map (cut_transition v) y ((N p).transitions s) h in rw (ap (λ z. z.weight) o.2) (bit_value o.0.weight);
          };
      graph = record {
        places = f.graph.places;
        blocks = f.graph.blocks;
        fixed = λ q lt e. bit_value (G.value q);
        edges = λ q lt e h.
            let o = of_map (cut_edge v) e (G.edges q) h in
            let fit = f.graph.edges q lt o.0 o.1 in
            record {
              weight = rw (ap (λ z. z.weight) o.2) (bit_value o.0.weight);
              target = rw (ap (λ z. z.target) o.2) fit.target;
              block = rw (ap (λ z. z.target) o.2) fit.block;
              guard = rw (ap (λ z. z.guard) o.2) fit.guard;
            };
      };
    }

    pub cut_value : (V W : Position → ℕ) → Solution variants S V → Solution yes_no T W → (p : Position) → (p.node < G.nodes) × Valid N left p.state → bit v (V p) ≡ W p
    cut_value V W s t p i =
        let v_strong = strong variants_laws B N left G f V s in
        let w_strong = strong yes_no_laws B (cut_network v N) left (cut_graph v G) cut_fits W t in
        let low : (q : Position) → S.inside q → G.block q.node < length B.signs = λ q j. f.graph.blocks q.node j.0 in
        let one = compare variants_laws yes_no_laws S T Least (adjoint Least) (comparable Least) (length B.signs) low V W v_strong w_strong p i in
        let two = compare variants_laws yes_no_laws S T Greatest (adjoint Greatest) (comparable Greatest) (length B.signs) low V W v_strong w_strong p i in
        toward_antisym yes_no_laws one (turned_back Least two)
