-- Graphs that are equal below their count of nodes have the same solutions.
use Rattle.std.proofs.Common.{◌≡◌, ℕ, ◌<◌, sym, refl, ◌∙◌, subst, inl}
use Rattle.scale.specs.Algebra.{Algebra, Laws}
use Rattle.meaning.specs.Graph.{Graph, Position, WellFormedGraph, Fits, offers_on, network_system}
use Rattle.meaning.specs.Member.{In}
use Rattle.meaning.specs.Network.{Book, Network, Places}
use Rattle.meaning.specs.System.{Next, goes, ends, exactly, Solution}
use Rattle.meaning.proofs.Removal.{network_closed}
use Rattle.calls.specs.Equal.{Agree, EqualBelow}
use Rattle.meaning.proofs.Transfer.{Alike, next_map, transfer}

below : (G H : Graph) → Agree G H → (q : ℕ) → q < H.nodes → q < G.nodes
below G H a q lt = subst (λ n. q < n) a.nodes lt

module _ {A : Algebra} (B : Book) (left : Places) (G H : Graph) (a : Agree G H) where
  pub agree_formed : WellFormedGraph A B left G → WellFormedGraph A B left H
  agree_formed f = record {
    places = f.places;
    blocks = λ q lt. rw (a.block q (below G H a q lt)) (f.blocks q (below G H a q lt));
    fixed = λ q lt e. rw (a.value q (below G H a q lt)) (f.fixed q (below G H a q lt) (sym (a.kind q (below G H a q lt)) ∙ e));
    edges = λ q lt e h.
        let told = f.edges q (below G H a q lt) e (subst (In e) (a.edges q (below G H a q lt)) h) in
        record {
          weight = told.weight;
          target = rw a.nodes told.target;
          block = rw (a.block q (below G H a q lt), a.block e.target told.target) told.block;
          guard = told.guard;
        };
  }

module _ {A : Algebra} (L : Laws A) (B : Book) (N : Network) (left : Places) (G H : Graph) (a : Agree G H) where
  pub agree_fits : Fits A B N left G → Fits A B N left H
  agree_fits f = record { processes = f.processes; graph = agree_formed B left G H a f.graph }

  next_same : (n : Next Position) → next_map (λ p. p) n ≡ n
  next_same (goes p) = refl
  next_same (ends c) = refl

  offers_on_to : (p : Position) → p.node < G.nodes → (x : ℕ) (n : Next Position) → offers_on A B N left G p x n → offers_on A B N left H p x n
  offers_on_to p lt x (goes q) o = (o.0, subst (In o.0) (sym (a.edges p.node lt)) o.1, o.2, o.3)
  offers_on_to p lt x (ends v) o = absurd o

  offers_back : (p : Position) → p.node < G.nodes → (x : ℕ) (n : Next Position) → offers_on A B N left H p x n → offers_on A B N left G p x n
  offers_back p lt x (goes q) o = (o.0, subst (In o.0) (a.edges p.node lt) o.1, o.2, o.3)
  offers_back p lt x (ends v) o = absurd o

  agree_alike : Alike A (network_system A B N left G) (network_system A B N left H)
  agree_alike = record {
    to = λ p. p;
    from = λ p. p;
    to_inside = λ p i. (rw a.nodes i.0, i.1);
    from_inside = λ p i. (below G H a p.node i.0, i.1);
    from_to = λ p i. refl;
    to_from = λ p i. refl;
    kind = λ p i. a.kind p.node i.0;
    block = λ p i. a.block p.node i.0;
    fixed = λ p i. a.value p.node i.0;
    sign = λ b. refl;
    forth = λ p i x n o. inl (rw (next_same n) (offers_on_to p i.0 x n o));
    back = λ p i x n o. inl (n, offers_back p i.0 x n o, next_same n);
  }

  -- a solution of one solves the other
  pub agree_solution : Fits A B N left G → (V : Position → ℕ) → Solution A (network_system A B N left G) V → Solution A (network_system A B N left H) V
  unfolding agree_alike
  agree_solution f V v = transfer L (network_closed L B N left G f) (network_closed L B N left H (agree_fits f)) agree_alike exactly V v

pub equal_below : EqualBelow
equal_below A L B N left G H a f = (agree_fits L B N left G H a f, agree_solution L B N left G H a f)
