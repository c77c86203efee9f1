-- The known cases, computed.
use Rattle.std.proofs.Common.{◌≡◌, ℕ, suc, ◌<◌, true, ◌&&◌, eqb, length, refl, arith}
use Rattle.std.proofs.lemmas.Bool.{lt-ltb, ltb-true}
use Rattle.records.specs.declared.Sign.TheVariants.{Least, Greatest}
use Rattle.scale.specs.Algebra.{Algebra, Laws}
use Rattle.scale.specs.Laws.{variants_laws, yes_no_laws}
use Rattle.meaning.specs.Graph.{Graph, Fits}
use Rattle.meaning.specs.Known.{Case, Known, KnownCases, book, network, everywhere, graph, session, self_loop, weight_any, weight_all, weights_meet, two_takes}
use Rattle.meaning.specs.Network.{start}
use Rattle.meaning.specs.Check.{all, tame_test, node_test}
use Rattle.meaning.proofs.Check.{all_at, tame_tested, formed_tested}
use Rattle.meaning.proofs.Computed.{computed, final, after, spot}

module _ {A : Algebra} (L : Laws A) (c : Case) where
  on : (p : ℕ) → p < length c.processes → everywhere c p ≡ true
  on p lt = lt-ltb p (length c.processes) lt

  fits : all (length c.processes) (λ p. tame_test A (network c p)) ≡ true → all (length c.nodes) (node_test A (book c) (everywhere c) (graph c.nodes)) ≡ true → Fits A (book c) (network c) (everywhere c) (graph c.nodes)
  fits t n = record {
    processes = λ p h. tame_tested A (network c p) (all_at (length c.processes) (λ x. tame_test A (network c x)) t p (ltb-true p (length c.processes) h));
    graph = formed_tested A (book c) (everywhere c) (graph c.nodes) (λ p h. ltb-true p (length c.processes) h) n;
  }

  module _ (t : all (length c.processes) (λ p. tame_test A (network c p)) ≡ true) (n : all (length c.nodes) (node_test A (book c) (everywhere c) (graph c.nodes)) ≡ true) where
    abbrev last : Graph
    last = final L (book c) (network c) (everywhere c) (graph c.nodes) on (fits t n)

    abbrev value_after : ℕ → ℕ → ℕ
    value_after k q = after L (book c) (network c) (everywhere c) (graph c.nodes) on (fits t n) k q

    -- a case whose tests compute to true has the value that its run computes
    by_run : (k v : ℕ) → 0 < length c.nodes → all last.nodes (λ q. eqb (last.block q) 0 && eqb (value_after k q) (value_after (suc k) q)) ≡ true → value_after k (spot (network c) (length c.processes) 0 (start (network c) (everywhere c))) ≡ v → Known A c v
    by_run k v some rests is = computed L (book c) (network c) (everywhere c) (graph c.nodes) on (fits t n) k v rests some is

pub known_cases : KnownCases
known_cases = record {
  session_holds = by_run yes_no_laws session refl refl 3 1 (omega arith) refl refl;
  least_loop = by_run yes_no_laws (self_loop Least) refl refl 1 0 (omega arith) refl refl;
  greatest_loop = by_run yes_no_laws (self_loop Greatest) refl refl 1 1 (omega arith) refl refl;
  any_of_weight = by_run variants_laws weight_any refl refl 2 6 (omega arith) refl refl;
  all_of_weight = by_run variants_laws weight_all refl refl 2 0xFFFFFFFFFFFFFFF9 (omega arith) refl refl;
  met_weights = by_run variants_laws weights_meet refl refl 2 2 (omega arith) refl refl;
  one_unit = by_run yes_no_laws (two_takes 1) refl refl 3 0 (omega arith) refl refl;
  two_units = by_run yes_no_laws (two_takes 2) refl refl 3 1 (omega arith) refl refl;
}
