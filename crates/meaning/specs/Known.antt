-- Small cases whose values are known.
use Rattle.std.specs.Prelude.{ℕ, ◌-◌, ◌^◌, List, [], ◌∷◌, length, nat_lt, slice_index_or}
use Rattle.process.specs.Lts.{Lts}
use Rattle.process.specs.Pool.{pool}
use Rattle.process.specs.declared.Transition.{Transition}
use Rattle.records.specs.Codes.{none}
use Rattle.records.specs.declared.Edge.{Edge}
use Rattle.records.specs.declared.Guard.TheVariants.{Plain, By}
use Rattle.records.specs.declared.Kind.{Kind}
use Rattle.records.specs.declared.Kind.TheVariants.{AnyOf, AllOf, Fixed}
use Rattle.records.specs.declared.Rule.{Rule}
use Rattle.records.specs.declared.Sign.{Sign}
use Rattle.records.specs.declared.Sign.TheVariants.{Least, Greatest}
use Rattle.scale.specs.Algebra.{Algebra}
use Rattle.scale.specs.Variants.{variants}
use Rattle.scale.specs.YesNo.{yes_no}
use Rattle.meaning.specs.Graph.{Graph}
use Rattle.meaning.specs.Network.{Book, Network, Places}
use Rattle.meaning.specs.Value.{HasValue}

-- Cases are written as lists: a process by its states' transitions, a graph by its nodes, all in block 0.
abbrev pub to : ℕ → ℕ → ℕ → Transition
to label weight target = record { label = label; weight = weight; target = target }

abbrev pub process : List (List Transition) → Lts
process rows = record { states = length rows; initial = 0; transitions = λ s. slice_index_or rows s [] }

-- a rule over the first two places
abbrev pub rule : ℕ → ℕ → ℕ → Rule
rule first second result = record { labels = first ∷ second ∷ none ∷ none ∷ none ∷ none ∷ none ∷ none ∷ []; result = result }

pub record Vertex : Type 0 where
  pub kind : Kind
  pub value : ℕ
  pub edges : List Edge

abbrev pub any_of : List Edge → Vertex
any_of es = record { kind = AnyOf; value = 0; edges = es }

abbrev pub all_of : List Edge → Vertex
all_of es = record { kind = AllOf; value = 0; edges = es }

abbrev pub fixed : ℕ → Vertex
fixed v = record { kind = Fixed; value = v; edges = [] }

abbrev pub plain : ℕ → ℕ → Edge
plain weight target = record { guard = Plain; weight = weight; target = target }

abbrev pub guarded : ℕ → ℕ → ℕ → Edge
guarded r weight target = record { guard = By r; weight = weight; target = target }

abbrev pub graph : List Vertex → Graph
graph nodes = record {
  nodes = length nodes;
  initial = 0;
  kind = λ q. (slice_index_or nodes q (fixed 0)).kind;
  block = λ q. 0;
  value = λ q. (slice_index_or nodes q (fixed 0)).value;
  edges = λ q. (slice_index_or nodes q (fixed 0)).edges;
}

-- A case: its rules, the sign of block 0, the processes at its places, and the nodes of its graph.
pub record Case : Type 0 where
  pub rules : List Rule
  pub sign : Sign
  pub processes : List Lts
  pub nodes : List Vertex

abbrev pub book : Case → Book
book c = record { places = length c.processes; rules = c.rules; signs = c.sign ∷ [] }

abbrev pub network : Case → Network
network c p = slice_index_or c.processes p (process [])

-- all its places
abbrev pub everywhere : Case → Places
everywhere c p = nat_lt p (length c.processes)

-- the case has value v on the scale
abbrev pub Known : Algebra → Case → ℕ → Type 0
Known A c v = HasValue A (book c) (network c) (everywhere c) (graph c.nodes) v

-- client and server: 0 –1→ 1 –2→ 0
abbrev pub turns : Lts
turns = process ((to 1 1 1 ∷ []) ∷ (to 2 1 0 ∷ []) ∷ [])

-- one state with one transition to itself
abbrev pub loop : ℕ → Lts
loop weight = process ((to 1 weight 0 ∷ []) ∷ [])

abbrev pub top : ℕ
top = 2 ^ 64 - 1

-- a 2 can be reached by 1s and a 2, where client and server synchronise on both
abbrev pub session : Case
session = record {
  rules = rule 1 1 1 ∷ rule 2 2 2 ∷ [];
  sign = Least;
  processes = turns ∷ turns ∷ [];
  nodes = any_of (guarded 1 1 1 ∷ guarded 0 1 0 ∷ []) ∷ fixed 1 ∷ [];
}

-- a plain edge to itself
abbrev pub self_loop : Sign → Case
self_loop sign = record { rules = []; sign = sign; processes = turns ∷ []; nodes = any_of (plain 1 0 ∷ []) ∷ [] }

-- one transition of weight 6, under any-of to the highest
abbrev pub weight_any : Case
weight_any = record { rules = rule 1 none 1 ∷ []; sign = Least; processes = loop 6 ∷ []; nodes = any_of (guarded 0 top 1 ∷ []) ∷ fixed top ∷ [] }

-- and under all-of to the lowest
abbrev pub weight_all : Case
weight_all = record { rules = rule 1 none 1 ∷ []; sign = Least; processes = loop 6 ∷ []; nodes = all_of (guarded 0 top 1 ∷ []) ∷ fixed 0 ∷ [] }

-- weights 6 and 3 synchronised
abbrev pub weights_meet : Case
weights_meet = record { rules = rule 1 1 1 ∷ []; sign = Least; processes = loop 6 ∷ loop 3 ∷ []; nodes = any_of (guarded 0 top 1 ∷ []) ∷ fixed top ∷ [] }

-- two takes from a pool of capacity c
abbrev pub two_takes : ℕ → Case
two_takes c = record {
  rules = rule 1 none 1 ∷ [];
  sign = Least;
  processes = pool (record { capacity = c; take = 1; give = 2; weight = 1 }) ∷ [];
  nodes = any_of (guarded 0 1 1 ∷ []) ∷ any_of (guarded 0 1 2 ∷ []) ∷ fixed 1 ∷ [];
}

-- all of them together
pub record KnownCases : Type 0 where
  pub session_holds : Known yes_no session 1
  pub least_loop : Known yes_no (self_loop Least) 0
  pub greatest_loop : Known yes_no (self_loop Greatest) 1
  pub any_of_weight : Known variants weight_any 6
  pub all_of_weight : Known variants weight_all 0xFFFFFFFFFFFFFFF9
  pub met_weights : Known variants weights_meet 2
  pub one_unit : Known yes_no (two_takes 1) 0
  pub two_units : Known yes_no (two_takes 2) 1
