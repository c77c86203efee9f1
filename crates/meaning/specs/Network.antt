-- Networks of processes: places, rules, global states, and how a rule leads from one to the next.
use Rattle.std.specs.Prelude.{◌≡◌, ℕ, zero, suc, ◌<◌, Bool, true, false, cond, ◌&&◌, List, [], ◌∷◌, ◌==◌, ◌≢◌, slice_index_or}
use Rattle.process.specs.Lts.{Lts}
use Rattle.process.specs.declared.Transition.{Transition}
use Rattle.records.specs.Codes.{none, label, takes_part}
use Rattle.records.specs.declared.Rule.{Rule}
use Rattle.records.specs.declared.Sign.{Sign}
use Rattle.scale.specs.Algebra.{Algebra, Value}
use Rattle.meaning.specs.Member.{In}

-- What the rule book holds of one case: how many places there are, the rules, and the blocks' signs.
pub record Book : Type 0 where
  pub places : ℕ
  pub rules : List Rule
  pub signs : List Sign

-- a rule in which no place takes part: what stands past the rules
abbrev pub idle_rule : Rule
idle_rule = record { labels = none ∷ none ∷ none ∷ none ∷ none ∷ none ∷ none ∷ none ∷ []; result = none }

abbrev pub rule_of : Book → ℕ → Rule
rule_of B r = slice_index_or B.rules r idle_rule

-- the label that rule r asks of place p
abbrev pub asked : Book → ℕ → ℕ → ℕ
asked B r p = label (rule_of B r) p

-- a set of places, as a test
abbrev pub Places : Type 0
Places = ℕ → Bool

-- place p is a participant of rule r that counts: one among the places left
abbrev pub counts : Book → Places → ℕ → Places
counts B left r p = left p && takes_part (rule_of B r) p

-- A global state has a state for each place left, and 0 elsewhere.
abbrev pub State : Type 0
State = ℕ → ℕ

-- the process at each place
abbrev pub Network : Type 0
Network = ℕ → Lts

pub record Valid (N : Network) (left : Places) (g : State) : Type 0 where
  pub within : (p : ℕ) → left p ≡ true → g p < (N p).states
  pub elsewhere : (p : ℕ) → left p ≡ false → g p ≡ 0

-- the state g with s at place p
abbrev pub put : ℕ → ℕ → State → State
put p s g x = cond (x == p) s (g x)

-- the state that a network begins in
abbrev pub start : Network → Places → State
start N left p = cond (left p) (N p).initial 0

-- the meet of the weights w p of those places p below k that c has, highest where it has none
abbrev pub meet_over : Algebra → ℕ → Places → (ℕ → ℕ) → ℕ
meet_over A zero c w = A.highest
meet_over A (suc k) c w = cond (c k) (A.meet (meet_over A k c w) (w k)) (meet_over A k c w)

-- A rule whose participants c are asked for the labels a leads from g to h with weight u: each participant
-- takes a transition with its label from its state in g to its state in h, all others stand still,
-- and u is the meet of those transitions' weights. No rule has a participant past the eighth place.
pub record Leads (A : Algebra) (N : Network) (c : Places) (a : ℕ → ℕ) (g h : State) (u : ℕ) : Type 0 where
  pub taken : ℕ → Transition
  pub listed : (p : ℕ) → c p ≡ true → In (taken p) ((N p).transitions (g p))
  pub labelled : (p : ℕ) → c p ≡ true → (taken p).label ≡ a p
  pub arrives : (p : ℕ) → c p ≡ true → (taken p).target ≡ h p
  pub stays : (p : ℕ) → c p ≡ false → h p ≡ g p
  pub weighs : u ≡ meet_over A 8 c (λ p. (taken p).weight)

-- What the engine asks of a process before it takes it in: states, a state to begin in, and transitions
-- with a label, to a state, with a weight that is a value of the scale.
pub record Tame (A : Algebra) (l : Lts) : Type 0 where
  pub initial : l.initial < l.states
  pub labels : (s : ℕ) → s < l.states → (t : Transition) → In t (l.transitions s) → t.label ≢ none
  pub targets : (s : ℕ) → s < l.states → (t : Transition) → In t (l.transitions s) → t.target < l.states
  pub weights : (s : ℕ) → s < l.states → (t : Transition) → In t (l.transitions s) → Value A t.weight
