-- The promise about every list of calls: the order of calls does not matter.
use Rattle.std.specs.Prelude.{◌≡◌, ℕ, ◌<◌, true, List, None}
use Rattle.process.specs.SingleVariant.{bit}
use Rattle.scale.specs.Algebra.{Algebra, Laws}
use Rattle.scale.specs.Variants.{variants}
use Rattle.scale.specs.YesNo.{yes_no}
use Rattle.meaning.specs.Cut.{cut_network, cut_graph}
use Rattle.meaning.specs.Member.{In}
use Rattle.meaning.specs.Network.{Network, Places}
use Rattle.meaning.specs.Value.{HasValue}
use Rattle.calls.specs.Left.{left_places, all_left}
use Rattle.calls.specs.Memory.{Memory, written}
use Rattle.calls.specs.Opening.{book_of, formula_graph}
use Rattle.calls.specs.Outcome.{open_fault, opened, verdict_fault, Verdict}
use Rattle.calls.specs.Process.{process_fault}
use Rattle.calls.specs.Runs.{Call, Removal, Runs, open_at, closed_at}
use Rattle.calls.specs.declared.remainder.Remainder.{Remainder}

-- all places of the case that the bytes hold
abbrev pub places_of : List ℕ → Places
places_of bs = left_places (all_left (book_of bs).places)

-- A verdict x after a list of calls: the bytes were opened into some memory at the scale with algebra A and
-- header number n, the calls led to a closed remainder, and its verdict was not refused. The list removed
-- the places in gs with their processes and left the others.
pub record Judged (A : Algebra) (n : ℕ) (bs : List ℕ) (gs : List Removal) (left : ℕ) (x : ℕ) : Type 0 where
  pub memory : Memory
  pub opening : open_fault A n bs memory ≡ None
  pub calls : List Call
  pub remainder : Remainder
  pub holding : Memory
  pub run : Runs A (book_of bs) (open_at (opened A bs) (written (formula_graph A bs) memory)) calls (closed_at remainder holding) gs
  pub before : List ℕ
  pub after : List ℕ
  pub asked : verdict_fault A (book_of bs) remainder holding before ≡ None
  pub verdict : Verdict A (book_of bs) remainder holding before x after
  pub rest : remainder.left ≡ left

-- the network has at each place removed the process that its accepted removal was given
abbrev pub Given : Network → List Removal → Type 0
Given N gs = (g : Removal) → In g gs → N g.place ≡ g.process

-- and at the places left any processes that pass the checks
abbrev pub Passing : Algebra → Network → ℕ → Type 0
Passing A N left = (p : ℕ) → left_places left p ≡ true → process_fault A (N p) ≡ None

-- VALUE: the verdict is the formula's value on the whole network.
abbrev pub VerdictIsValue : Type 0
VerdictIsValue =
    (A : Algebra) → Laws A → (n : ℕ) (bs : List ℕ) (gs : List Removal) (left x : ℕ) → Judged A n bs gs left x
    → (N : Network) → Given N gs → Passing A N left → HasValue A (book_of bs) N (places_of bs) (formula_graph A bs) x

-- VARIANTS: variant v is in the verdict exactly when the network cut to v satisfies the formula.
abbrev pub VariantIsJudged : Type 0
VariantIsJudged =
    (n : ℕ) (bs : List ℕ) (gs : List Removal) (left x : ℕ) → Judged variants n bs gs left x
    → (N : Network) → Given N gs → Passing variants N left → (v : ℕ) → v < 64
    → (bit v x ≡ 1 → HasValue yes_no (book_of bs) (cut_network v N) (places_of bs) (cut_graph v (formula_graph variants bs)) 1)
    × (HasValue yes_no (book_of bs) (cut_network v N) (places_of bs) (cut_graph v (formula_graph variants bs)) 1 → bit v x ≡ 1)

-- two lists of one case gave equal processes to the places that both removed
abbrev pub OneCase : List Removal → List Removal → Type 0
OneCase gs hs = (g h : Removal) → In g gs → In h hs → g.place ≡ h.place → g.process ≡ h.process

-- ORDER: two lists of one case that both reach a verdict reach the same.
abbrev pub OrderDoesNotMatter : Type 0
OrderDoesNotMatter =
    (A : Algebra) → Laws A → (n : ℕ) (bs : List ℕ) (gs hs : List Removal) (left rest x y : ℕ)
    → Judged A n bs gs left x → Judged A n bs hs rest y → OneCase gs hs → x ≡ y
