-- Systems of equations over a scale, and their solution block by block.
use Rattle.std.specs.Prelude.{◌≡◌, ℕ, ◌<◌}
use Rattle.records.specs.declared.Kind.{Kind}
use Rattle.records.specs.declared.Kind.TheVariants.{AnyOf, AllOf, Fixed}
use Rattle.records.specs.declared.Sign.{Sign}
use Rattle.records.specs.declared.Sign.TheVariants.{Least, Greatest}
use Rattle.scale.specs.Algebra.{Algebra, Value, Under}

-- Where an edge leads: on to a position, or to an end of a known value.
pub data Next (P : Type 0) : Type 0 where
  goes : P → Next P
  ends : ℕ → Next P

-- A system of equations, one for each position inside. A position offers edges, each with a weight,
-- and lies in a block; a fixed one has a value of its own. A block has a sign.
pub record System (P : Type 0) : Type 1 where
  pub inside : P → Type 0
  pub kind : P → Kind
  pub block : P → ℕ
  pub fixed : P → ℕ
  pub offers : P → ℕ → Next P → Type 0
  pub sign : ℕ → Sign

-- what an edge of weight w makes of the value v behind it: w meet v under any-of,
-- (complement of w) join v under all-of; the equation of a fixed position asks for no edges
abbrev pub share : Algebra → Kind → ℕ → ℕ → ℕ
share A AnyOf w v = A.meet w v
share A AllOf w v = A.join (A.complement w) v
share A Fixed w v = A.meet w v

-- the value behind an edge
abbrev pub worth : {P : Type 0} → (P → ℕ) → Next P → ℕ
worth V (goes p) = V p
worth V (ends v) = v

-- the order as a least block sees it, upwards, and as a greatest one does, downwards
abbrev pub Ordered : Algebra → Sign → ℕ → ℕ → Type 0
Ordered A Least x y = Under A x y
Ordered A Greatest x y = Under A y x

-- x is at or before y on the way up (least) or down (greatest)
pub record Toward (A : Algebra) (σ : Sign) (x y : ℕ) : Type 0 where
  pub ordered : Ordered A σ x y

-- the way on which a kind gathers: an any-of node joins, an all-of node meets
abbrev pub way : Kind → Sign
way AnyOf = Least
way AllOf = Greatest
way Fixed = Least

-- How a rival of the solution keeps the equations of its block: exactly, or from the one side only,
-- above what the edges give in a least block and below in a greatest one.
pub data Mode : Type 0 where
  exactly one_sided : Mode

module _ {P : Type 0} (A : Algebra) (S : System P) where
  -- s is what some edge of position p, read as of kind k, contributes
  pub record Contributed (k : Kind) (V : P → ℕ) (p : P) (s : ℕ) : Type 0 where
    pub weight : ℕ
    pub next : Next P
    pub offered : S.offers p weight next
    pub shared : s ≡ share A k weight (worth V next)

  -- c is past everything that p's edges contribute: an upper bound under any-of, a lower one under all-of
  abbrev pub Bounds : Kind → (P → ℕ) → P → ℕ → Type 0
  Bounds k V p c = (s : ℕ) → Contributed k V p s → Toward A (way k) s c

  -- c is not past any other value that is: with `Bounds`, c is the join (any-of) or the meet (all-of)
  abbrev pub Nearest : Kind → (P → ℕ) → P → ℕ → Type 0
  Nearest k V p c = (d : ℕ) → Value A d → Bounds k V p d → Toward A (way k) c d

  -- The equation of a position of kind k in its two halves: the value is at or above what its edges give,
  -- and at or below.
  abbrev pub Above : Kind → (P → ℕ) → P → Type 0
  Above AnyOf V p = Bounds AnyOf V p (V p)
  Above AllOf V p = Nearest AllOf V p (V p)
  Above Fixed V p = Under A (S.fixed p) (V p)

  abbrev pub Below : Kind → (P → ℕ) → P → Type 0
  Below AnyOf V p = Nearest AnyOf V p (V p)
  Below AllOf V p = Bounds AllOf V p (V p)
  Below Fixed V p = Under A (V p) (S.fixed p)

  abbrev pub Keeps : Mode → Sign → Kind → (P → ℕ) → P → Type 0
  Keeps exactly σ k W p = Above k W p × Below k W p
  Keeps one_sided Least k W p = Above k W p
  Keeps one_sided Greatest k W p = Below k W p

  -- W is a rival of V in block b: it agrees with V in all higher blocks and keeps the equations of this one
  pub record Rival (m : Mode) (b : ℕ) (V W : P → ℕ) : Type 0 where
    pub values : (p : P) → S.inside p → Value A (W p)
    pub higher : (p : P) → S.inside p → b < S.block p → W p ≡ V p
    pub keeps : (p : P) → S.inside p → S.block p ≡ b → Keeps m (S.sign b) (S.kind p) W p

  -- V keeps every equation, and in each block it is the least, or the greatest, among its rivals
  pub record Solves (m : Mode) (V : P → ℕ) : Type 0 where
    pub values : (p : P) → S.inside p → Value A (V p)
    pub keeps : (p : P) → S.inside p → Above (S.kind p) V p × Below (S.kind p) V p
    pub extreme : (b : ℕ) (W : P → ℕ) → Rival m b V W → (p : P) → S.inside p → S.block p ≡ b → Toward A (S.sign b) (V p) (W p)

  -- The solution: blocks are solved from the highest number down, since a rival agrees with it above.
  abbrev pub Solution : (P → ℕ) → Type 0
  Solution V = Solves exactly V

  -- A solution that is extreme even among those that keep the equations from the one side.
  abbrev pub Strong : (P → ℕ) → Type 0
  Strong V = Solves one_sided V
