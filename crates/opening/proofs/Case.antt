-- What is known of a case file that was not refused.
use Rattle.std.proofs.Common.{◌≡◌, ℕ, zero, suc, ◌<◌, Bool, true, cond, ◌&&◌, eqb, leb, List, length, Option, None, sym, refl, ap, ◌∙◌, subst, arith}
use Rattle.std.proofs.lemmas.Bool.{and_from, le-leb, ne_eqb, not_from_false}
use Rattle.fault.proofs.First.{first_later}
use Rattle.fault.specs.declared.Fault.{Fault}
use Rattle.records.specs.Codes.{none, label, takes_part}
use Rattle.scale.specs.Algebra.{Algebra, Laws}
use Rattle.format.specs.Layout.{header_of, rule_row}
use Rattle.format.specs.declared.header.Header.{Header}
use Rattle.casefile.specs.Refusal.{file_fault}
use Rattle.casefile.proofs.Accepts.{accepted}
use Rattle.meaning.specs.Check.{all}
use Rattle.meaning.specs.Network.{Book}
use Rattle.book.specs.Cases.{holds}
use Rattle.book.specs.Parts.{has_part}
use Rattle.book.proofs.Turns.{any_found}
use Rattle.calls.specs.Fit.{fits}
use Rattle.calls.specs.Left.{all_left}
use Rattle.calls.specs.Memory.{Memory, edge_rows, written, numbers_of}
use Rattle.calls.specs.Opening.{book_in, book_of, formula_in, formula_graph}
use Rattle.calls.specs.Outcome.{open_fault, opened, room_fault}
use Rattle.calls.specs.declared.remainder.Remainder.{Remainder}
use Rattle.calls.proofs.FitsAgain.{fits_again_all}
use Rattle.calls.proofs.Opened.{label_is}
use Rattle.opening.specs.Measured.{Measured}

all_from : (n : ℕ) (t : ℕ → Bool) → ((q : ℕ) → q < n → t q ≡ true) → all n t ≡ true
all_from zero t h = refl
all_from (suc n) t h = and_from (all n t) (t n) (all_from n t (λ q lt. h q (omega arith))) (h n (omega arith))

module _ {A : Algebra} (L : Laws A) (n : ℕ) (bs : List ℕ) (fine : file_fault A n bs ≡ None) where
  -- every rule has a participant within the places
  part : (r : ℕ) → r < (header_of bs).rules → has_part (header_of bs).places (rule_row bs (header_of bs) r) ≡ true
  part r lt =
      let row = rule_row bs (header_of bs) r in
      let w = accepted A n bs fine in
      let p = (w.rules r lt).participant in
      let takes : takes_part row p.0 ≡ true = not_from_false (eqb (label row p.0) none) (ne_eqb (label row p.0) none (λ e. p.2 (sym (label_is L n bs w r p.0 p.1) ∙ e))) in
      any_found (takes_part row) p.0 (header_of bs).places p.1 takes

  -- a book can hold the case
  pub held_by_a_book : holds bs (header_of bs) ≡ true
  held_by_a_book =
      let h = header_of bs in
      let w = accepted A n bs fine in
      let parts = all h.rules (λ r. has_part h.places (rule_row bs h r)) in
      and_from (leb h.rules 256) (leb h.blocks 16 && parts) (le-leb h.rules 256 w.header.rules)
      (and_from (leb h.blocks 16) parts (le-leb h.blocks 16 w.header.blocks.1) (all_from h.rules (λ r. has_part h.places (rule_row bs h r)) part))

  pub measured : Measured bs (header_of bs)
  measured =
      let w = accepted A n bs fine in
      record { rules = w.header.rules; nodes = w.header.nodes.1; ranges = λ q lt. omega (arith, (w.nodes q lt).ends, w.header.edges) }

-- what is read by a header is what is read by the file's own
pub read_by : (P : List ℕ → Header → Type 0) (bs fs : List ℕ) (h : Header) → fs ≡ bs → h ≡ header_of bs → P bs (header_of bs) → P fs h
read_by P bs fs h same own k = subst (λ x. P x h) (sym same) (subst (P bs) (sym own) k)

module _ (A : Algebra) (bs fs : List ℕ) (h : Header) (same : fs ≡ bs) (own : h ≡ header_of bs) where
  pub formula_same : formula_in A fs h ≡ formula_graph A bs
  formula_same = ap (λ x. formula_in A x h) same ∙ ap (formula_in A bs) own

  pub book_same : book_in fs h ≡ book_of bs
  book_same = ap (λ x. book_in x h) same ∙ ap (book_in bs) own

  -- where the file has no fault, opening has the room's
  pub fault_due : (n : ℕ) (m : Memory) (due : Option Fault) → file_fault A n bs ≡ None → room_fault (formula_in A fs h).nodes (length (edge_rows (formula_in A fs h))) m ≡ due → open_fault A n bs m ≡ due
  fault_due n m due fine room = first_later (file_fault A n bs) _ fine (subst (λ G. room_fault G.nodes (length (edge_rows G)) m ≡ due) formula_same room)

-- Everything that an accepted opening leaves, by what was read and written.
module _ {A : Algebra} (L : Laws A) (n : ℕ) (bs fs : List ℕ) (h : Header) (fine : file_fault A n bs ≡ None) (same : fs ≡ bs) (own : h ≡ header_of bs)
    (m : Memory) (room : room_fault (formula_in A fs h).nodes (length (edge_rows (formula_in A fs h))) m ≡ None) where
  pub no_fault : open_fault A n bs m ≡ None
  no_fault = fault_due A bs fs h same own n m None fine room

  -- the book as it is filled
  pub filled_book : (before after : Book) (b : Bool) → b ≡ holds fs h → after ≡ cond b (book_in fs h) before → after ≡ book_in fs h
  filled_book before after b test is =
      is ∙ ap (λ t. cond t (book_in fs h) before) (test ∙ read_by (λ x k. holds x k ≡ true) bs fs h same own (held_by_a_book L n bs fine))

  -- the remainder by its numbers
  pub numbers : (nodes edges initial left : ℕ) → nodes ≡ h.nodes → edges ≡ length (edge_rows (formula_in A fs h)) → initial ≡ h.initial → left ≡ all_left h.places
      → ◌≡◌ {A = Remainder} (record { nodes = nodes; edges = edges; initial = initial; left = left }) (opened A bs)
  numbers nodes edges initial left a b c d =
      let told : ◌≡◌ {A = Remainder} (record { nodes = nodes; edges = edges; initial = initial; left = left }) (numbers_of (formula_in A fs h) (all_left h.places)) = λ i. record { nodes = a i; edges = b i; initial = c i; left = d i } in
      told ∙ ap (λ G. numbers_of G (all_left h.places)) (formula_same A bs fs h same own) ∙ ap (λ k. numbers_of (formula_graph A bs) (all_left k.places)) own

  -- and it fits
  pub fits_there : (B : Book) (r : Remainder) (t : Memory) → B ≡ book_of bs → r ≡ opened A bs → t ≡ written (formula_graph A bs) m → fits A B r t ≡ true
  fits_there B r t a b c = (λ i. fits A (a i) (b i) (c i)) ∙ fits_again_all.opens A L n bs m no_fault
