use Rattle.std.proofs.Common.{◌≤◌, vec_items, rules, sym, subst}
use Rattle.format.specs.Layout.{rule_row}
use Rattle.book.specs.Parts.{has_part}
use Rattle.book.proofs.Turns.{every_read}
use Rattle.book.proofs.rule_book.RuleBook.fill.Goals as goal

pub invariant_of-self : goal.invariant_of-self
invariant_of-self c =
    let h = c.args.file.now.header in
    let read = rule_row c.args.file.now.bytes.now h in
    let filled = c.refill.ensures.items read (λ i x l k. search rules) in
    record {
      rule_room = subst (λ n. 256 ≤ n) (sym c.refill.ensures.capacity) c.self.invariant.rule_room;
      sign_room = subst (λ n. 16 ≤ n) (sym c.refill-2.ensures.capacity) c.self.invariant.sign_room;
      parts = every_read (has_part h.places) read h.rules (vec_items c.refill.new.rows) filled (sym c.if-not-all_parts.ensures);
    }

-- the rules that were written are those that the invariant speaks of
pub returns-clause-parts : goal.returns-clause-parts
returns-clause-parts c =
    let h = c.args.file.now.header in
    let read = rule_row c.args.file.now.bytes.now h in
    every_read (has_part h.places) read h.rules (vec_items c.refill.new.rows) (c.refill.ensures.items read (λ i x l k. search rules)) (sym c.if-not-all_parts.ensures)
