-- Eight places and more have every bit of the places left.
use Rattle.std.proofs.Common.{◌^◌, ◌≤◌, arith, pow_mono, sym, ◌∙◌}
use Rattle.std.proofs.lemmas.Bool.{le-leb, lt-ltb}
use Rattle.fit.proofs.left_fits.Goals as goal

pub returns-then-places-ge8 : goal.returns-then-places-ge8
returns-then-places-ge8 c =
    let more : 2 ^ 8 ≤ 2 ^ c.args.places = pow_mono c.if-places-ge8.true in
    le-leb 8 c.args.places c.if-places-ge8.true ∙ sym (lt-ltb c.args.left (2 ^ c.args.places) (omega arith))
