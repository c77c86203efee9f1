-- Every accepted call has an outcome.
use Rattle.std.proofs.Common.{not, ◌&&◌, ltb, length, sym, refl, ◌∙◌, ⊎_elim}
use Rattle.std.proofs.lemmas.Bool.{cases_Bool, and_parts, not-false, true≢false}
use Rattle.fault.specs.declared.Fault.TheVariants.{Misfit, ShortBuffer}
use Rattle.fault.specs.First.{flag, or_else}
use Rattle.fault.proofs.First.{neither, flag_failed}
use Rattle.meaning.specs.Graph.{reading_system}
use Rattle.meaning.proofs.Theorems.{reading_exists}
use Rattle.meaning.proofs.Unique.{weaken}
use Rattle.calls.specs.Exist.{OutcomesExist}
use Rattle.calls.specs.Fit.{fits}
use Rattle.calls.specs.Left.{left_places}
use Rattle.calls.specs.Memory.{held, node_in}
use Rattle.calls.specs.Outcome.{fit_fault, room_fault, buffer_fault, closes, initial_fixed}
use Rattle.calls.proofs.Reach.{marks_exist}
use Rattle.calls.proofs.Tested.{fitting, fitting_true}

pub outcomes_exist : OutcomesExist
outcomes_exist = record {
  trims = λ A L B r m t numbers h.
      let f = fitting A B r m (neither (fit_fault A B r m) (or_else (room_fault r.nodes r.edges t) (buffer_fault r numbers)) h).0 in
      let k = marks_exist (held r m) (λ q lt e i. (f.graph.edges q lt e i).target) f.initial in
      (_, _, _, record { marks = k.0; reached = k.1; remainder = refl; memory = refl; buffer = refl });
  folds = λ A L B r m t lower upper h.
      let f = fitting A B r m (neither (fit_fault A B r m) (or_else (room_fault r.nodes r.edges t) (or_else (buffer_fault r lower) (buffer_fault r upper))) h).0 in
      let R = reading_exists A L B (left_places r.left) (held r m) f.graph A.lowest L.lowest_value in
      let Q = reading_exists A L B (left_places r.left) (held r m) f.graph A.highest L.highest_value in (
        _,
        _,
        _,
        _,
        record {
          lowers = R.0;
          uppers = Q.0;
          lowest = weaken L (reading_system B A.lowest (held r m)) R.0 R.1;
          highest = weaken L (reading_system B A.highest (held r m)) Q.0 Q.1;
          remainder = refl;
          memory = refl;
          lower_buffer = refl;
          upper_buffer = refl;
        },
      );
  judges = λ A L B r m values h.
      let a = neither (flag (not (fits A B r m && closes r m)) Misfit) (flag (not (initial_fixed r m) && ltb (length values) r.nodes) ShortBuffer) h in
      let whole = (and_parts (fits A B r m) (closes r m) (not-false (fits A B r m && closes r m) (flag_failed (not (fits A B r m && closes r m)) Misfit a.0))).0 in
      let R = reading_exists A L B (left_places r.left) (held r m) (fitting_true A B r m whole).graph A.lowest L.lowest_value in
      ⊎_elim
      (λ yes_fixed. ((node_in m r.initial).value, values, record { fixed = λ e. (refl, refl); solved = λ e. absurd (true≢false (sym yes_fixed ∙ e)) }))
      (λ unfixed. (_, _, record { fixed = λ e. absurd (true≢false (sym e ∙ unfixed)); solved = λ e. (R.0, weaken L (reading_system B A.lowest (held r m)) R.0 R.1, refl, refl) }))
      (cases_Bool (initial_fixed r m));
}
