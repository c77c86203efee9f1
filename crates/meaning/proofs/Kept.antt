-- Trimming and folding leave the value as it is.
use Rattle.std.proofs.Common.{◌≡◌, sym, ap, ◌∙◌}
use Rattle.meaning.specs.Theorems.{TrimKeeps, FoldKeeps}
use Rattle.meaning.specs.Trim.{rank, trim_graph}
use Rattle.meaning.specs.Fold.{fold_graph}
use Rattle.meaning.proofs.Exists.{unique}
use Rattle.meaning.proofs.Folding.{fold_fits, fold_solution}
use Rattle.meaning.proofs.Trimming.{old, marked_at, rank_below, trim_fits, trim_solution}

pub trim_keeps : TrimKeeps
trim_keeps A L B N left G f marks initial m = (
  trim_fits L B N left G f marks initial m,
  λ V W v w q i t.
      let back = marked_at marks G.nodes q.node i.0 t in
      let here : q ≡ record { node = old L B N left G f marks initial m (rank marks q.node); state = q.state } = λ j. record { node = sym back j; state = q.state } in
      ap V here
      ∙ unique L B N left (trim_graph marks G) (trim_fits L B N left G f marks initial m) (λ p. V (record { node = old L B N left G f marks initial m p.node; state = p.state })) W (trim_solution L B N left G f marks initial m V v) w
      (record { node = rank marks q.node; state = q.state }) (rank_below marks q.node G.nodes i.0 t, i.1),
)

pub fold_keeps : FoldKeeps
fold_keeps A L B N left G f R Q r q = (
  fold_fits L B N left G f R Q r q,
  λ V W v w p i. unique L B N left (fold_graph R Q G) (fold_fits L B N left G f R Q r q) V W (fold_solution L B N left G f R Q r q V v) w p i,
)
