use Rattle.std.proofs.Common.{◌∙◌}
use Rattle.std.proofs.lemmas.Result.{err_from_is_err_and}
use Rattle.store.proofs.Answering.{passed, will_delete_refused, will_delete_ready}
use Rattle.store.proofs.will_delete_merge.Goals as goal

pub returns-in_err-check : goal.returns-in_err-check
returns-in_err-check c =
    let p = err_from_is_err_and c.from_residual.result c.from_residual.ensures.1 in
    rw (p.1, p.2) (will_delete_refused _ _ c.in_err-check.ensures _)

pub foresee_delete-requires : goal.foresee_delete-requires
foresee_delete-requires c = passed _ _ c.in_ok-check.ensures

pub returns : goal.returns
returns c = c.foresee_delete.ensures ∙ will_delete_ready _ _ c.in_ok-check.ensures _
