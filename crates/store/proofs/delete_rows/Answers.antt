use Rattle.std.proofs.lemmas.Result.{err_from_is_err_and}
use Rattle.std.proofs.Common.{Ok}
use Rattle.store.proofs.Answering.{passed}
use Rattle.store.proofs.Changing.{delete_refused, delete_ready}
use Rattle.store.proofs.delete_rows.Goals as goal

pub returns-in_err-z : goal.returns-in_err-z
returns-in_err-z c =
    let p = err_from_is_err_and c.from_residual.result c.from_residual.ensures.1 in
    rw (p.1, p.2) (delete_refused _ _ c.in_err-z.ensures _ _)

pub delete_ready-requires : goal.delete_ready-requires
delete_ready-requires c = passed _ _ c.in_ok-z.ensures

pub returns : goal.returns
returns c = delete_ready _ _ c.in_ok-z.ensures _ _ _ (Ok c.delete_ready.result) _ c.delete_ready.ensures
