use Rattle.std.proofs.lemmas.Result.{err_from_is_err_and}
use Rattle.store.proofs.Answering.{passed}
use Rattle.store.proofs.Changing.{put_refused, put_ready}
use Rattle.store.proofs.put_rows.Goals as goal

pub returns-in_err-z : goal.returns-in_err-z
returns-in_err-z c =
    let p = err_from_is_err_and c.from_residual.result c.from_residual.ensures.1 in
    rw (p.1, p.2) (put_refused _ _ c.in_err-z.ensures _ _ _)

pub put_ready-requires : goal.put_ready-requires
put_ready-requires c = passed _ _ c.in_ok-z.ensures

pub returns : goal.returns
returns c = put_ready _ _ c.in_ok-z.ensures _ _ _ _ _ _ c.put_ready.ensures
