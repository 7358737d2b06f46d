use Rattle.std.proofs.Common.{length, replicate, refl, arith}
use lib.ListN.{length-replicate}
use Rattle.slices.proofs.Put.{put_all}
use Rattle.std.proofs.lemmas.Result.{err_from_is_err_and}
use Rattle.geometry.proofs.Laws.{key_limit_word}
use Rattle.store.proofs.Formatting.{format_refused, format_done, header_asks, limit_asks}
use Rattle.store.proofs.format.Goals as goal

pub returns-in_err-z : goal.returns-in_err-z
returns-in_err-z c =
    let p = err_from_is_err_and c.from_residual.result c.from_residual.ensures.1 in
    rw (p.1, p.2) (format_refused _ _ _ c.in_err-z.ensures)

pub put_header-requires : goal.put_header-requires
put_header-requires c =
    let k = header_asks _ _ _ c.in_ok-z.ensures _ c.clear.auto.s in
    (k.0, (refl, k.1))

pub key_limit-requires : goal.key_limit-requires
key_limit-requires c = (limit_asks _ _ _ c.in_ok-z.ensures).ranged

pub overflow_cast-result : goal.overflow_cast-result
overflow_cast-result c = omega (arith, key_limit_word _ (limit_asks _ _ _ c.in_ok-z.ensures), c.key_limit.ensures)

pub returns : goal.returns
returns c =
    let n = length c.args.s.now in
    rw (c.put_header.ensures, c.clear.ensures, put_all (replicate n 0) c.args.s.now (length-replicate n 0)) (format_done _ _ _ c.in_ok-z.ensures _ _ refl c.key_limit.ensures)
