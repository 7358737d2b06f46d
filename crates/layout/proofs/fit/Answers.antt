use mathlib.Core.Path.{sym}
use Rattle.std.proofs.lemmas.Result.{err_from_is_err_and}
use Rattle.geometry.proofs.Laws.{built_valid}
use Rattle.layout.proofs.Opening.{fit_short, fit_broken, fit_other, fit_ready}
use Rattle.layout.proofs.fit.Goals as goal

pub returns-then-n-lt12 : goal.returns-then-n-lt12
returns-then-n-lt12 c = fit_short _ _ c.if-n-lt12.true

pub returns-in_err-new : goal.returns-in_err-new
returns-in_err-new c =
    let p = err_from_is_err_and c.from_residual.result c.from_residual.ensures.1 in
    rw (p.1, p.2) (fit_broken _ _ _ c.if-n-lt12.false (sym c.in_err-new.ensures))

pub old-z-requires : goal.old-z-requires
old-z-requires c = (built_valid _ _ (sym c.in_ok-new.ensures)).1

pub returns-then-n-z : goal.returns-then-n-z
returns-then-n-z c =
    fit_ready _ _ _ _ c.if-n-lt12.false (sym c.in_ok-new.ensures) c.old-z.ensures c.if-n-z.true

pub returns : goal.returns
returns c =
    fit_other _ _ _ _ c.if-n-lt12.false (sym c.in_ok-new.ensures) c.old-z.ensures c.if-n-z.false
