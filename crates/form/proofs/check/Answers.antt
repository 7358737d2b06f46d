use Rattle.std.proofs.Common.{sym, ◌∙◌}
use Rattle.std.proofs.lemmas.Result.{err_from_is_err_and}
use Rattle.layout.proofs.Opening.{opened_ready}
use Rattle.form.proofs.Ready.{checked_opened, checked_passed, checked_broken}
use Rattle.form.proofs.check.Goals as goal

pub returns-in_err-z : goal.returns-in_err-z
returns-in_err-z c =
    let p = err_from_is_err_and c.from_residual.result c.from_residual.ensures.1 in
    rw (p.1, p.2) (checked_opened _ _ (sym c.in_err-z.ensures))

pub passes-requires : goal.passes-requires
passes-requires c = (opened_ready _ _ (sym c.in_ok-z.ensures)).fitted

pub returns-then-passes : goal.returns-then-passes
returns-then-passes c = checked_passed _ _ (sym c.in_ok-z.ensures) (sym c.passes.ensures ∙ c.if-passes.true)

pub returns : goal.returns
returns c = checked_broken _ _ (sym c.in_ok-z.ensures) (sym c.passes.ensures ∙ c.if-passes.false)
