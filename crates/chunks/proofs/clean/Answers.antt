use Rattle.std.proofs.Common.{rules, ◌<◌, ◌≤◌, sym, ◌∙◌}
use Rattle.chunks.proofs.Slots.{clean_zero, clean_next, clean_end}
use Rattle.chunks.proofs.clean.Goals as goal

pub returns-then-marks-eq0 : goal.returns-then-marks-eq0
returns-then-marks-eq0 c = rw c.if-marks-eq0.true (sym (clean_zero _ _ _))

pub loop-pay-preserved : goal.loop-pay-preserved
loop-pay-preserved c =
    let l : c.loop-pay.pay-index < c.args.count = search rules in
    (search rules, sym (clean_next _ c.loop-pay.ok _ _ _ _ l) ∙ c.loop-pay.invariant.1)

pub returns : goal.returns
returns c =
    let l : c.args.count ≤ c.loop-pay.pay-index = search rules in
    sym (clean_end _ c.loop-pay.ok _ _ _ _ l) ∙ c.loop-pay.invariant.1
