use Rattle.std.proofs.Common.{◌∙◌}
use Rattle.words.proofs.Rows.{laid_from_start}
use Rattle.tickets.proofs.Handing.{handed_on, handed_all}
use Rattle.tickets.proofs.hand_out.Goals as goal

pub loop-i-init : goal.loop-i-init
loop-i-init c = laid_from_start _ _

pub loop-i-preserved : goal.loop-i-preserved
loop-i-preserved c = handed_on _ _ _ _ _ c.loop-i-test.true c.from.ensures c.file.ensures ∙ c.loop-i.invariant

pub returns : goal.returns
returns c = handed_all _ _ _ c.loop-i-test.false ∙ c.loop-i.invariant
