use borrow.Author.Tests.{eq-eqb, ne_eqb}
use Rattle.walk.proofs.kept.Goals as goal

pub returns-then-marks-eq1 : goal.returns-then-marks-eq1
returns-then-marks-eq1 c = rw (eq-eqb _ _ c.if-marks-eq1.true)

pub returns-else-marks-eq1 : goal.returns-else-marks-eq1
returns-else-marks-eq1 c = rw (ne_eqb _ _ c.if-marks-eq1.false)
