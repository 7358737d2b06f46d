use borrow.Author.Tests.{eq-eqb, ne_eqb}
use Rattle.walk.proofs.live_bit.Goals as goal

pub returns-then-m-eq1 : goal.returns-then-m-eq1
returns-then-m-eq1 c = rw (eq-eqb _ _ c.if-m-eq1.true)

pub returns-else-m-eq1 : goal.returns-else-m-eq1
returns-else-m-eq1 c = rw (ne_eqb _ _ c.if-m-eq1.false)
