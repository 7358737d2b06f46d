use borrow.Author.Tests.{eq-eqb, ne_eqb}
use Rattle.sides.specs.Sides.{follows}
use Rattle.sides.proofs.may_follow.Goals as goal

pub returns-then-n-eq0 : goal.returns-then-n-eq0
unfolding follows
returns-then-n-eq0 c = rw (eq-eqb _ _ c.if-n-eq0.true, c.whole_below-below.ensures)

pub returns : goal.returns
unfolding follows
returns c = rw (ne_eqb _ _ c.if-n-eq0.false, c.whole_below-below.ensures)
