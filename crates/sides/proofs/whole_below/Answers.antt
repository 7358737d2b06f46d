use Rattle.sides.specs.Sides.{whole_below}
use Rattle.sides.proofs.Laws.{row_below}
use Rattle.sides.proofs.whole_below.Goals as goal

pub returns-then-is_none : goal.returns-then-is_none
unfolding whole_below
returns-then-is_none c = rw c.if-is_none.ensures

pub returns-in_default : goal.returns-in_default
unfolding whole_below
returns-in_default c = rw (c.if-is_none.ensures, c.in_default.is)

pub returns : goal.returns
unfolding whole_below
returns c = rw (c.if-is_none.ensures, c.in-Some.is) (row_below _ c.args.a _ _ (c.requires c.if-is_none.ensures) c.count_below.ensures)
