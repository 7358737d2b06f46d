use native.Mathlib.Omega.{arith}
use Rattle.walk.proofs.Ends.{next_none, next_some}
use Rattle.walk.proofs.next_from.Goals as goal

pub enter-from-requires : goal.enter-from-requires
enter-from-requires c = (c.deepest_last.ensures.formed _ c.requires.0, omega (arith, c.requires.1))

pub returns-then-n-lt1 : goal.returns-then-n-lt1
returns-then-n-lt1 c = rw (← c.deepest_last.ensures.shows _) (next_none _ _ _ _ c.enter-from.ensures _ _ _ c.walk_on-n.ensures c.if-n-lt1.true, tt)

pub returns : goal.returns
returns c = rw (← c.deepest_last.ensures.shows _) (next_some _ _ _ _ c.enter-from.ensures _ _ _ c.walk_on-n.ensures c.if-n-lt1.false)
