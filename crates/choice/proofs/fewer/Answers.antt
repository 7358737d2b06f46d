use native.Mathlib.Omega.{arith}
use borrow.Author.Tests.{lt-ltb, le-ltb}
use Rattle.choice.proofs.fewer.Goals as goal

pub returns-then-later-best : goal.returns-then-later-best
returns-then-later-best c = let a = c.args in rw (lt-ltb a.later.overlap a.best.overlap (omega arith))

pub returns : goal.returns
returns c = let a = c.args in rw (le-ltb a.later.overlap a.best.overlap (omega arith))
