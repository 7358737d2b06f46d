use Rattle.walk.proofs.Rest.{past_head, past_other}
use mathlib.Core.Path.{sym}
use Rattle.walk.proofs.step.Goals as goal

pub returns-then-cur-k : goal.returns-then-cur-k
returns-then-cur-k c = (c.advance.ensures.0, past_head _ _ _ _ c.requires.0 c.requires.1 c.if-cur-k.true c.advance.ensures.1)

pub returns-else-cur-k : goal.returns-else-cur-k
returns-else-cur-k c = (c.requires.0, sym (past_other _ _ c.requires.0 _ c.if-cur-k.false))
