use Rattle.stream.specs.Machine.{point_after}
use Rattle.stream.proofs.Point.after.Goals as goal

pub returns-then-whole-n : goal.returns-then-whole-n
unfolding point_after
returns-then-whole-n c = rw c.if-whole-n.true

pub returns : goal.returns
unfolding point_after
returns c = rw c.if-whole-n.false
