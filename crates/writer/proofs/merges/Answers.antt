use Rattle.std.proofs.Common.{arith}
use Rattle.writer.proofs.Changing.{done_few}
use Rattle.writer.proofs.merges.Goals as goal

pub overflow_add-result : goal.overflow_add-result
overflow_add-result c = omega (arith, done_few _ _ c.in-Ok.is c.requires)

pub overflow_add-result-in-Ok : goal.overflow_add-result-in-Ok
overflow_add-result-in-Ok c = omega (arith, done_few _ _ c.in-Ok.is c.requires)

pub returns-in-Ok : goal.returns-in-Ok
returns-in-Ok c = rw c.in-Ok.is
