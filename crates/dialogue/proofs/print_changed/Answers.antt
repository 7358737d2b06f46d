use Rattle.std.proofs.Common.{arith}
use Rattle.lines.proofs.Print.{change_is, printed_as}
use Rattle.dialogue.proofs.Replies.{done_fit}
use Rattle.dialogue.proofs.print_changed.Goals as goal

pub overflow_add-merged : goal.overflow_add-merged
overflow_add-merged c = omega (arith, (done_fit _ _ c.in-Ok.is c.requires.1).merged)

pub overflow_add-merged-in-Ok : goal.overflow_add-merged-in-Ok
overflow_add-merged-in-Ok c = omega (arith, (done_fit _ _ c.in-Ok.is c.requires.1).merged)

pub overflow_add-compacted : goal.overflow_add-compacted
overflow_add-compacted c = omega (arith, (done_fit _ _ c.in-Ok.is c.requires.1).compacted)

pub overflow_add-compacted-in-Ok : goal.overflow_add-compacted-in-Ok
overflow_add-compacted-in-Ok c = omega (arith, (done_fit _ _ c.in-Ok.is c.requires.1).compacted)

pub overflow_cast-numbers : goal.overflow_cast-numbers
overflow_cast-numbers c = omega (arith, (done_fit _ _ c.in-Ok.is c.requires.1).merged)

pub overflow_cast-numbers-in-Ok : goal.overflow_cast-numbers-in-Ok
overflow_cast-numbers-in-Ok c = omega (arith, (done_fit _ _ c.in-Ok.is c.requires.1).compacted)

pub returns-in-Ok : goal.returns-in-Ok
returns-in-Ok c = rw (c.in-Ok.is, ← c.from.ensures) (printed_as _ _ _ _ _ _ _ (change_is _ _ _ _ _) (omega arith) c.print_line.ensures)

pub returns-in-Err : goal.returns-in-Err
returns-in-Err c = rw (c.in-Err.is, ← c.from-in-Err.ensures) (printed_as _ _ _ _ _ _ _ (change_is _ _ _ _ _) (omega arith) c.print_line-in-Err.ensures)
