use Rattle.std.proofs.Common.{arith}
use Rattle.lines.proofs.Print.{format_is, printed_as}
use Rattle.dialogue.proofs.print_formatted.Goals as goal

pub returns-in-Ok : goal.returns-in-Ok
returns-in-Ok c = rw c.in-Ok.is (printed_as _ _ _ _ _ _ _ (format_is _ _) (omega arith) c.print_line.ensures)

pub returns-in-Err : goal.returns-in-Err
returns-in-Err c = rw (c.in-Err.is, ← c.from.ensures) (printed_as _ _ _ _ _ _ _ (format_is _ _) (omega arith) c.print_line-in-Err.ensures)
