use Rattle.std.proofs.Common.{◌≡◌, ◌∙◌, ap, Ok, Some, None, arith}
use Rattle.lines.proofs.Print.{get_is, printed_as}
use Rattle.dialogue.proofs.print_looked.Goals as goal

pub returns-in-Ok-Some : goal.returns-in-Ok-Some
returns-in-Ok-Some c =
    let f : c.in-Ok-Some.field-0 ≡ Some c.in-Ok-Some.v = rw c.in-Ok-Some.is at c.in-Ok-Some.field-0-is in
    let e : c.args.l ≡ Ok (Some c.in-Ok-Some.v) = c.in-Ok-Some.is ∙ ap Ok f in
    rw e (printed_as _ _ _ _ _ _ _ (get_is _ _ _) (omega arith) c.print_line.ensures)

pub returns-in-Ok-None : goal.returns-in-Ok-None
returns-in-Ok-None c =
    let f : c.in-Ok-None.field-0 ≡ None = rw c.in-Ok-None.is at c.in-Ok-None.field-0-is in
    let e : c.args.l ≡ Ok None = c.in-Ok-None.is ∙ ap Ok f in
    rw e (printed_as _ _ _ _ _ _ _ (get_is _ _ _) (omega arith) c.print_line-in-Ok-None.ensures)

pub returns-in-Err : goal.returns-in-Err
returns-in-Err c = rw (c.in-Err.is, ← c.from.ensures) (printed_as _ _ _ _ _ _ _ (get_is _ _ _) (omega arith) c.print_line-in-Err.ensures)
