-- After i numbers no more bytes are printed than a line of them has without its line end.
use Rattle.std.proofs.Common.{◌+◌, ◌*◌, ◌≤◌, take}
use Rattle.lines.specs.Bytes.{Printed}
use Rattle.lines.proofs.Print.{begun}
use Rattle.lines.proofs.print_line.Given as goal

abbrev pub invariant-loop-n : goal.invariant-loop-n
invariant-loop-n l = (l.end ≤ l.at + 1 + 11 * l.n-index) × Printed l.fn.out l.out l.at l.end (begun l.letter (take l.n-index l.numbers))
