use Rattle.std.proofs.Common.{◌≡◌, map}
use Rattle.levels.specs.Tickets.{ticket_from, laid}
use Rattle.words.specs.Rows.{laid_from}
use Rattle.tickets.proofs.Handing.{left}
use Rattle.tickets.proofs.hand_out.Given as goal

abbrev pub invariant-loop-i : goal.invariant-loop-i
invariant-loop-i l = laid_from l.i (left l.rows l.i) l.tickets ≡ laid (map ticket_from l.rows) l.initial.tickets
