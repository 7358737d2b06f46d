use Rattle.dialogue.proofs.Tickets.{Shows}
use Rattle.dialogue.proofs.print_tickets.Given as goal

abbrev pub invariant-loop-row : goal.invariant-loop-row
invariant-loop-row l = Shows l.shown l.at l.initial.out l.row-index l.end l.out
