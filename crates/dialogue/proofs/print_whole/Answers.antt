use native.Mathlib.Omega.{arith}
use lib.ListN.{length}
use Rattle.dialogue.proofs.Replies.{line_fits, answer_long}
use Rattle.dialogue.proofs.Tickets.{whole_printed}
use borrow.Author.Rules.{rules}
use Rattle.dialogue.proofs.print_whole.Goals as goal

pub print_changed-end-requires : goal.print_changed-end-requires
print_changed-end-requires c = (omega (arith, c.requires.0, line_fits (length c.args.rows.now)), c.requires.1.0)

pub print_tickets-requires : goal.print_tickets-requires
print_tickets-requires c = omega (arith, c.requires.0, c.print_changed-end.ensures.0, c.print_changed-end.auto.out, answer_long (length c.args.rows.now))

pub returns : goal.returns
returns c = whole_printed _ _ _ _ _ _ _ _ _ _ c.merges.ensures c.print_changed-end.ensures c.print_tickets.ensures
