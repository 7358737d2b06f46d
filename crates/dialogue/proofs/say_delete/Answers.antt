use native.Mathlib.Omega.{arith}
use Rattle.store.proofs.Changing.{delete_merges}
use Rattle.store.proofs.Sums.{delete_fit}
use Rattle.dialogue.proofs.Tickets.{rows_room, change_said_lem}
use borrow.Author.Rules.{rules}
use Rattle.dialogue.proofs.say_delete.Goals as goal

pub print_whole-requires : goal.print_whole-requires
print_whole-requires c = let d = c.delete_rows-changed.ensures in let n = delete_merges _ _ _ _ d.0 in (rows_room _ _ _ _ _ d.1 c.requires, (delete_fit _ _ _ _ d.0, omega (arith, n.0, n.1)))

pub returns : goal.returns
returns c = let d = c.delete_rows-changed.ensures in change_said_lem _ c.delete_rows-changed.result _ _ _ _ _ _ _ _ _ d.0.outcome (delete_merges _ _ _ _ d.0).0 d.1 c.print_whole.ensures
