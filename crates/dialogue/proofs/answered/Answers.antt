use borrow.Author.Rules.{rules}
use Rattle.dialogue.proofs.answered.Goals as goal

pub returns : goal.returns
returns c = rw c.start.ensures
