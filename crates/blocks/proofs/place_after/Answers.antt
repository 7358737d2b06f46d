use borrow.Author.Tests.{lt-ltb, le-ltb}
use Rattle.blocks.specs.Blocks.{after_by}
use Rattle.blocks.proofs.place_after.Goals as goal

pub returns-then-cursor-k : goal.returns-then-cursor-k
unfolding after_by
returns-then-cursor-k c = rw (lt-ltb _ _ c.if-cursor-k.true)

pub returns-else-cursor-k : goal.returns-else-cursor-k
unfolding after_by
returns-else-cursor-k c = rw (le-ltb _ _ c.if-cursor-k.false)
