use Rattle.joins.specs.Joins.{after_taken}
use Rattle.joins.proofs.take_after.Goals as goal

pub returns : goal.returns
unfolding after_taken
returns c = rw c.append_block-desk.ensures
