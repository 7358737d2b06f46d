use Rattle.shares.proofs.Hiding.{has_is}
use Rattle.shares.proofs.has.Goals as goal

pub returns : goal.returns
returns c = has_is _ _ _ _ _ c.requires c.slots_with-found.ensures
