use Rattle.shares.proofs.slots_with.Goals as goal

pub returns-then-n-eq16 : goal.returns-then-n-eq16
returns-then-n-eq16 c = rw c.if-n-eq16.true c.bits_of.ensures
