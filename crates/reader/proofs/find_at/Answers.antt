use Rattle.std.proofs.Common.{arith}
use Rattle.form.proofs.Ready.{ready_sized}
use Rattle.reader.proofs.Answering.{ready_level}
use Rattle.reader.proofs.find_at.Goals as goal

pub level_of-requires : goal.level_of-requires
level_of-requires c = (ready_sized _ _ c.requires.0, (c.requires.1.0, c.requires.1.1.0))

pub find_in-requires : goal.find_in-requires
find_in-requires c = rw c.level_of.ensures (ready_level _ _ c.requires.0 _ c.requires.1.0 c.requires.1.1.0, omega (arith, c.requires.1))

pub returns : goal.returns
returns c = rw (← c.level_of.ensures) c.find_in.ensures
