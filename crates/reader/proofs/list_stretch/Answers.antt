use Rattle.form.proofs.Ready.{ready_sized, ready_levels}
use Rattle.reader.proofs.Answering.{stretch_levels}
use Rattle.reader.proofs.list_stretch.Goals as goal

pub levels_of-requires : goal.levels_of-requires
levels_of-requires c = ready_sized _ _ c.requires.0

pub list_stretch-requires : goal.list_stretch-requires
list_stretch-requires c = (rw c.levels_of.ensures (ready_levels _ _ c.requires.0), c.requires.1)

pub returns : goal.returns
returns c =
    rw (← stretch_levels c.args.s.now c.args.z c.requires.0 c.args.first c.args.last) (rw c.levels_of.ensures at c.list_stretch.ensures.0)
