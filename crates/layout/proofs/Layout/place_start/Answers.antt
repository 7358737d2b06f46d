use Rattle.layout.specs.Layouts.{place_start}
use Rattle.layout.proofs.Layout.place_start.Goals as goal

pub returns : goal.returns
unfolding place_start
returns c = rw c.block_width-width.ensures
