use mathlib.Core.Path.{refl}
use Rattle.blocks.specs.Blocks.{start_of}
use Rattle.blocks.proofs.place_start.Goals as goal

pub returns : goal.returns
unfolding start_of
returns c = refl
