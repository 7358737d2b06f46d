use mathlib.Core.Path.{refl}
use Rattle.geometry.specs.Geometry.{block_width}
use Rattle.geometry.proofs.Geometry.block_width.Goals as goal

pub returns : goal.returns
unfolding block_width
returns c = refl
