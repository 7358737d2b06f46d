use mathlib.Core.Path.{refl}
use Rattle.geometry.specs.Geometry.{in_ranges}
use Rattle.geometry.proofs.Geometry.in_ranges.Goals as goal

pub returns : goal.returns
unfolding in_ranges
returns c = refl
