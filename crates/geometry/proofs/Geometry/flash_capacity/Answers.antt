use Rattle.geometry.specs.Geometry.{flash_capacity_of}
use Rattle.geometry.proofs.Geometry.flash_capacity.Goals as goal

pub returns : goal.returns
unfolding flash_capacity_of
returns c = c.capacity_sum.ensures
