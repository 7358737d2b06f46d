use native.Mathlib.Omega.{arith}
use Rattle.geometry.specs.Geometry.{in_sizes}
use Rattle.geometry.proofs.Bounds.{flash_capacity_fits}
use Rattle.geometry.proofs.Geometry.in_sizes.Goals as goal

pub overflow_mul-result : goal.overflow_mul-result
overflow_mul-result c = rw c.flash_capacity-flash.ensures (omega (arith, flash_capacity_fits _ c.requires))

pub overflow_add-result : goal.overflow_add-result
overflow_add-result c = rw c.flash_capacity-flash.ensures (omega (arith, flash_capacity_fits _ c.requires))

pub returns : goal.returns
unfolding in_sizes
returns c = rw (c.key_limit-limit.ensures, c.flash_capacity-flash.ensures, c.capacity-bottom.ensures)
