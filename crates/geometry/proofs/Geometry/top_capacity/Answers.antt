use native.Mathlib.Omega.{arith}
use Rattle.geometry.specs.Geometry.{top_capacity_of}
use Rattle.geometry.proofs.Bounds.{top_capacity_high}
use Rattle.geometry.proofs.Geometry.top_capacity.Goals as goal

pub overflow_mul-result : goal.overflow_mul-result
unfolding top_capacity_of
overflow_mul-result c = rw c.capacity.ensures (omega (arith, top_capacity_high _ c.requires))

pub returns : goal.returns
unfolding top_capacity_of
returns c = rw c.capacity.ensures
