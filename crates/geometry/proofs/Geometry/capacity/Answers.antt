use native.Mathlib.Omega.{arith}
use Rattle.geometry.specs.Geometry.{capacity_of}
use Rattle.geometry.proofs.Bounds.{capacity_high}
use Rattle.geometry.proofs.Geometry.capacity.Goals as goal

pub overflow_mul-result-2 : goal.overflow_mul-result-2
unfolding capacity_of
overflow_mul-result-2 c = rw c.power.ensures (omega (arith, capacity_high _ c.requires.0 c.requires.1))

pub returns : goal.returns
unfolding capacity_of
returns c = rw c.power.ensures
