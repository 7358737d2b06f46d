use native.Mathlib.Omega.{arith}
use Rattle.geometry.specs.Geometry.{window_of}
use Rattle.geometry.proofs.Bounds.{window_high}
use Rattle.geometry.proofs.Geometry.window.Goals as goal

pub overflow_mul-result : goal.overflow_mul-result
unfolding window_of
overflow_mul-result c = rw c.power-f.ensures (omega (arith, window_high _ c.requires.0 c.requires.1))

pub returns : goal.returns
unfolding window_of
returns c = rw c.power-f.ensures
