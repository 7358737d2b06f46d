use native.Mathlib.Omega.{arith}
use native.Mathlib.Numerals.{add-one}
use mathlib.Core.Path.{refl}
use Prim.Native.Nat.{◌+◌}
use Rattle.geometry.specs.Geometry.{capacity_sum}
use Rattle.geometry.proofs.Bounds.{capacity_high, capacity_sum_high}
use Rattle.geometry.proofs.Geometry.capacity_sum.Goals as goal

pub loop-i-init : goal.loop-i-init
unfolding capacity_sum
loop-i-init c = (omega arith, refl)

pub overflow_add-sum : goal.overflow_add-sum
overflow_add-sum c =
    let i = c.loop-i.i in
    omega
    (arith, capacity_sum_high _ c.requires.0 c.args.first i (omega arith), capacity_high _ c.requires.0 {i = c.args.first + i} (omega arith))

pub loop-i-preserved : goal.loop-i-preserved
unfolding capacity_sum
loop-i-preserved c = (omega arith, rw (add-one, c.capacity-sum.ensures, c.loop-i.invariant.1))
