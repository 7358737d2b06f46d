use native.Mathlib.Omega.{arith}
use Rattle.geometry.specs.Geometry.{key_limit_of}
use Rattle.geometry.proofs.Bounds.{room_high, above_high}
use Rattle.geometry.proofs.Geometry.key_limit.Goals as goal

pub overflow_mul-room-2 : goal.overflow_mul-room-2
overflow_mul-room-2 c = rw c.capacity.ensures (omega (arith, room_high _ c.requires c.requires.h_high))

pub overflow_mul-above : goal.overflow_mul-above
overflow_mul-above c = rw c.capacity_sum.ensures (omega (arith, above_high _ c.requires c.args.self.h (omega arith)))

pub returns-then-room-above : goal.returns-then-room-above
unfolding key_limit_of
returns-then-room-above c = rw (← c.capacity.ensures, ← c.capacity_sum.ensures) (omega arith)

pub returns-else-room-above : goal.returns-else-room-above
unfolding key_limit_of
returns-else-room-above c = rw (c.capacity.ensures, c.capacity_sum.ensures)
