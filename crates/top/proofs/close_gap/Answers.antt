use native.Mathlib.Omega.{arith}
use lib.ListN.{length-set}
use Rattle.geometry.proofs.Bounds.{top_capacity_high}
use Rattle.top.proofs.Words.{ready_inside, ready_bounds}
use Rattle.top.proofs.Closing.{closing_room, closed_top}
use Rattle.top.proofs.close_gap.Goals as goal

pub overflow_mul-at : goal.overflow_mul-at
overflow_mul-at c = rw c.block_records-b.ensures (omega (arith, closing_room _ _ _ c.requires.1.1, top_capacity_high _ c.requires.0.proper.valid.ranged))

pub overflow_mul-gap : goal.overflow_mul-gap
overflow_mul-gap c = rw c.block_records-b.ensures (omega (arith, closing_room _ _ _ c.requires.1.1, top_capacity_high _ c.requires.0.proper.valid.ranged))

pub close_part-requires : goal.close_part-requires
close_part-requires c = rw c.capacity-pages.ensures (c.requires.1.1, (ready_inside _ _ c.requires.0).marks)

pub close_part-requires-2 : goal.close_part-requires-2
close_part-requires-2 c = rw (c.block_records-b.ensures, c.top_capacity-room.ensures) (closing_room _ _ _ c.requires.1.1, omega (arith, ready_inside _ _ c.requires.0, c.close_part.auto.s))

pub close_part-requires-3 : goal.close_part-requires-3
close_part-requires-3 c = rw (c.block_records-b.ensures, c.top_capacity-room.ensures) (closing_room _ _ _ c.requires.1.1, omega (arith, ready_inside _ _ c.requires.0, c.close_part.auto.s, c.close_part-2.auto.s))

pub overflow_sub-s : goal.overflow_sub-s
overflow_sub-s c = rw (c.block_records-b.ensures, c.top_capacity-room.ensures) (omega (arith, closing_room _ _ _ c.requires.1.1))

pub overflow_cast-s : goal.overflow_cast-s
overflow_cast-s c = rw c.top_capacity-room.ensures (omega (arith, top_capacity_high _ c.requires.0.proper.valid.ranged))

pub offset_bounds-s-count : goal.offset_bounds-s-count
offset_bounds-s-count c = omega (arith, ready_bounds _ _ c.requires.0)

pub bounds-s-count : goal.bounds-s-count
bounds-s-count c = omega (arith, ready_bounds _ _ c.requires.0, c.close_part.auto.s, c.close_part-2.auto.s, c.close_part-3.auto.s)

pub shape_of-s : goal.shape_of-s
shape_of-s c = simp length-set (omega (arith, c.close_part.auto.s, c.close_part-2.auto.s, c.close_part-3.auto.s))

pub returns : goal.returns
returns c = rw (c.close_part-3.ensures, c.close_part-2.ensures, c.close_part.ensures, c.block_records-b.ensures, c.capacity-pages.ensures, c.top_capacity-room.ensures) (closed_top _ _ c.requires.0 _ _ c.requires.1.1 c.requires.1.0)
