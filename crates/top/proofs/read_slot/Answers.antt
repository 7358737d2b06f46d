use native.Mathlib.Omega.{arith}
use Rattle.top.specs.Top.{slot_at}
use Rattle.top.proofs.Words.{offsets}
use Rattle.top.proofs.read_slot.Goals as goal

pub overflow_add-m : goal.overflow_add-m
overflow_add-m c = rw c.block_records-b.ensures (omega (arith, offsets _ _ _ c.requires.0 c.requires.1.0 c.requires.1.1))

pub offset_bounds-s-z : goal.offset_bounds-s-z
offset_bounds-s-z c = rw c.block_records-b.ensures (omega (arith, offsets _ _ _ c.requires.0 c.requires.1.0 c.requires.1.1))

pub bounds-s-z : goal.bounds-s-z
bounds-s-z c = rw c.block_records-b.ensures (offsets _ _ _ c.requires.0 c.requires.1.0 c.requires.1.1).mark

pub overflow_cast-shift : goal.overflow_cast-shift
overflow_cast-shift c = rw c.block_records-b.ensures (omega (arith, offsets _ _ _ c.requires.0 c.requires.1.0 c.requires.1.1))

pub offset_bounds-s-z-2 : goal.offset_bounds-s-z-2
offset_bounds-s-z-2 c = omega (arith, offsets _ _ _ c.requires.0 c.requires.1.0 c.requires.1.1)

pub bounds-s-z-2 : goal.bounds-s-z-2
bounds-s-z-2 c = (offsets _ _ _ c.requires.0 c.requires.1.0 c.requires.1.1).key

pub offset_bounds-s-z-3 : goal.offset_bounds-s-z-3
offset_bounds-s-z-3 c = omega (arith, offsets _ _ _ c.requires.0 c.requires.1.0 c.requires.1.1)

pub bounds-s-z-3 : goal.bounds-s-z-3
bounds-s-z-3 c = (offsets _ _ _ c.requires.0 c.requires.1.0 c.requires.1.1).pay

pub overflow_shr-result : goal.overflow_shr-result
overflow_shr-result c = rw c.block_records-b.ensures (omega (arith, offsets _ _ _ c.requires.0 c.requires.1.0 c.requires.1.1))

pub returns : goal.returns
unfolding slot_at
returns c = rw c.block_records-b.ensures
