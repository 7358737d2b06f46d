use native.Mathlib.Omega.{arith}
use lib.ListN.{length-set}
use Rattle.top.specs.Top.{with_slot}
use Rattle.top.proofs.Words.{offsets}
use Rattle.top.proofs.write_slot.Goals as goal

pub overflow_add-page : goal.overflow_add-page
overflow_add-page c = rw c.block_records-b.ensures (omega (arith, offsets _ _ _ c.requires.0 c.requires.1.0 c.requires.1.1.0))

pub overflow_cast-shift : goal.overflow_cast-shift
overflow_cast-shift c = rw c.block_records-b.ensures (omega (arith, offsets _ _ _ c.requires.0 c.requires.1.0 c.requires.1.1.0))

pub offset_bounds-s-page : goal.offset_bounds-s-page
offset_bounds-s-page c = rw c.block_records-b.ensures (omega (arith, offsets _ _ _ c.requires.0 c.requires.1.0 c.requires.1.1.0))

pub bounds-s-page : goal.bounds-s-page
bounds-s-page c = rw c.block_records-b.ensures (offsets _ _ _ c.requires.0 c.requires.1.0 c.requires.1.1.0).mark

pub with_bit-m-requires : goal.with_bit-m-requires
with_bit-m-requires c = rw c.block_records-b.ensures (c.requires.1.1.1, (offsets _ _ _ c.requires.0 c.requires.1.0 c.requires.1.1.0).shift)

pub offset_bounds-s-z : goal.offset_bounds-s-z
offset_bounds-s-z c = omega (arith, offsets _ _ _ c.requires.0 c.requires.1.0 c.requires.1.1.0)

pub bounds-s-z : goal.bounds-s-z
bounds-s-z c = (offsets _ _ _ c.requires.0 c.requires.1.0 c.requires.1.1.0).key

pub offset_bounds-s-z-2 : goal.offset_bounds-s-z-2
offset_bounds-s-z-2 c = omega (arith, offsets _ _ _ c.requires.0 c.requires.1.0 c.requires.1.1.0)

pub bounds-s-z-2 : goal.bounds-s-z-2
bounds-s-z-2 c = simp length-set (offsets _ _ _ c.requires.0 c.requires.1.0 c.requires.1.1.0).pay

pub offset_bounds-s-page-2 : goal.offset_bounds-s-page-2
offset_bounds-s-page-2 c = rw c.block_records-b.ensures (omega (arith, offsets _ _ _ c.requires.0 c.requires.1.0 c.requires.1.1.0))

pub bounds-s-page-2 : goal.bounds-s-page-2
bounds-s-page-2 c = rw c.block_records-b.ensures (simp length-set (offsets _ _ _ c.requires.0 c.requires.1.0 c.requires.1.1.0).mark)

pub returns : goal.returns
unfolding with_slot
returns c = rw (c.with_bit-m.ensures, c.block_records-b.ensures)
