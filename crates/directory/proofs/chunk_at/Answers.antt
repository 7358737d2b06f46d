use native.Mathlib.Omega.{arith}
use Rattle.directory.specs.Directory.{chunk_at}
use Rattle.directory.proofs.Laws.{page_in}
use Rattle.directory.proofs.chunk_at.Goals as goal

pub overflow_add-x : goal.overflow_add-x
overflow_add-x c = omega (arith, c.requires.0.list _ c.requires.1)

pub offset_bounds-s-dir : goal.offset_bounds-s-dir
offset_bounds-s-dir c = omega (arith, c.requires.0.list _ c.requires.1)

pub bounds-s-dir : goal.bounds-s-dir
bounds-s-dir c = c.requires.0.list _ c.requires.1

pub page_at-requires : goal.page_at-requires
page_at-requires c = page_in _ _ c.requires.0 _ c.requires.1 c.if-dir.true

pub returns-then-dir : goal.returns-then-dir
unfolding chunk_at
returns-then-dir c = rw c.if-dir.true c.page_at.ensures

pub overflow_mul-start-2 : goal.overflow_mul-start-2
overflow_mul-start-2 c = omega (arith, c.requires.0.blocks c.if-dir.false _ c.requires.1)

pub overflow_add-start-2 : goal.overflow_add-start-2
overflow_add-start-2 c = omega (arith, c.requires.0.blocks c.if-dir.false _ c.requires.1)

pub block_at-requires : goal.block_at-requires
block_at-requires c = (c.requires.0.blocks c.if-dir.false _ c.requires.1, c.requires.0.width_high)

pub returns : goal.returns
unfolding chunk_at
returns c = rw c.if-dir.false c.block_at.ensures
