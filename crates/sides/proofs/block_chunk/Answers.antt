use native.Mathlib.Omega.{arith}
use Rattle.blocks.proofs.Laws.{ends}
use Rattle.sides.proofs.block_chunk.Goals as goal

pub word-n-requires : goal.word-n-requires
word-n-requires c = rw c.place_start-at.ensures (omega (arith, ends c.args.z c.args.s.now c.requires.0 c.args.q c.requires.1))

pub overflow_add-result : goal.overflow_add-result
overflow_add-result c = rw c.place_start-at.ensures (omega (arith, ends c.args.z c.args.s.now c.requires.0 c.args.q c.requires.1))

pub overflow_add-result-2 : goal.overflow_add-result-2
overflow_add-result-2 c = rw c.place_start-at.ensures (omega (arith, ends c.args.z c.args.s.now c.requires.0 c.args.q c.requires.1))

pub overflow_add-result-3 : goal.overflow_add-result-3
overflow_add-result-3 c = rw c.place_start-at.ensures (omega (arith, ends c.args.z c.args.s.now c.requires.0 c.args.q c.requires.1))

pub overflow_add-result-4 : goal.overflow_add-result-4
overflow_add-result-4 c = rw c.place_start-at.ensures (omega (arith, ends c.args.z c.args.s.now c.requires.0 c.args.q c.requires.1))
