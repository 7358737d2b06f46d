use native.Mathlib.Omega.{arith}
use mathlib.Core.Path.{◌≡◌, refl}
use lib.ListN.{length}
use Rattle.blocks.proofs.Laws.{in_store}
use Rattle.compaction.specs.Machine.{record_sum}
use Rattle.compaction.proofs.Counting.{sum_more, sum_low}
use Rattle.compaction.proofs.record_sum.Goals as goal

pub loop-q-init : goal.loop-q-init
unfolding record_sum
loop-q-init c = refl

pub place_start-at-requires : goal.place_start-at-requires
place_start-at-requires c = (c.requires.sized.b_high, c.requires.sized.base_high, omega (arith, c.requires.place c.loop-q.q-index c.loop-q-test.true, c.requires.sized.places))

pub word-total-requires : goal.word-total-requires
word-total-requires c = rw c.place_start-at.ensures (omega (arith, in_store c.args.z c.args.s.now c.requires.sized _ 0 (c.requires.place c.loop-q.q-index c.loop-q-test.true) (omega (arith, c.requires.sized.b_low))))

pub overflow_add-total : goal.overflow_add-total
overflow_add-total c = rw (c.word-total.ensures.0, c.place_start-at.ensures, c.loop-q.invariant) (omega (arith, sum_low c.args.z c.args.s.now c.args.list.now c.requires c.loop-q.q-index c.loop-q-test.true))

pub loop-q-preserved : goal.loop-q-preserved
loop-q-preserved c = rw (c.word-total.ensures.0, c.place_start-at.ensures, c.loop-q.invariant) (sum_more c.args.z c.args.s.now c.args.list.now c.loop-q.q-index)

pub returns : goal.returns
returns c =
    let n : c.loop-q.q-index ≡ length c.args.list.now = omega arith in
    rw n at c.loop-q.invariant
