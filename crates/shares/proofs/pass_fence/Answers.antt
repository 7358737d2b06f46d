use native.Mathlib.Omega.{arith}
use Rattle.shares.proofs.Seating.{counting_start, counting_room, counting_step, counting_end}
use Rattle.shares.proofs.pass_fence.Goals as goal

pub loop-l-init : goal.loop-l-init
loop-l-init c = counting_start _ _ _ c.requires.0

pub overflow_add-above : goal.overflow_add-above
overflow_add-above c =
    let l = c.loop-l in
    let r = counting_room _ _ _ _ l.l _ l.invariant (c.requires.1 l.l c.loop-l-test.true) c.bit_if.ensures in
    omega (arith, r)

pub loop-l-preserved : goal.loop-l-preserved
loop-l-preserved c =
    let l = c.loop-l in
    counting_step _ _ _ _ l.l _ l.invariant c.loop-l-test.true c.bit_if.ensures

pub returns : goal.returns
returns c = counting_end _ _ _ _ c.loop-l.l c.loop-l.invariant c.loop-l-test.false
