use mathlib.Core.Path.{refl}
use Rattle.blocks.specs.Blocks.{marked}
use Rattle.blocks.proofs.Laws.{marked_more}
use Rattle.blocks.proofs.mark_listed.Goals as goal

pub loop-q-init : goal.loop-q-init
unfolding marked
loop-q-init c = refl

pub loop-q-preserved : goal.loop-q-preserved
loop-q-preserved c = rw c.loop-q.invariant (marked_more _ _ _)
