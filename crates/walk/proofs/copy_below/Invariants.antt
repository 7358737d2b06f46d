use Rattle.walk.specs.Walk.{rest, Copies}
use lib.ListN.{length}
use Rattle.walk.proofs.copy_below.Given as goal

abbrev pub invariant-loop-at : goal.invariant-loop-at
invariant-loop-at l = Copies l.s l.initial.at l.bound l.n l.initial.keys l.initial.pays l.at l.live l.keys l.pays

abbrev pub decreases-loop-at : goal.decreases-loop-at
decreases-loop-at l = length (rest l.s l.at)
