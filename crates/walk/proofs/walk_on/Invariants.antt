use Rattle.walk.specs.Walk.{rests_of}
use Rattle.walk.proofs.Four.{load}
use Rattle.walk.proofs.Walking.{Walking}
use Rattle.walk.proofs.walk_on.Given as goal

abbrev pub invariant-loop-front : goal.invariant-loop-front
invariant-loop-front l = Walking l.s l.initial.front l.stop l.initial.keys l.initial.pays l.front l.n l.keys l.pays

abbrev pub decreases-loop-front : goal.decreases-loop-front
decreases-loop-front l = load (rests_of l.s l.front)
