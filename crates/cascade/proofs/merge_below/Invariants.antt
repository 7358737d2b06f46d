use Rattle.levels.specs.Store.{rows}
use Rattle.levels.specs.Inside.{load}
use Rattle.steps.specs.Running.{store_of}
use Rattle.cascade.proofs.Rolling.{Turn}
use Rattle.cascade.proofs.merge_below.Given as goal

abbrev pub invariant-loop-level : goal.invariant-loop-level
invariant-loop-level l = Turn 98304 l.z l.initial.s l.initial.lists l.initial.v l.initial.rows l.s l.lists l.v l.rows l.filed

abbrev pub decreases-loop-level : goal.decreases-loop-level
decreases-loop-level l = load (rows (store_of l.z l.s l.lists l.v))
