use mathlib.Core.Path.{◌≡◌}
use Rattle.compaction.specs.Machine.{record_sum}
use Rattle.compaction.proofs.record_sum.Given as goal

abbrev pub invariant-loop-q : goal.invariant-loop-q
invariant-loop-q l = l.total ≡ record_sum l.z l.s l.list l.q-index
