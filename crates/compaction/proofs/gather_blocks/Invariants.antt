use mathlib.Core.Path.{◌≡◌}
use Rattle.stream.specs.Machine.{memory}
use Rattle.compaction.specs.Machine.{blocks_gathered}
use Rattle.compaction.proofs.gather_blocks.Given as goal

abbrev pub invariant-loop-q : goal.invariant-loop-q
invariant-loop-q l = memory l.s l.desk ≡ blocks_gathered l.z l.list l.q-index (memory l.initial.s l.initial.desk)
