use mathlib.Core.Path.{◌≡◌}
use Rattle.stream.specs.Machine.{memory}
use Rattle.compaction.specs.Machine.{records_gathered}
use Rattle.compaction.proofs.gather_chunk.Given as goal

abbrev pub invariant-loop-j : goal.invariant-loop-j
invariant-loop-j l = memory l.s l.desk ≡ records_gathered l.z l.chunk l.j (memory l.initial.s l.initial.desk)
