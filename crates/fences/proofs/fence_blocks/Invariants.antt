use mathlib.Core.Path.{◌≡◌}
use Rattle.fences.specs.Reading.{fill, listed_fence}
use Rattle.fences.proofs.fence_blocks.Given as goal

abbrev pub invariant-loop-i : goal.invariant-loop-i
invariant-loop-i l = l.fences ≡ fill (listed_fence l.z l.s l.list) l.i l.initial.fences
