use mathlib.Core.Path.{◌≡◌}
use Rattle.fences.specs.Reading.{fill, page_fence}
use Rattle.fences.proofs.fence_pages.Given as goal

abbrev pub invariant-loop-i : goal.invariant-loop-i
invariant-loop-i l = l.fences ≡ fill (page_fence l.z l.s) l.i l.initial.fences
