use Prim.Native.Nat.{◌-◌, ◌≤◌}
use Rattle.steps.proofs.Marking.{Marked}
use Rattle.steps.proofs.marks.Given as goal

abbrev pub invariant-loop-i : goal.invariant-loop-i
invariant-loop-i l = (l.i ≤ l.h) × Marked l.h l.lists l.ns l.used l.i

abbrev pub decreases-loop-i : goal.decreases-loop-i
decreases-loop-i l = l.h - l.i
