use Prim.Native.Nat.{◌-◌}
use Rattle.shares.proofs.Seating.{Counting}
use Rattle.shares.proofs.pass_fence.Given as goal

abbrev pub invariant-loop-l : goal.invariant-loop-l
invariant-loop-l l = Counting l.keys l.f l.initial.above l.above l.l

abbrev pub decreases-loop-l : goal.decreases-loop-l
decreases-loop-l l = 16 - l.l
