use Prim.Native.Nat.{◌-◌, ◌≤◌}
use Rattle.stream.proofs.Taking.{Held}
use Rattle.stream.proofs.Desk.gather_run.Given as goal

abbrev pub invariant-loop-k : goal.invariant-loop-k
invariant-loop-k l = (l.k ≤ l.end) × Held l.s l.bottom l.head l.from l.initial.buf l.k l.buf

abbrev pub decreases-loop-k : goal.decreases-loop-k
decreases-loop-k l = l.end - l.k
