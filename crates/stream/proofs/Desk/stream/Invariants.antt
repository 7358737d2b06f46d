use Prim.Native.Nat.{◌≤◌, ◌-◌}
use mathlib.Core.Path.{◌≡◌}
use lib.ListN.{length}
use Rattle.stream.specs.Machine.{Turned, memory}
use Rattle.stream.proofs.Desk.stream.Given as goal

abbrev pub invariant-loop-k : goal.invariant-loop-k
invariant-loop-k l = (l.k ≤ l.limit) × ((length l.s ≡ length l.initial.s) × Turned l.z l.t l.xs l.ys l.k (memory l.initial.s l.initial.self) (memory l.s l.self))

abbrev pub decreases-loop-k : goal.decreases-loop-k
decreases-loop-k l = l.limit - l.k
