use Prim.Native.Nat.{◌≤◌, ◌+◌, ◌-◌}
use Rattle.blocks.proofs.Laws.{Searching}
use Rattle.blocks.proofs.first_free.Given as goal

abbrev pub invariant-loop-q : goal.invariant-loop-q
invariant-loop-q l = (1 ≤ l.k) × ((l.k ≤ l.p) × Searching l.used l.p l.cursor l.k)

abbrev pub decreases-loop-q : goal.decreases-loop-q
decreases-loop-q l = l.p + 1 - l.k
