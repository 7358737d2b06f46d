use mathlib.Core.Path.{◌≡◌}
use Prim.Native.Nat.{◌-◌, ◌≤◌}
use Rattle.geometry.specs.Geometry.{capacity_sum}
use Rattle.geometry.proofs.Geometry.capacity_sum.Given as goal

-- The loop's invariant: the sum so far is the capacities of the i levels passed. The measure is the levels left.
abbrev pub invariant-loop-i : goal.invariant-loop-i
invariant-loop-i l = (l.i ≤ l.n) × (l.sum ≡ capacity_sum l.self l.first l.i)

abbrev pub decreases-loop-i : goal.decreases-loop-i
decreases-loop-i l = l.n - l.i
