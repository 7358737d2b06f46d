use Prim.Native.Nat.{◌-◌, ◌*◌, ◌≤◌}
use mathlib.Core.Path.{◌≡◌}
use lib.ListN.{length}
use Rattle.levels.specs.Map.{unmarked}
use Rattle.shares.specs.Shadow.{shadow_from}
use Rattle.shares.proofs.shown.Given as goal

abbrev pub invariant-loop-i : goal.invariant-loop-i
invariant-loop-i l = (l.i ≤ l.dir.chunks) × ((l.total ≤ 16 * l.i) × (l.total ≡ length (unmarked (shadow_from l.s l.dir l.gone 0 l.i))))

abbrev pub decreases-loop-i : goal.decreases-loop-i
decreases-loop-i l = l.n - l.i
