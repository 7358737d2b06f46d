use Prim.Native.Nat.{◌≤◌, ◌*◌, ◌-◌}
use mathlib.Core.Path.{◌≡◌}
use Rattle.directory.specs.Directory.{pass_of, level_formed}
use Rattle.directory.proofs.level_formed.Given as goal

abbrev pub invariant-loop-i : goal.invariant-loop-i
invariant-loop-i l = (l.i ≤ l.n) × ((l.before ≤ l.width) × ((l.total ≤ l.i * l.width) × (pass_of l.s l.dir l.i (l.n - l.i) l.low l.before l.total ≡ level_formed l.s l.dir)))

abbrev pub decreases-loop-i : goal.decreases-loop-i
decreases-loop-i l = l.n - l.i
