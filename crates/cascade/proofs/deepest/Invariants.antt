use Prim.Native.Nat.{◌-◌}
use mathlib.Core.Path.{◌≡◌}
use Rattle.cascade.specs.Cascade.{deepest_for}
use Rattle.cascade.proofs.deepest.Given as goal

abbrev pub invariant-loop-level : goal.invariant-loop-level
invariant-loop-level l = deepest_for l.g l.ns (l.level - 1) ≡ deepest_for l.g l.ns (l.g.h - 1)
