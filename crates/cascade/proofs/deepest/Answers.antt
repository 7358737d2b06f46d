use Prim.Native.Nat.{◌-◌}
use mathlib.Core.Path.{◌≡◌, sym, ◌∙◌}
use native.Mathlib.Omega.{arith}
use Rattle.cascade.specs.Cascade.{deepest_for}
use Rattle.cascade.proofs.Depth.{deepest_here, deepest_past, numbered_some, numbered_none}
use Rattle.cascade.proofs.deepest.Goals as goal

pub returns-then-capacity-ns : goal.returns-then-capacity-ns
returns-then-capacity-ns c =
    let m = c.loop-level.level - 1 in
    numbered_some _ m (deepest_here _ _ (m - 1) m _ (omega (arith, c.loop-level-test.true)) c.capacity.ensures c.if-capacity-ns.true ∙ c.loop-level.invariant) (omega (arith, c.loop-level-test.true))

pub loop-level-preserved : goal.loop-level-preserved
loop-level-preserved c =
    let m = c.loop-level.level - 1 in
    sym (deepest_past _ _ (m - 1) m _ (omega (arith, c.loop-level-test.true)) c.capacity.ensures c.if-capacity-ns.false) ∙ c.loop-level.invariant

pub returns : goal.returns
unfolding deepest_for
returns c =
    let e : c.loop-level.level - 1 ≡ 0 = omega (arith, c.loop-level-test.false) in
    numbered_none _ (rw e at c.loop-level.invariant)
