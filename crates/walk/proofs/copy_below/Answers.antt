use native.Mathlib.Omega.{arith}
use Prim.Native.Nat.{◌<◌}
use Rattle.std.proofs.Common.{rules}
use Rattle.walk.proofs.Four.{skims_few}
use Rattle.walk.proofs.Between.{copies_start, copies_on, copies_in}
use Rattle.walk.proofs.copy_below.Goals as goal

pub loop-at-init : goal.loop-at-init
loop-at-init c = copies_start _ _ _ _ _ _ c.requires.0

pub list_one-live-requires : goal.list_one-live-requires
list_one-live-requires c =
    let i = c.loop-at.invariant in
    let b : c.loop-at.at.key < c.args.bound = search rules in
    let r = copies_in _ _ _ _ _ _ _ _ _ _ i b c.requires.1.0 in
    (r.0, (r.1.0, (r.1.1, omega (arith, i.counted, c.requires.1.1, skims_few _ _ _ _ _ c.requires.0 i.skims))))

pub loop-at-preserved : goal.loop-at-preserved
loop-at-preserved c =
    let l = c.list_one-live.ensures in
    let b : c.loop-at.at.key < c.args.bound = search rules in
    copies_on _ _ _ _ _ _ _ _ _ _ c.loop-at.invariant b c.requires.1.0 _ _ _ l.0 l.1.0 l.1.1 _ c.advance.ensures.0 c.advance.ensures.1
