use native.Mathlib.Omega.{arith}
use Rattle.std.proofs.Common.{rules}
use mathlib.Core.Path.{◌≡◌}
use Prim.Native.Nat.{min}
use Rattle.walk.proofs.Ends.{walked_few, walked_stretch}
use Rattle.walk.proofs.list_stretch.Goals as goal

pub enter-from-requires : goal.enter-from-requires
enter-from-requires c = (c.deepest_last.ensures.formed _ c.requires.0, omega (arith, c.requires.1.0))

pub returns : goal.returns
returns c =
    let o = c.enter-from.ensures in
    let w = c.walk_on-n.ensures in
    let e : c.min.result ≡ min c.walk_on-n.result c.min-room.result = search rules in
    let r : c.min-room.result ≡ min _ _ = c.min-room.ensures in
    (rw (← c.deepest_last.ensures.shows _) (walked_stretch _ _ _ _ _ o _ _ _ _ _ _ w c.min-room.ensures _ c.min.ensures), omega (arith, walked_few _ _ _ _ _ _ _ _ _ o.ahead w))

pub overflow_cast-result : goal.overflow_cast-result
overflow_cast-result c =
    let o = c.enter-from.ensures in
    let w = c.walk_on-n.ensures in
    let e : c.min.result ≡ min c.walk_on-n.result c.min-room.result = search rules in
    omega (arith, walked_few _ _ _ _ _ _ _ _ _ o.ahead w)
