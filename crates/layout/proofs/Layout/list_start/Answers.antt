use Prim.Native.Nat.{◌-◌}
use native.Mathlib.Omega.{arith}
use Rattle.geometry.proofs.Bounds.{capacity_sum_high}
use Rattle.layout.specs.Layouts.{list_start}
use Rattle.layout.proofs.Laws.{lists_before, places_before}
use Rattle.layout.proofs.Layout.list_start.Goals as goal

pub overflow_add-result : goal.overflow_add-result
overflow_add-result c =
    let k = c.requires.0 in
    rw c.capacity_sum-before.ensures (omega (arith, lists_before _ k, places_before _ k, k.short, capacity_sum_high _ k.valid.ranged 1 (c.args.level - 1) (omega arith)))

pub returns : goal.returns
unfolding list_start
returns c = rw c.capacity_sum-before.ensures
