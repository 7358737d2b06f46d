use native.Mathlib.Omega.{arith}
use Rattle.geometry.proofs.Laws.{flash_capacity_high}
use Rattle.geometry.proofs.Bounds.{capacity_zero_high, top_capacity_high, place_offset_high}
use Rattle.layout.specs.Layouts.{old}
use Rattle.layout.proofs.Layout.old.Goals as goal

pub overflow_add-keys : goal.overflow_add-keys
overflow_add-keys c = omega (arith, c.capacity-top.ensures, capacity_zero_high _ c.requires.ranged, top_capacity_high _ c.requires.ranged)

pub overflow_add-pays : goal.overflow_add-pays
overflow_add-pays c = omega (arith, c.capacity-top.ensures, c.top_capacity-records.ensures, capacity_zero_high _ c.requires.ranged, top_capacity_high _ c.requires.ranged)

pub overflow_add-lists : goal.overflow_add-lists
overflow_add-lists c = omega (arith, c.capacity-top.ensures, c.top_capacity-records.ensures, capacity_zero_high _ c.requires.ranged, top_capacity_high _ c.requires.ranged)

pub overflow_add-places : goal.overflow_add-places
overflow_add-places c = omega (arith, c.flash_capacity.ensures, flash_capacity_high _ c.requires, c.capacity-top.ensures, c.top_capacity-records.ensures, capacity_zero_high _ c.requires.ranged, top_capacity_high _ c.requires.ranged)

pub overflow_mul-area : goal.overflow_mul-area
overflow_mul-area c = rw (c.block_width.ensures, c.places.ensures) (omega (arith, place_offset_high _ c.requires.ranged _ c.requires.places_high))

pub overflow_add-length : goal.overflow_add-length
overflow_add-length c =
    rw (c.block_width.ensures, c.places.ensures)
    (omega (arith, place_offset_high _ c.requires.ranged _ c.requires.places_high, c.flash_capacity.ensures, flash_capacity_high _ c.requires, c.capacity-top.ensures, c.top_capacity-records.ensures, capacity_zero_high _ c.requires.ranged, top_capacity_high _ c.requires.ranged))

pub returns : goal.returns
unfolding old
returns c = rw (c.block_width.ensures, c.places.ensures, c.flash_capacity.ensures, c.top_capacity-records.ensures, c.capacity-top.ensures)
