use Rattle.std.proofs.Common.{rules}
use Prim.Native.Nat.{◌+◌, ◌<◌}
use mathlib.Core.Path.{refl}
use lib.ListN.{get_or}
use native.Mathlib.Omega.{arith}
use Rattle.search.proofs.Laws.{rank_ready}
use Rattle.walk.proofs.Rest.{refill_none}
use Rattle.walk.proofs.From.{SlotRoom, slot_room, from_slot, from_after, from_none}
use Rattle.walk.proofs.cursor_from.Goals as goal
use Rattle.walk.proofs.cursor_from.Goals.{Else-chunk-slot}

-- what is known where a record of the chunk is not below q
room : (c : Else-chunk-slot) → SlotRoom c.args.s.now c.chunk_at-chunk.result c.count_below-slot.result
room c = slot_room _ _ c.requires.0 _ _ c.seek_chunk-i.ensures _ c.chunk_at-chunk.ensures _ c.count_below-slot.ensures (omega (arith, c.if-chunk-slot.false))

pub returns-then-dir-lt1 : goal.returns-then-dir-lt1
returns-then-dir-lt1 c =
    let g = refill_none _ _ c.requires.0 0 (omega (arith, c.if-dir-lt1.true)) (omega arith) in from_none _ _ _ _ c.if-dir-lt1.true c.requires.1 g.0 g.1

pub count_below-slot-requires : goal.count_below-slot-requires
count_below-slot-requires c = let p = rank_ready _ _ c.requires.0 _ c.seek_chunk-i.ensures.inside _ c.chunk_at-chunk.ensures in (p.0, (p.1, c.requires.1))

pub returns-then-chunk-slot : goal.returns-then-chunk-slot
returns-then-chunk-slot c =
    from_after _ _ c.requires.0 _ _ c.seek_chunk-i.ensures _ c.chunk_at-chunk.ensures _ c.count_below-slot.ensures _ (omega (arith, c.if-chunk-slot.true)) c.requires.1 c.refill.ensures.0 c.refill.ensures.1

pub overflow_add-keys : goal.overflow_add-keys
overflow_add-keys c = let p = room (goal.at.overflow_add-keys c).Else-chunk-slot in omega (arith, p.key_in, p.short)

pub overflow_add-cur-2 : goal.overflow_add-cur-2
overflow_add-cur-2 c = let p = room (goal.at.overflow_add-cur-2 c).Else-chunk-slot in omega (arith, p.pay_in, p.short)

pub offset_bounds-s-keys : goal.offset_bounds-s-keys
offset_bounds-s-keys c = let p = room (goal.at.offset_bounds-s-keys c).Else-chunk-slot in omega (arith, p.key_in, p.short)

pub bounds-s-keys : goal.bounds-s-keys
bounds-s-keys c = (room (goal.at.bounds-s-keys c).Else-chunk-slot).key_in

pub returns : goal.returns
returns c =
    let b : get_or c.args.s.now (c.chunk_at-chunk.result.keys + c.count_below-slot.result) 0 < 4294967296 = search rules in
    from_slot _ _ c.requires.0 _ _ c.seek_chunk-i.ensures _ c.chunk_at-chunk.ensures _ c.count_below-slot.ensures _ (omega (arith, c.if-chunk-slot.false)) refl b
