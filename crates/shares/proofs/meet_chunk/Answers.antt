use Prim.Native.Nat.{◌+◌, ◌-◌, ◌≤◌}
use mathlib.Core.Path.{◌≡◌}
use native.Mathlib.Omega.{arith}
use lib.ListN.{length, get_or}
use Rattle.words.specs.Stores.{word}
use Rattle.words.proofs.Ranks.{keys_slots}
use Rattle.search.specs.Search.{Sought}
use Rattle.shares.proofs.Seating.{asked_of}
use Rattle.shares.proofs.Hiding.{no_bits, meet_turn}
use Rattle.shares.proofs.meet_chunk.Goals as goal
use Rattle.shares.proofs.meet_chunk.Goals.{In-loop-l}

-- the chunk that can have the next key
seat : (c : In-loop-l) → let a = c.seat_chunk-seats.result in let l = c.loop-l.l in
    (get_or a.above l 0 ≤ a.end) × Sought c.args.s.now c.args.up (word c.args.s.now (c.args.chunk.keys + l)) (a.end - get_or a.above l 0)
seat c = c.seat_chunk-seats.ensures.seat _ c.loop-l-test.true

pub loop-l-init : goal.loop-l-init
loop-l-init c = (omega arith, no_bits _)

pub overflow_sub-p : goal.overflow_sub-p
overflow_sub-p c = (seat (goal.at.overflow_sub-p c).In-loop-l).0

pub chunk_at-block-requires : goal.chunk_at-block-requires
chunk_at-block-requires c = (c.requires.0.within, (seat (goal.at.chunk_at-block-requires c).In-loop-l).1.inside)

pub has-requires : goal.has-requires
has-requires c = rw c.chunk_at-block.ensures (asked_of _ _ _ c.requires.0 (seat (goal.at.has-requires c).In-loop-l).1.inside)

pub bit_if-bits-requires : goal.bit_if-bits-requires
bit_if-bits-requires c = tt

pub loop-l-preserved : goal.loop-l-preserved
loop-l-preserved c =
    let p = c.requires in
    let i = c.loop-l.invariant in
    let a = p.1.1.0 in
    (omega arith, meet_turn _ _ _ _ _ _ _ _ _ p.0 (seat (goal.at.loop-l-preserved c).In-loop-l).1 c.chunk_at-block.ensures (omega (arith, a.room, a.most, c.loop-l-test.true)) (omega (arith, a.most, a.width_high, c.loop-l-test.true)) c.has.ensures c.bit_if-bits.ensures i.1)

pub returns : goal.returns
returns c =
    let p = c.requires in
    let i = c.loop-l.invariant in
    let a = p.1.1.0 in
    let e : c.loop-l.l ≡ c.args.chunk.count = omega (arith, i.0, c.loop-l-test.false) in
    let r : c.args.chunk.keys + c.args.chunk.count ≤ length c.args.s.now = omega (arith, a.room, a.most) in
    (rw (keys_slots _ _ _ _ _ r, ← e) i.1, c.seat_chunk-seats.ensures.ended)
