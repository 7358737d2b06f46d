use Prim.Native.Nat.{◌+◌, ◌-◌, ◌≤◌}
use mathlib.Core.Path.{◌≡◌, refl, sym, ◌∙◌}
use native.Mathlib.Omega.{arith}
use lib.ListN.{length, get_or, length-set}
use Rattle.words.specs.Stores.{word}
use Rattle.words.proofs.Ranks.{keys_slots}
use Rattle.search.specs.Search.{Sought}
use Rattle.shares.proofs.Shares.{hide_nil}
use Rattle.shares.proofs.Seating.{started_first}
use Rattle.shares.proofs.Hiding.{hide_turn}
use Rattle.shares.proofs.hide_chunk.Goals as goal
use Rattle.shares.proofs.hide_chunk.Goals.{In-loop-l}

-- the chunk that can have the next key
seat : (c : In-loop-l) → let a = c.seat_chunk-seats.result in let l = c.loop-l.l in
    (get_or a.above l 0 ≤ a.end) × Sought c.args.s.now c.args.low (word c.args.s.now (c.args.chunk.keys + l)) (a.end - get_or a.above l 0)
seat c = c.seat_chunk-seats.ensures.seat _ c.loop-l-test.true

pub loop-l-init : goal.loop-l-init
loop-l-init c = (omega arith, (sym (hide_nil _), refl))

pub overflow_sub-p : goal.overflow_sub-p
overflow_sub-p c = (seat (goal.at.overflow_sub-p c).In-loop-l).0

pub word-start-requires : goal.word-start-requires
word-start-requires c = omega (arith, (seat (goal.at.word-start-requires c).In-loop-l).1.inside, c.requires.1.0.room)

pub bounds-gone-p : goal.bounds-gone-p
bounds-gone-p c = omega (arith, (seat (goal.at.bounds-gone-p c).In-loop-l).1.inside, c.requires.1.1.1.1, c.loop-l.invariant.1.1)

pub slots_with-requires : goal.slots_with-requires
slots_with-requires c =
    let p = c.requires in
    ((started_first _ _ _ _ _ p.0 p.1.0 (seat (goal.at.slots_with-requires c).In-loop-l).1.inside c.word-start.ensures.0).0, p.0.within.width_high)

pub bounds-gone-p-in-loop-l : goal.bounds-gone-p-in-loop-l
bounds-gone-p-in-loop-l c = omega (arith, (seat (goal.at.bounds-gone-p-in-loop-l c).In-loop-l).1.inside, c.requires.1.1.1.1, c.loop-l.invariant.1.1)

pub loop-l-preserved : goal.loop-l-preserved
loop-l-preserved c =
    let p = c.requires in
    let i = c.loop-l.invariant in
    let a = p.1.1.0 in
    let q = (seat (goal.at.loop-l-preserved c).In-loop-l).1 in
    (omega arith, (hide_turn _ _ _ _ _ _ _ _ _ p.0 q (omega (arith, q.inside, p.1.1.1.1, i.1.1)) (omega (arith, a.room, a.most, c.loop-l-test.true)) (c.word-start.ensures.0 ∙ p.1.0.start _ q.inside) c.slots_with.ensures i.1.0, simp length-set i.1.1))

pub shape_of-gone : goal.shape_of-gone
shape_of-gone c = c.loop-l.invariant.1.1

pub returns : goal.returns
returns c =
    let p = c.requires in
    let i = c.loop-l.invariant in
    let a = p.1.1.0 in
    let e : c.loop-l.l ≡ c.args.chunk.count = omega (arith, i.0, c.loop-l-test.false) in
    let r : c.args.chunk.keys + c.args.chunk.count ≤ length c.args.s.now = omega (arith, a.room, a.most) in
    (rw (keys_slots _ _ _ _ _ r, ← e) i.1.0, c.seat_chunk-seats.ensures.ended)
