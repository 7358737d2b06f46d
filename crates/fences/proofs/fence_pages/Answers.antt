use Prim.Native.Nat.{◌≤◌, ◌+◌, ◌*◌}
use mathlib.Core.Path.{◌≡◌, sym}
use native.Mathlib.Omega.{arith}
use lib.ListN.{length}
use Rattle.fences.proofs.Lists.{fill_none, fill_step}
use Rattle.fences.proofs.Words.{page_room, page_read}
use Rattle.fences.proofs.fence_pages.Goals as goal
use Rattle.fences.proofs.fence_pages.Goals.{In-loop-i}

-- the keys of the page lie in the store
room : (c : In-loop-i)
    → (1 ≤ c.block_records-b.result)
    × (c.args.z.keys + c.loop-i.i * c.block_records-b.result + c.block_records-b.result ≤ length c.args.s.now)
room c = let p = c.requires in page_room _ _ _ _ _ c.block_records-b.ensures p.0 p.1.0 p.1.1 c.loop-i-test.true

pub loop-i-init : goal.loop-i-init
loop-i-init c = sym (fill_none _ _)

pub overflow_mul-at : goal.overflow_mul-at
overflow_mul-at c = omega (arith, room (goal.at.overflow_mul-at c).In-loop-i)

pub overflow_add-at : goal.overflow_add-at
overflow_add-at c = omega (arith, room (goal.at.overflow_add-at c).In-loop-i)

pub offset_bounds-s-at : goal.offset_bounds-s-at
offset_bounds-s-at c = omega (arith, room (goal.at.offset_bounds-s-at c).In-loop-i)

pub bounds-s-at : goal.bounds-s-at
bounds-s-at c = omega (arith, room (goal.at.bounds-s-at c).In-loop-i)

pub offset_bounds-s-at-in-loop-i : goal.offset_bounds-s-at-in-loop-i
offset_bounds-s-at-in-loop-i c = omega (arith, room (goal.at.offset_bounds-s-at-in-loop-i c).In-loop-i)

pub bounds-s-at-in-loop-i : goal.bounds-s-at-in-loop-i
bounds-s-at-in-loop-i c = omega (arith, room (goal.at.bounds-s-at-in-loop-i c).In-loop-i)

pub loop-i-preserved : goal.loop-i-preserved
loop-i-preserved c =
    let l = c.loop-i in
    let p = c.requires in
    fill_step _ _ _ _ _ (omega (arith, c.loop-i-test.true)) l.invariant (sym (page_read _ _ _ _ _ c.block_records-b.ensures p.0 p.1.0 p.1.1 c.loop-i-test.true))

pub returns : goal.returns
returns c =
    let l = c.loop-i in
    let e : l.i ≡ length c.args.fences.now = omega (arith, l.auto.i-end, c.loop-i-test.false) in
    rw e at l.invariant
