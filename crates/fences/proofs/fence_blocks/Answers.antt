use Prim.Native.Nat.{◌<◌, ◌+◌}
use mathlib.Core.Path.{◌≡◌, sym}
use native.Mathlib.Omega.{arith}
use lib.ListN.{length}
use Rattle.words.specs.Stores.{word}
use Rattle.fences.proofs.Lists.{fill_none, fill_step}
use Rattle.fences.proofs.Words.{listed_words, place_room}
use Rattle.fences.proofs.fence_blocks.Goals as goal
use Rattle.fences.proofs.fence_blocks.Goals.{After-place_start-at}

-- the words that are read of the place lie in the store
room : (c : After-place_start-at)
    → (c.place_start-at.result + 2 < length c.args.s.now)
    × (c.place_start-at.result + 1 + word c.args.s.now c.place_start-at.result < length c.args.s.now)
room c = place_room _ _ _ _ c.place_start-at.ensures (c.requires.1.1 _ c.loop-i-test.true) c.requires.0

pub loop-i-init : goal.loop-i-init
loop-i-init c = sym (fill_none _ _)

pub place_start-at-requires : goal.place_start-at-requires
place_start-at-requires c = (c.requires.0.proper, omega (arith, c.requires.0.proper.valid.places_high, (c.requires.1.1 _ c.loop-i-test.true).inside))

pub bounds-s-at : goal.bounds-s-at
bounds-s-at c = omega (arith, room (goal.at.bounds-s-at c).After-place_start-at)

pub bounds-s-at-in-loop-i : goal.bounds-s-at-in-loop-i
bounds-s-at-in-loop-i c = (room (goal.at.bounds-s-at-in-loop-i c).After-place_start-at).0

pub bounds-s-at-in-loop-i-2 : goal.bounds-s-at-in-loop-i-2
bounds-s-at-in-loop-i-2 c = omega (arith, room (goal.at.bounds-s-at-in-loop-i-2 c).After-place_start-at)

pub loop-i-preserved : goal.loop-i-preserved
loop-i-preserved c =
    let l = c.loop-i in
    let e = listed_words c.args.z c.args.s.now c.args.list.now l.i (c.requires.1.1 _ c.loop-i-test.true) in
    fill_step _ _ _ _ _ (omega (arith, c.loop-i-test.true, c.requires.1.0)) l.invariant (rw c.place_start-at.ensures (sym e))

pub returns : goal.returns
returns c =
    let l = c.loop-i in
    let e : l.i ≡ length c.args.list.now = omega (arith, l.auto.i-end, c.loop-i-test.false) in
    rw e at l.invariant
