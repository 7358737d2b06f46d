use native.Mathlib.Omega.{arith}
use Prim.Native.Nat.{◌+◌, ◌-◌, ◌≤◌}
use mathlib.Core.Path.{◌≡◌, refl}
use lib.ListN.{length}
use Rattle.words.specs.Stores.{word}
use Rattle.search.specs.Search.{first_at}
use Rattle.shares.proofs.Seating.{passing_start, passing_few, passing_step, passing_end, started_first}
use Rattle.shares.proofs.fences.Goals as goal
use Rattle.shares.proofs.fences.Goals.{After-word-k}

pub loop-t-init : goal.loop-t-init
loop-t-init c = (refl, passing_start _ _ _ _ _ c.requires.1.1)

pub word-k-requires : goal.word-k-requires
word-k-requires c = let r = c.requires.1.0.room in omega (arith, c.loop-t-test.true)

-- the next first key, where the words say that it starts
next : (c : After-word-k) → (c.word-k.result + c.args.dir.width ≤ length c.args.s.now) × (word c.args.s.now c.word-k.result ≡ first_at c.args.s.now c.args.dir (c.loop-t.t + 1))
next c =
    started_first _ _ _ (c.loop-t.t + 1) _ c.requires.0 c.requires.1.0 (omega (arith, c.loop-t-test.true)) c.word-k.ensures.0

pub offset_bounds-s-k : goal.offset_bounds-s-k
offset_bounds-s-k c = omega (arith, (next (goal.at.offset_bounds-s-k c).After-word-k).0, c.requires.0.within.short)

pub bounds-s-k : goal.bounds-s-k
bounds-s-k c = let w = c.requires.0.within.width_low in omega (arith, (next (goal.at.bounds-s-k c).After-word-k).0)

pub returns-then-last-f : goal.returns-then-last-f
returns-then-last-f c =
    let l = c.loop-t in
    passing_end _ _ _ _ _ l.t _ l.invariant.1 (λ h. omega (arith, (next (goal.at.returns-then-last-f c).After-word-k).1, c.if-last-f.true))

pub pass_fence-requires : goal.pass_fence-requires
pass_fence-requires c =
    let l = c.loop-t in
    (l.invariant.0, λ i h. (passing_few _ _ _ _ _ l.t _ c.requires.0 l.invariant.1 i h).0)

pub loop-t-preserved : goal.loop-t-preserved
loop-t-preserved c =
    let l = c.loop-t in
    (c.pass_fence.ensures.0, passing_step _ _ _ _ _ l.t _ _ _ c.requires.0 l.invariant.1 (omega (arith, c.loop-t-test.true)) (next (goal.at.loop-t-preserved c).After-word-k).1 c.if-last-f.false c.pass_fence.ensures.1)

pub returns : goal.returns
returns c =
    let l = c.loop-t in
    let e : l.t ≡ c.args.dir.chunks - 1 = omega (arith, c.loop-t-test.false, l.auto.t-end, c.requires.1.1) in
    passing_end _ _ _ _ _ _ _ (rw e at l.invariant.1) (λ h. absurd (omega arith))
