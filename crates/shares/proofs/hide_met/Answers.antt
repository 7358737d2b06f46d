use mathlib.Core.Path.{refl}
use native.Mathlib.Omega.{arith}
use lib.ListN.{length-set}
use Rattle.shares.proofs.Seating.{asked_of}
use Rattle.shares.proofs.Hiding.{half_start, half_turn, half_end, meet_word, begun_first, begun_next}
use Rattle.shares.proofs.hide_met.Goals as goal

pub loop-i-init : goal.loop-i-init
loop-i-init c = let p = c.requires in (omega arith, (half_start _ _ _ _, (λ h. begun_first _ _ _ p.1.1.0, refl)))

pub chunk_at-chunk-requires : goal.chunk_at-chunk-requires
chunk_at-chunk-requires c = (c.requires.1.0.within, c.loop-i-test.true)

pub meet_chunk-met-requires : goal.meet_chunk-met-requires
meet_chunk-met-requires c =
    let p = c.requires in
    let i = c.loop-i.invariant in
    let h = c.loop-i-test.true in
    (p.0, (c.begin.ensures.1, (rw c.chunk_at-chunk.ensures (asked_of _ _ _ p.1.0 h), rw c.chunk_at-chunk.ensures (i.1.1.0 h))))

pub loop-i-preserved : goal.loop-i-preserved
loop-i-preserved c =
    let p = c.requires in
    let i = c.loop-i.invariant in
    let h = c.loop-i-test.true in
    let e = c.meet_chunk-met.ensures in
    let w = meet_word _ _ _ _ _ _ p.1.0 h c.chunk_at-chunk.ensures in
    (omega arith, (rw e.0 (half_turn _ _ _ _ _ _ _ h (omega (arith, i.1.1.1, p.1.1.1)) w i.1.0), (begun_next _ _ _ _ _ _ p.1.0 c.chunk_at-chunk.ensures e.1, simp length-set i.1.1.1)))

pub shape_of-gone : goal.shape_of-gone
shape_of-gone c = c.loop-i.invariant.1.1.1

pub returns : goal.returns
returns c = let i = c.loop-i.invariant in half_end _ _ _ _ _ _ i.0 c.loop-i-test.false i.1.0
