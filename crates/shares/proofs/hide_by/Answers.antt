use mathlib.Core.Path.{refl, ◌∙◌}
use native.Mathlib.Omega.{arith}
use Rattle.shares.proofs.Seating.{asked_of}
use Rattle.shares.proofs.Hiding.{left_start, left_turn, left_end, begun_first, begun_next}
use Rattle.shares.proofs.hide_by.Goals as goal

pub loop-i-init : goal.loop-i-init
loop-i-init c = let p = c.requires in (omega arith, (left_start _ _ _ _, (λ h. begun_first _ _ _ p.1.1.1.0, refl)))

pub chunk_at-chunk-requires : goal.chunk_at-chunk-requires
chunk_at-chunk-requires c = (c.requires.0.within, c.loop-i-test.true)

pub hide_chunk-t-requires : goal.hide_chunk-t-requires
hide_chunk-t-requires c =
    let p = c.requires in
    let i = c.loop-i.invariant in
    let h = c.loop-i-test.true in
    (p.1.0, (p.1.1.0, (rw c.chunk_at-chunk.ensures (asked_of _ _ _ p.0 h), (rw c.chunk_at-chunk.ensures (i.1.1.0 h), omega (arith, i.1.1.1, p.1.1.1.1)))))

pub loop-i-preserved : goal.loop-i-preserved
loop-i-preserved c =
    let p = c.requires in
    let i = c.loop-i.invariant in
    let e = c.hide_chunk-t.ensures in
    (omega arith, (left_turn _ _ _ _ _ _ _ _ c.loop-i-test.true c.chunk_at-chunk.ensures e.0 i.1.0, (begun_next _ _ _ _ _ _ p.0 c.chunk_at-chunk.ensures e.1, c.hide_chunk-t.auto.gone ∙ i.1.1.1)))

pub shape_of-gone : goal.shape_of-gone
shape_of-gone c = c.loop-i.invariant.1.1.1

pub returns : goal.returns
returns c = let i = c.loop-i.invariant in left_end _ _ _ _ _ _ c.loop-i-test.false i.1.0
