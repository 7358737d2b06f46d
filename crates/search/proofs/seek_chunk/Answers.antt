use native.Mathlib.Omega.{arith}
use Prim.Native.Nat.{◌+◌, ◌-◌, ◌/◌}
use Rattle.search.proofs.Laws.{chunk_ready, first_read, sought_one}
use Rattle.search.proofs.seek_chunk.Goals as goal

pub loop-lo-init : goal.loop-lo-init
loop-lo-init c = (c.requires.1, (omega arith, ((λ h. absurd (omega arith)), (λ h. absurd (omega arith)))))

pub word-first-requires : goal.word-first-requires
word-first-requires c =
    let i = c.loop-lo.invariant in
    let p = chunk_ready _ _ c.requires.0 _ (omega arith) _ c.chunk_at-chunk.ensures in
    omega (arith, p.0.keys_end)

pub loop-lo-preserved-then-first-k : goal.loop-lo-preserved-then-first-k
loop-lo-preserved-then-first-k c =
    let l = c.loop-lo in
    let e = first_read _ _ (l.lo + (l.hi - l.lo) / 2) _ _ c.word-first.ensures.0 c.chunk_at-chunk.ensures in
    (omega arith, (l.invariant.1.0, ((λ h. omega (arith, e, c.if-first-k.true)), l.invariant.1.1.1)))

pub loop-lo-preserved : goal.loop-lo-preserved
loop-lo-preserved c =
    let l = c.loop-lo in
    let e = first_read _ _ (l.lo + (l.hi - l.lo) / 2) _ _ c.word-first.ensures.0 c.chunk_at-chunk.ensures in
    (omega arith, (omega arith, (l.invariant.1.1.0, (λ h. omega (arith, e, c.if-first-k.false)))))

pub returns : goal.returns
returns c =
    let l = c.loop-lo in
    sought_one _ _ _ l.lo l.hi l.invariant.0 c.loop-lo-test.false l.invariant.1.0 l.invariant.1.1.0 l.invariant.1.1.1
