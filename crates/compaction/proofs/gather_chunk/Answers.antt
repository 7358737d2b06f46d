use borrow.Author.Rules.{rules}
use native.Mathlib.Omega.{arith}
use mathlib.Core.Path.{◌≡◌, refl, ◌∙◌, ap}
use lib.ListN.{length}
use Rattle.sides.specs.declared.Chunk.{Chunk}
use Rattle.stream.specs.Machine.{memory}
use Rattle.compaction.specs.Machine.{records_gathered}
use Rattle.compaction.proofs.Steps.{records_more, roomy_in, head_inside}
use Rattle.compaction.proofs.gather_chunk.Goals as goal

pub block_chunk-chunk-requires : goal.block_chunk-chunk-requires
block_chunk-chunk-requires c = (c.requires.sized, c.requires.place)

pub loop-j-init : goal.loop-j-init
unfolding records_gathered
loop-j-init c = refl

pub head_at-head-requires : goal.head_at-head-requires
head_at-head-requires c =
    let a = c.args in
    let e : length c.loop-j.s ≡ length a.s.now = search rules in
    head_inside a.z a.q (memory a.s.now a.desk.now) c.block_chunk-chunk.result c.loop-j.s c.loop-j.j c.requires c.block_chunk-chunk.ensures e c.loop-j-test.true

pub gather-requires : goal.gather-requires
gather-requires c =
    let a = c.args in
    let l = c.loop-j in
    let r = roomy_in a.z a.q c.block_chunk-chunk.result l.j (memory a.s.now a.desk.now) (memory l.s l.desk) c.requires c.block_chunk-chunk.ensures c.loop-j-test.true l.invariant in
    (r.flushable, r.gatherable, rw c.head_at-head.ensures (omega arith))

pub overflow_step-j : goal.overflow_step-j
overflow_step-j c = omega (arith, ap (λ (c : Chunk). c.n) c.block_chunk-chunk.ensures, c.requires.high, c.requires.sized.b_high)

pub loop-j-preserved : goal.loop-j-preserved
loop-j-preserved c =
    let a = c.args in
    let l = c.loop-j in
    c.gather.ensures ∙ rw c.head_at-head.ensures (records_more a.z c.block_chunk-chunk.result l.j (memory a.s.now a.desk.now) (memory l.s l.desk) l.invariant)

pub returns : goal.returns
returns c =
    let n : c.loop-j.j ≡ c.block_chunk-chunk.result.n = omega arith in
    rw (n, c.block_chunk-chunk.ensures) at c.loop-j.invariant
