use native.Mathlib.Omega.{arith}
use mathlib.Core.Path.{◌≡◌, refl, ◌∙◌}
use lib.ListN.{length}
use Rattle.stream.specs.Machine.{memory}
use Rattle.compaction.specs.Machine.{blocks_gathered}
use Rattle.compaction.proofs.Steps.{blocks_more}
use Rattle.compaction.proofs.gather_blocks.Goals as goal

pub loop-q-init : goal.loop-q-init
unfolding blocks_gathered
loop-q-init c = refl

pub gather_chunk-requires : goal.gather_chunk-requires
gather_chunk-requires c = let l = c.loop-q in rw l.invariant (c.requires l.q-index c.loop-q-test.true)

pub loop-q-preserved : goal.loop-q-preserved
loop-q-preserved c =
    let a = c.args in
    let l = c.loop-q in
    c.gather_chunk.ensures ∙ blocks_more a.z a.list.now l.q-index (memory a.s.now a.desk.now) (memory l.s l.desk) l.invariant

pub returns : goal.returns
returns c =
    let n : c.loop-q.q-index ≡ length c.args.list.now = omega arith in
    rw n at c.loop-q.invariant
