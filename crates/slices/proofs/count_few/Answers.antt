use Rattle.std.proofs.Common.{refl, arith}
use Rattle.slices.specs.Ranks.{count_below}
use Rattle.slices.proofs.Ranks.{count_more}
use Rattle.slices.proofs.count_few.Goals as goal

pub loop-key-init : goal.loop-key-init
unfolding count_below
loop-key-init c = (omega arith, refl)

pub loop-key-preserved : goal.loop-key-preserved
loop-key-preserved c =
    let l = c.loop-key in
    (omega arith, rw l.invariant.1 (count_more c.args.k l.key-index c.args.keys.now c.loop-key-test.true c.requires (c.type_inv.keys l.key-index).fits))
