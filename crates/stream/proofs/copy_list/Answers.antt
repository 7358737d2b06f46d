use native.Mathlib.Omega.{arith}
use mathlib.Core.Path.{◌≡◌, sym}
use Rattle.slices.proofs.Put.{put_none}
use Rattle.stream.proofs.Lists.{copy_more}
use Rattle.stream.proofs.copy_list.Goals as goal

pub loop-i-init : goal.loop-i-init
loop-i-init c = sym (put_none _ _)

pub loop-i-preserved : goal.loop-i-preserved
loop-i-preserved c =
    let a = c.args in
    let l = c.loop-i in
    rw l.invariant (copy_more a.to a.from l.i a.list.now a.out.now (omega arith) (omega arith))

pub returns : goal.returns
returns c =
    let n : c.loop-i.i ≡ c.args.n = omega arith in
    rw n at c.loop-i.invariant
