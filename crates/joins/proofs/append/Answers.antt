use native.Mathlib.Omega.{arith}
use mathlib.Core.Path.{◌≡◌, refl, ◌∙◌}
use lib.ListN.{length}
use Rattle.joins.specs.Joins.{joined}
use Rattle.joins.proofs.Laws.{joined_n, joined_clean, joined_more}
use Rattle.joins.proofs.append.Goals as goal

pub loop-j-init : goal.loop-j-init
unfolding joined
loop-j-init c = refl

pub push-r-requires : goal.push-r-requires
push-r-requires c =
    let e = c.loop-j.invariant in
    let a = c.args in
    let n = joined_n a.a a.keys.now a.pays.now a.marks c.requires.0 c.loop-j.j in
    rw e (omega arith, omega arith, (joined_clean a.a a.keys.now a.pays.now a.marks c.requires.0 c.loop-j.j).bits)

pub loop-j-preserved : goal.loop-j-preserved
loop-j-preserved c = let a = c.args in c.push-r.ensures ∙ rw c.loop-j.invariant (joined_more a.a a.keys.now a.pays.now a.marks c.requires.0 c.loop-j.j)

pub returns : goal.returns
returns c =
    let e : c.loop-j.j ≡ length c.args.keys.now = omega arith in
    rw e at c.loop-j.invariant
