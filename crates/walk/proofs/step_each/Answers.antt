use mathlib.Core.Path.{◌≡◌, refl, sym}
use mathlib.Core.List.{map, ◌∷◌, [], map-append}
use Rattle.chunks.specs.Peel.{past}
use lib.ListN.{length, length-map}
use Rattle.std.proofs.Common.{rules}
use native.Mathlib.Omega.{arith}
use Rattle.walk.specs.Walk.{rest}
use Rattle.walk.proofs.Stepping.{stepped_all, one_stepped}
use Rattle.walk.proofs.step_each.Goals as goal

pub step-requires : goal.step-requires
step-requires c = let i = c.loop-cur.invariant in (i.1.0 _ _ (omega (arith, i.0, c.loop-cur-test.true)), c.requires.1)

pub loop-cur-preserved : goal.loop-cur-preserved
loop-cur-preserved c =
    let i = c.loop-cur.invariant in
    let q = c.step.ensures in
    one_stepped c.args.s.now c.args.k (map (rest c.args.s.now) c.args.front.now.upper) c.loop-cur.cur-items c.loop-cur.cur-index c.step.new.cur _ i.0 i.1.0 i.1.1 (omega (arith, i.0, c.loop-cur-test.true)) q.0 q.1

pub loop-cur-init : goal.loop-cur-init
loop-cur-init c =
    let n : length c.args.front.now.upper ≡ 3 = search rules in
    (n, (c.requires.0.upper, refl))

pub returns : goal.returns
returns c =
    let i = c.loop-cur.invariant in
    let q = c.step-2.ensures in
    let n : length c.args.front.now.upper ≡ 3 = search rules in
    let e : c.loop-cur.cur-index ≡ length (map (rest c.args.s.now) c.args.front.now.upper) = omega (arith, n, length-map c.args.front.now.upper (rest c.args.s.now), c.loop-cur-test.false, c.loop-cur.auto.cur-index-end) in
    (record { upper = i.1.0; last = q.0 }, rw (i.1.1, stepped_all c.args.k _ _ e, q.1) (sym (map-append (past c.args.k) (map (rest c.args.s.now) c.args.front.now.upper) (rest c.args.s.now c.args.front.now.last ∷ []))))
