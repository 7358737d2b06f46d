use native.Mathlib.Omega.{arith}
use Prim.Native.Nat.{◌<◌}
use Rattle.walk.proofs.Four.{upper_pay_in}
use Rattle.walk.proofs.Walking.{Passing, walking_start, walking_few, bound_high, passing, walking_turn, walking_less, walking_end, walking_most}
use Rattle.walk.proofs.walk_on.Goals as goal
use Rattle.walk.proofs.walk_on.Goals.{After-min-k}

-- what holds where the least key is known
at_least : (c : After-min-k)
    → let a = c.args in
    let l = c.loop-front in
    let p = c.copy_below-n in
    Passing a.s.now a.from a.stop a.keys.now a.pays.now l.front p.new.cur p.result p.new.keys p.new.pays c.min-k.result
at_least c = passing _ _ _ _ _ c.requires.0 _ _ _ _ c.loop-front.invariant _ c.least-bound.ensures _ _ _ _ c.copy_below-n.ensures _ c.min-k.ensures

pub loop-front-init : goal.loop-front-init
loop-front-init c = walking_start _ _ _ _ _ c.requires.0

pub copy_below-n-requires : goal.copy_below-n-requires
copy_below-n-requires c =
    let i = c.loop-front.invariant in
    (i.abreast.last, (bound_high _ _ _ _ _ c.requires.0 _ _ _ _ i _ c.least-bound.ensures c.requires.1, walking_few _ _ _ _ _ c.requires.0 _ _ _ _ i))

pub returns-then-stop-k : goal.returns-then-stop-k
returns-then-stop-k c =
    let p = at_least (goal.at.returns-then-stop-k c).After-min-k in
    let d = p.nearest.done c.if-stop-k.true in
    walking_end _ _ _ _ _ c.requires.0 _ _ _ _ p.walking _ d.0 d.1

pub returns-then-most-n : goal.returns-then-most-n
returns-then-most-n c = walking_most _ _ _ _ _ c.requires.0 _ _ _ _ (at_least (goal.at.returns-then-most-n c).After-min-k).walking _ c.if-most-n.true

pub list_one-n-requires : goal.list_one-n-requires
list_one-n-requires c =
    let p = at_least (goal.at.list_one-n-requires c).After-min-k in
    let s = c.if-stop-k.false in
    let g = p.walking.abreast in
    let h : c.min-k.result < 4294967296 = omega (arith, c.requires.1) in
    (h, (upper_pay_in _ _ g.last _ g.upper _ (p.nearest.least s) h _ c.upper-chunk.ensures, (g.last.formed.within.short, omega (arith, walking_few _ _ _ _ _ c.requires.0 _ _ _ _ p.walking))))

pub loop-front-smaller : goal.loop-front-smaller
loop-front-smaller c =
    let p = at_least (goal.at.loop-front-smaller c).After-min-k in
    let s = c.if-stop-k.false in
    let r = c.step_each.ensures in
    let h : c.min-k.result < 4294967296 = omega (arith, c.requires.1) in
    omega (arith, p.shorter, walking_less _ _ _ _ _ c.requires.0 _ _ _ _ p.walking _ (p.nearest.least s) h s _ c.upper-chunk.ensures _ _ _ c.list_one-n.ensures.0 c.list_one-n.ensures.1.0 c.list_one-n.ensures.1.1 _ r.0 r.1)

pub loop-front-preserved : goal.loop-front-preserved
loop-front-preserved c =
    let p = at_least (goal.at.loop-front-preserved c).After-min-k in
    let s = c.if-stop-k.false in
    let o = c.list_one-n.ensures in
    let r = c.step_each.ensures in
    let h : c.min-k.result < 4294967296 = omega (arith, c.requires.1) in
    walking_turn _ _ _ _ _ c.requires.0 _ _ _ _ p.walking _ (p.nearest.least s) h s _ c.upper-chunk.ensures _ _ _ o.0 o.1.0 o.1.1 _ r.0 r.1
