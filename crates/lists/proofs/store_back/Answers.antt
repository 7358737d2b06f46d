use mathlib.Core.Path.{refl, ◌∙◌}
use Prim.Native.Nat.{◌+◌, ◌≤◌}
use native.Mathlib.Numerals.{add-one}
use native.Mathlib.Omega.{arith}
use Rattle.lists.proofs.Room.{fit_high, lists_none, lists_more, lists_laid}
use Rattle.lists.proofs.store_back.Goals as goal

pub put_counts-requires : goal.put_counts-requires
put_counts-requires c =
    let p = c.requires in
    (p.0, (p.1.0.three, (fit_high _ _ _ p.0.proper p.1.0, omega (arith, p.1.1, p.0.proper.valid.places_high))))

pub loop-i-init : goal.loop-i-init
loop-i-init c = (refl, lists_none _)

pub put_list-requires : goal.put_list-requires
put_list-requires c =
    let p = c.requires in
    let i : c.loop-i.i + 1 ≤ c.args.z.geo.h = omega (arith, c.levels-i-end.ensures, c.loop-i-test.true) in
    (record { proper = p.0.proper; words = c.loop-i.invariant.0 ∙ (c.put_counts.auto.s ∙ p.0.words) }, (omega arith, (i, (rw add-one (p.1.0.fit c.loop-i.i (omega arith)), p.1.0.long))))

pub loop-i-preserved : goal.loop-i-preserved
loop-i-preserved c =
    let l = c.loop-i in
    (c.put_list.auto.s ∙ l.invariant.0, c.put_list.ensures ∙ lists_more _ _ _ l.i (l.i + 1) _ l.s (omega arith) l.invariant.1)

pub shape_of-s : goal.shape_of-s
shape_of-s c = c.loop-i.invariant.0 ∙ c.put_counts.auto.s

pub returns : goal.returns
returns c = lists_laid _ _ _ _ _ _ _ c.loop-i.i (omega (arith, c.loop-i.auto.i-end, c.loop-i-test.false, c.levels-i-end.ensures)) c.put_counts.ensures c.loop-i.invariant.1
