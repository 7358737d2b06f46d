use Prim.Native.Nat.{◌+◌, ◌<◌}
use mathlib.Core.Path.{◌≡◌}
use native.Mathlib.Omega.{arith}
use Rattle.layout.proofs.Laws.{fitted_spots}
use Rattle.lists.proofs.Arrays.{listed_none, load_inside, load_more}
use Rattle.lists.proofs.load.Goals as goal

pub loop-i-init : goal.loop-i-init
loop-i-init c = listed_none _ _ _ c.requires.1.0

pub overflow_add-z : goal.overflow_add-z
overflow_add-z c = omega (arith, c.levels-h.ensures, c.requires.0.proper.valid.ranged.h_high, fitted_spots _ _ c.requires.0)

pub word-n-requires : goal.word-n-requires
word-n-requires c = omega (arith, c.levels-h.ensures, c.requires.0.proper.valid.ranged.h_high, fitted_spots _ _ c.requires.0)

pub copy-requires : goal.copy-requires
copy-requires c =
    let p = c.requires in
    let i : c.loop-i.i < c.args.z.geo.h = omega (arith, c.levels-h.ensures, c.loop-i-test.true) in
    let f = load_inside _ c.args.s.now p.0.proper p.0.words c.loop-i.i (c.loop-i.i + 1) _ (omega arith) (omega arith) (p.1.1 _ i) c.word-n.ensures.0 in
    rw (c.list_start.ensures, c.start_of.ensures, c.levels-h.ensures) (f.0, omega (arith, f.1, c.loop-i.invariant.long))

pub loop-i-preserved : goal.loop-i-preserved
loop-i-preserved c =
    let p = c.requires in
    let l = c.loop-i in
    let i : l.i < c.args.z.geo.h = omega (arith, c.levels-h.ensures, c.loop-i-test.true) in
    let t = rw c.levels-h.ensures at c.start_of.ensures in
    rw c.copy.ensures (load_more _ _ p.0.proper p.0.words l.i (l.i + 1) _ (omega arith) (omega arith) (p.1.1 l.i i) c.word-n.ensures.0 l.lists l.ns _ _ c.list_start.ensures t l.invariant)

pub returns : goal.returns
returns c =
    let i : c.loop-i.i ≡ c.args.z.geo.h = omega (arith, c.loop-i.auto.i-end, c.loop-i-test.false, c.levels-h.ensures) in
    rw i at c.loop-i.invariant
