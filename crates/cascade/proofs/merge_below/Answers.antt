use Prim.Native.Nat.{◌-◌}
use mathlib.Core.Path.{refl, sym, ◌∙◌}
use native.Mathlib.Omega.{arith}
use Rattle.cascade.proofs.Depth.{some_numbered, none_numbered}
use Rattle.cascade.proofs.Rolling.{turn_first, goes_last, goes_asks, goes_less, goes_on, files_last, files_on}
use Rattle.cascade.proofs.merge_below.Goals as goal

pub loop-level-init : goal.loop-level-init
loop-level-init c = turn_first 98304 _ _ _ _ _ c.requires

pub merge_step-merged-requires : goal.merge_step-merged-requires
merge_step-merged-requires c =
    let n = some_numbered _ _ (sym c.in-Some.is ∙ c.deepest.ensures) in
    goes_asks 98304 _ _ _ _ _ _ _ c.loop-level.invariant.goes _ n.0 (c.in-Some.level - 1) (omega (arith, n.1))

pub overflow_add-filed : goal.overflow_add-filed
overflow_add-filed c = omega (arith, c.loop-level.invariant.files.low)

pub loop-level-smaller : goal.loop-level-smaller
loop-level-smaller c =
    let n = some_numbered _ _ (sym c.in-Some.is ∙ c.deepest.ensures) in
    goes_less 98304 _ _ _ _ _ _ _ c.loop-level.invariant.goes _ n.0 (c.in-Some.level - 1) (omega (arith, n.1)) _ _ _ (c.merge_step-merged.ensures _ refl).0

pub loop-level-preserved : goal.loop-level-preserved
loop-level-preserved c =
    let i = c.loop-level.invariant in
    let n = some_numbered _ _ (sym c.in-Some.is ∙ c.deepest.ensures) in
    let m = c.merge_step-merged.ensures _ refl in
    record {
      goes = goes_on 98304 _ _ _ _ _ _ _ i.goes _ n.0 (c.in-Some.level - 1) (omega (arith, n.1)) _ _ _ m.0;
      files = files_on 98304 _ _ _ _ _ _ _ i.goes _ n.0 (c.in-Some.level - 1) (omega (arith, n.1)) _ _ _ m.0 _ _ _ _ _ i.files m.1 (rw c.into.ensures at c.file.ensures);
    }

pub shape_of-s : goal.shape_of-s
shape_of-s c = c.loop-level.invariant.goes.rolling.stands.held.long ∙ sym c.requires.stands.held.long

pub shape_of-rows : goal.shape_of-rows
shape_of-rows c = c.loop-level.invariant.files.long

pub returns : goal.returns
returns c =
    let i = c.loop-level.invariant in
    let o = none_numbered _ (sym c.in_default.is ∙ c.deepest.ensures) in
    λ t e. (goes_last 98304 _ _ _ _ _ _ _ i.goes _ refl _ refl o t e, files_last 98304 _ _ _ _ _ _ _ i.goes _ refl _ _ _ i.files o t e)
