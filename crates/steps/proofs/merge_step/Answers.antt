use mathlib.Core.Path.{ap, refl, sym, ◌∙◌}
use native.Mathlib.Omega.{arith}
use Rattle.steps.proofs.Merging.{level_low}
use Rattle.steps.proofs.Chaining.{step_markable, step_marks, step_asks, first_asks, step_top, second_asks, step_below}
use Rattle.stream.specs.declared.Desk.{Desk}
use Rattle.steps.proofs.merge_step.Goals as goal

pub marks-requires : goal.marks-requires
marks-requires c = (ap (λ (d : Desk). d.used) c.new-desk.ensures, rw c.levels.ensures (step_markable _ _ _ _ _ c.requires))

pub merge_top-merged-requires : goal.merge_top-merged-requires
merge_top-merged-requires c = (rw c.if-level-eq0.true at (step_asks _ _ _ _ _ c.requires), step_marks _ _ _ _ _ c.requires c.marks.new.used _ c.levels.ensures c.marks.ensures)

pub compact_level-requires : goal.compact_level-requires
compact_level-requires c = (first_asks _ _ _ _ _ c.requires _ refl _ _ _ (rw (sym c.if-level-eq0.true) at (c.merge_top-merged.ensures _ refl).0), (omega arith, c.requires.proper.valid.ranged.h_low))

pub returns-then-level-eq0 : goal.returns-then-level-eq0
returns-then-level-eq0 c = λ t e. let m = rw (sym c.if-level-eq0.true) at (c.merge_top-merged.ensures t e) in (step_top _ _ _ _ _ c.requires t e _ _ _ m.0 _ _ _ c.if-level-eq0.true (c.compact_level.ensures _ (sym m.0.stands.store)), m.1)

pub merge_two-merged-requires : goal.merge_two-merged-requires
merge_two-merged-requires c = (step_asks _ _ _ _ _ c.requires, (step_marks _ _ _ _ _ c.requires c.marks.new.used _ c.levels.ensures c.marks.ensures, omega (arith, c.if-level-eq0.false)))

pub compact_level-next-requires : goal.compact_level-next-requires
compact_level-next-requires c =
    let k = c.requires in
    let h = level_low _ _ _ _ k.proper k.facts in
    (first_asks _ _ _ _ _ k _ refl _ _ _ (c.merge_two-merged.ensures _ refl).0, (omega (arith, c.if-level-eq0.false), omega arith))

pub overflow_add-level : goal.overflow_add-level
overflow_add-level c = let k = c.requires in omega (arith, level_low _ _ _ _ k.proper k.facts, k.proper.valid.ranged.h_high)

pub compact_level-requires-2 : goal.compact_level-requires-2
compact_level-requires-2 c =
    let k = c.requires in
    let h = level_low _ _ _ _ k.proper k.facts in
    let a = (c.merge_two-merged.ensures _ refl).0 in
    (second_asks _ _ _ _ _ k _ refl _ _ _ a (omega (arith, c.if-level-eq0.false)) _ _ _ (c.compact_level-next.ensures _ (sym a.stands.store)), (omega arith, omega arith))

pub shape_of-s : goal.shape_of-s
shape_of-s c = c.compact_level-2.auto.s ∙ (c.compact_level-next.auto.s ∙ c.merge_two-merged.auto.s)

pub returns : goal.returns
returns c =
    λ t e. let m = c.merge_two-merged.ensures t e in
    let b = c.compact_level-next.ensures _ (sym m.0.stands.store) in
    (step_below _ _ _ _ _ c.requires t e _ _ _ m.0 (omega (arith, c.if-level-eq0.false)) _ _ _ b _ _ _ _ (omega arith) (c.compact_level-2.ensures _ (sym b.stands.store)), m.1)
