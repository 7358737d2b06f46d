use Prim.Native.Nat.{◌-◌}
use mathlib.Core.Path.{refl, sym, ◌∙◌}
use native.Mathlib.Omega.{arith}
use Rattle.steps.proofs.Standing.{markable}
use Rattle.steps.proofs.Compacting.{entries_ask, due_asks, kept_level, list_asks, out_long, list_few, copy_asks, compacted}
use Rattle.steps.proofs.compact_level.Goals as goal

pub entries-list-requires : goal.entries-list-requires
entries-list-requires c = let p = c.requires in entries_ask _ _ _ _ p.0 (c.args.level - 1) _ _ (omega (arith, p.1.0)) p.1.1 c.levels-h.ensures

pub needs_compacting-requires : goal.needs_compacting-requires
needs_compacting-requires c = let p = c.requires in rw c.entries-list.ensures (due_asks _ _ _ _ p.0 (c.args.level - 1) _ _ (omega (arith, p.1.0)) p.1.1 c.levels-h.ensures)

pub returns-then-not-needs_compacting : goal.returns-then-not-needs_compacting
returns-then-not-needs_compacting c =
    let p = c.requires in
    kept_level _ _ _ _ p.0 (c.args.level - 1) _ _ (omega (arith, p.1.0)) p.1.1 c.levels-h.ensures (rw c.entries-list.ensures at (sym c.needs_compacting.ensures ∙ c.if-not-needs_compacting.true))

pub marks-requires : goal.marks-requires
marks-requires c = let k = c.requires.0 in (refl, rw c.levels-h.ensures (markable _ _ _ _ _ _ k.proper k.inside k.stands))

pub entries-old-requires : goal.entries-old-requires
entries-old-requires c = let p = c.requires in entries_ask _ _ _ _ p.0 (c.args.level - 1) _ _ (omega (arith, p.1.0)) p.1.1 c.levels-h.ensures

pub compact-m-requires : goal.compact-m-requires
compact-m-requires c =
    let p = c.requires in
    let h = rw c.entries-list.ensures at (sym c.needs_compacting.ensures ∙ c.if-not-needs_compacting.false) in
    rw c.entries-old.ensures (list_asks _ _ _ _ p.0 (c.args.level - 1) _ _ (omega (arith, p.1.0)) p.1.1 c.levels-h.ensures h c.marks.new.used c.marks.ensures)

pub start_of-at-requires : goal.start_of-at-requires
start_of-at-requires c = let e = c.levels-h.ensures in (omega (arith, e, c.requires.1.1), omega (arith, e, c.requires.0.proper.valid.ranged.h_high))

pub slice_bounds-copy_list-end : goal.slice_bounds-copy_list-end
slice_bounds-copy_list-end c =
    let p = c.requires in
    let h = rw c.entries-list.ensures at (sym c.needs_compacting.ensures ∙ c.if-not-needs_compacting.false) in
    out_long _ _ _ _ p.0 (c.args.level - 1) _ _ (omega (arith, p.1.0)) p.1.1 c.levels-h.ensures h c.marks.new.used c.marks.ensures _ _ _ _ (rw c.entries-old.ensures at c.compact-m.ensures)

pub copy_list-requires : goal.copy_list-requires
copy_list-requires c =
    let p = c.requires in
    let h = rw c.entries-list.ensures at (sym c.needs_compacting.ensures ∙ c.if-not-needs_compacting.false) in
    copy_asks _ _ _ _ p.0 (c.args.level - 1) _ _ (omega (arith, p.1.0)) p.1.1 c.levels-h.ensures h c.marks.new.used c.marks.ensures _ _ _ _ (rw c.entries-old.ensures at c.compact-m.ensures) _ c.start_of-at.ensures

pub count-requires : goal.count-requires
count-requires c =
    let p = c.requires in
    let h = rw c.entries-list.ensures at (sym c.needs_compacting.ensures ∙ c.if-not-needs_compacting.false) in
    let w = list_few _ _ _ _ p.0 (c.args.level - 1) _ _ (omega (arith, p.1.0)) p.1.1 c.levels-h.ensures h c.marks.new.used c.marks.ensures _ _ _ _ (rw c.entries-old.ensures at c.compact-m.ensures) in
    (p.0.small, record { merges = omega arith; written = omega arith; compacted = w })

pub returns : goal.returns
returns c =
    let p = c.requires in
    let h = rw c.entries-list.ensures at (sym c.needs_compacting.ensures ∙ c.if-not-needs_compacting.false) in
    compacted _ _ _ _ p.0 (c.args.level - 1) _ _ (omega (arith, p.1.0)) p.1.1 c.levels-h.ensures h c.marks.new.used c.marks.ensures _ _ _ _ (rw c.entries-old.ensures at c.compact-m.ensures) _ c.start_of-at.ensures _ _ _ c.copy_list.ensures c.count.ensures refl
