use mathlib.Core.Path.{sym, ◌∙◌}
use Rattle.cascade.proofs.Whole.{first_ready, below_ready, back_ready, merged_tickets, merged_all}
use Rattle.cascade.proofs.merge_all.Goals as goal

pub merge_step-merged-requires : goal.merge_step-merged-requires
merge_step-merged-requires c = first_ready _ _ c.requires _ _ c.load_run-r.ensures

pub merge_below-v-requires : goal.merge_below-v-requires
merge_below-v-requires c =
    let l = c.load_run-r.ensures in
    below_ready _ _ c.requires _ _ l _ _ _ (c.merge_step-merged.ensures _ (sym l.stands.store)).0

pub store_back-requires : goal.store_back-requires
store_back-requires c =
    let l = c.load_run-r.ensures in
    let a = (c.merge_step-merged.ensures _ (sym l.stands.store)).0 in
    back_ready _ _ c.requires _ _ l _ _ _ a _ _ _ (c.merge_below-v.ensures _ (sym a.stands.store)).0

pub shape_of-s : goal.shape_of-s
shape_of-s c = c.store_back.auto.s ∙ (c.merge_below-v.auto.s ∙ c.merge_step-merged.auto.s)

pub returns : goal.returns
returns c =
    let k = c.requires in
    let l = c.load_run-r.ensures in
    let m = c.merge_step-merged.ensures _ (sym l.stands.store) in
    let b = c.merge_below-v.ensures _ (sym m.0.stands.store) in
    (merged_all _ _ k _ _ l _ _ _ m.0 _ _ _ b.0 _ c.store_back.ensures, merged_tickets _ _ k _ _ l _ _ _ m.0 _ _ _ _ m.1 (rw c.into.ensures at c.file.ensures) b.1)
