use Prim.Native.Nat.{suc, ◌+◌, ◌≤◌}
use mathlib.Core.Path.{refl}
use native.Mathlib.Numerals.{add-one}
use native.Mathlib.Omega.{arith}
use Rattle.geometry.specs.Geometry.{window_of}
use Rattle.pair.specs.Contract.{Chosen, listed}
use Rattle.pair.proofs.Pair.{pair_inside, pair_choosable, pair_chosen, run_in, met_in, pair_closable, pair_mergeable, pair_writes, pair_leaves}
use Rattle.pair.proofs.merge_pair.Goals as goal
use Rattle.pair.proofs.merge_pair.Goals.{After-choose_listed-picked, After-gap-gap, After-start_of-below}

-- both lists lie in the array
here : (c : After-start_of-below) → (c.start_of-at.result + c.args.lengths.above ≤ 4096) × (c.start_of-below.result + c.args.lengths.under ≤ 4096)
here c = rw (c.start_of-at.ensures, c.start_of-below.ensures, c.levels-h.ensures, add-one) (pair_inside c.args.z c.args.s.now c.args.desk.now.used c.args.lists.now c.args.level c.args.lengths.above c.args.lengths.under c.args.cursor c.requires)

-- the chosen run
chosen : (c : After-choose_listed-picked) → Chosen (window_of c.args.z.geo c.args.level) (listed c.args.z c.args.s.now c.args.lists.now c.args.level c.args.lengths.above) (listed c.args.z c.args.s.now c.args.lists.now (suc c.args.level) c.args.lengths.under) c.choose_listed-picked.result
chosen c =
    pair_chosen c.args.z c.args.s.now c.args.desk.now.used c.args.lists.now c.args.level c.args.lengths.above c.args.lengths.under c.args.cursor c.requires _
    (rw (c.start_of-at.ensures, c.start_of-below.ensures, c.window-w.ensures, c.levels-h.ensures, add-one) at c.choose_listed-picked.ensures)

-- the gap that it leaves
gap-in : (c : After-gap-gap) → (c.gap-gap.result.y ≤ c.gap-gap.result.end) × ((c.gap-gap.result.end + c.window-w.result ≤ 4096) × (c.choose_listed-picked.result.first + c.window-w.result ≤ 4096))
gap-in c =
    let here_here : ((c.start_of-at.result + c.args.lengths.above ≤ 4096) × (c.start_of-below.result + c.args.lengths.under ≤ 4096)) = (rw (c.start_of-at.ensures, c.start_of-below.ensures, c.levels-h.ensures, add-one) (pair_inside c.args.z c.args.s.now c.args.desk.now.used c.args.lists.now c.args.level c.args.lengths.above c.args.lengths.under c.args.cursor c.requires)) in
    let chosen_here : (Chosen (window_of c.args.z.geo c.args.level) (listed c.args.z c.args.s.now c.args.lists.now c.args.level c.args.lengths.above) (listed c.args.z c.args.s.now c.args.lists.now (suc c.args.level) c.args.lengths.under) c.choose_listed-picked.result) = (pair_chosen c.args.z c.args.s.now c.args.desk.now.used c.args.lists.now c.args.level c.args.lengths.above c.args.lengths.under c.args.cursor c.requires _
    (rw (c.start_of-at.ensures, c.start_of-below.ensures, c.window-w.ensures, c.levels-h.ensures, add-one) at c.choose_listed-picked.ensures)) in
    let h = (here_here).0 in
    let r = run_in c.args.z c.args.s.now c.args.desk.now.used c.args.lists.now c.args.level c.args.lengths.above c.args.lengths.under c.args.cursor c.requires _ (chosen_here) in
    let w = c.window-w.ensures in
    rw c.gap-gap.ensures (omega arith, (omega arith, omega arith))

pub overflow_add-at : goal.overflow_add-at
overflow_add-at c = omega (arith, (here (goal.at.overflow_add-at c).After-start_of-below).0)

pub offset_bounds-all-at : goal.offset_bounds-all-at
offset_bounds-all-at c = omega (arith, (here (goal.at.offset_bounds-all-at c).After-start_of-below).0)

pub slice_bounds-choose_listed-end : goal.slice_bounds-choose_listed-end
slice_bounds-choose_listed-end c = omega (arith, (here (goal.at.slice_bounds-choose_listed-end c).After-start_of-below).0, c.requires.lists_long)

pub overflow_add-below : goal.overflow_add-below
overflow_add-below c = omega (arith, (here (goal.at.overflow_add-below c).After-start_of-below).1)

pub offset_bounds-all-below : goal.offset_bounds-all-below
offset_bounds-all-below c = omega (arith, (here (goal.at.offset_bounds-all-below c).After-start_of-below).1)

pub slice_bounds-choose_listed-end-2 : goal.slice_bounds-choose_listed-end-2
slice_bounds-choose_listed-end-2 c = omega (arith, (here (goal.at.slice_bounds-choose_listed-end-2 c).After-start_of-below).1, c.requires.lists_long)

pub choose_listed-picked-requires : goal.choose_listed-picked-requires
choose_listed-picked-requires c =
    let a = c.args in
    rw (c.start_of-at.ensures, c.start_of-below.ensures, c.window-w.ensures, c.levels-h.ensures, add-one) (pair_choosable a.z a.s.now a.desk.now.used a.lists.now a.level a.lengths.above a.lengths.under a.cursor c.requires)

pub gap-gap-requires : goal.gap-gap-requires
gap-gap-requires c =
    let a = c.args in
    let r = run_in a.z a.s.now a.desk.now.used a.lists.now a.level a.lengths.above a.lengths.under a.cursor c.requires _ (chosen (goal.at.gap-gap-requires c).After-choose_listed-picked) in
    (omega (arith, c.window-w.ensures), (here (goal.at.gap-gap-requires c).After-start_of-below).0)

pub copy-requires : goal.copy-requires
copy-requires c = let g = gap-in (goal.at.copy-requires c).After-gap-gap in (omega (arith, c.requires.lists_long), omega arith)

pub overflow_add-gap : goal.overflow_add-gap
overflow_add-gap c = omega (arith, gap-in (goal.at.overflow_add-gap c).After-gap-gap)

pub overflow_sub-gap : goal.overflow_sub-gap
overflow_sub-gap c = omega (arith, gap-in (goal.at.overflow_sub-gap c).After-gap-gap)

pub copy_down-requires : goal.copy_down-requires
copy_down-requires c = let g = gap-in (goal.at.copy_down-requires c).After-gap-gap in (omega arith, omega (arith, c.requires.lists_long))

pub merge_list-u-requires : goal.merge_list-u-requires
merge_list-u-requires c =
    let a = c.args in
    rw (c.gap-gap.ensures, c.start_of-at.ensures, c.window-w.ensures, c.levels-h.ensures)
    (pair_closable a.z a.s.now a.desk.now.used a.lists.now a.level a.lengths.above a.lengths.under a.cursor c.requires _ (chosen (goal.at.merge_list-u-requires c).After-choose_listed-picked) _ _ _ refl (rw (c.gap-gap.ensures, c.start_of-at.ensures, c.window-w.ensures, c.levels-h.ensures) at c.copy.ensures) (rw (c.gap-gap.ensures, c.start_of-at.ensures, c.window-w.ensures, c.levels-h.ensures) at c.copy_down.ensures))

pub cut-parts-requires : goal.cut-parts-requires
cut-parts-requires c =
    let a = c.args in
    let m = met_in a.z a.s.now a.desk.now.used a.lists.now a.level a.lengths.above a.lengths.under a.cursor c.requires _ (chosen (goal.at.cut-parts-requires c).After-choose_listed-picked) in
    (omega (arith, gap-in (goal.at.cut-parts-requires c).After-gap-gap), (m.0, (m.1, (here (goal.at.cut-parts-requires c).After-start_of-below).1)))

pub merge_list-l-requires : goal.merge_list-l-requires
merge_list-l-requires c =
    let a = c.args in
    rw (c.cut-parts.ensures, c.start_of-below.ensures, c.window-w.ensures, c.levels-h.ensures, add-one)
    (pair_mergeable a.z a.s.now a.desk.now.used a.lists.now a.level a.lengths.above a.lengths.under a.cursor c.requires _ (chosen (goal.at.merge_list-l-requires c).After-choose_listed-picked) _ _ _ refl (rw (c.gap-gap.ensures, c.start_of-at.ensures, c.window-w.ensures, c.levels-h.ensures) at c.copy.ensures) (rw (c.gap-gap.ensures, c.start_of-at.ensures, c.window-w.ensures, c.levels-h.ensures) at c.copy_down.ensures) _ _ _ _
    (rw (c.gap-gap.ensures, c.start_of-at.ensures, c.window-w.ensures, c.levels-h.ensures) at c.merge_list-u.ensures))

pub overflow_add-result : goal.overflow_add-result
overflow_add-result c =
    let a = c.args in
    omega (
      arith,
      pair_writes a.z a.s.now a.desk.now.used a.lists.now a.level a.lengths.above a.lengths.under a.cursor c.requires _ (chosen (goal.at.overflow_add-result c).After-choose_listed-picked) _ _ _ refl (rw (c.gap-gap.ensures, c.start_of-at.ensures, c.window-w.ensures, c.levels-h.ensures) at c.copy.ensures) (rw (c.gap-gap.ensures, c.start_of-at.ensures, c.window-w.ensures, c.levels-h.ensures) at c.copy_down.ensures) _ _ _ _
          (rw (c.gap-gap.ensures, c.start_of-at.ensures, c.window-w.ensures, c.levels-h.ensures) at c.merge_list-u.ensures) _ _ _ _ (rw (c.cut-parts.ensures, c.start_of-below.ensures, c.window-w.ensures, c.levels-h.ensures, add-one) at c.merge_list-l.ensures),
    )

pub returns : goal.returns
returns c =
    let a = c.args in
    pair_leaves a.z a.s.now a.desk.now.used a.lists.now a.level a.lengths.above a.lengths.under a.cursor c.requires _ (chosen (goal.at.returns c).After-choose_listed-picked) _ _ _ refl (rw (c.gap-gap.ensures, c.start_of-at.ensures, c.window-w.ensures, c.levels-h.ensures) at c.copy.ensures) (rw (c.gap-gap.ensures, c.start_of-at.ensures, c.window-w.ensures, c.levels-h.ensures) at c.copy_down.ensures) _ _ _ _
    (rw (c.gap-gap.ensures, c.start_of-at.ensures, c.window-w.ensures, c.levels-h.ensures) at c.merge_list-u.ensures) _ _ _ _ (rw (c.cut-parts.ensures, c.start_of-below.ensures, c.window-w.ensures, c.levels-h.ensures, add-one) at c.merge_list-l.ensures)
