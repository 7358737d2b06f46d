use Prim.Native.Nat.{◌+◌, ◌≤◌}
use native.Mathlib.Omega.{arith}
use Rattle.geometry.specs.Geometry.{window_of}
use Rattle.levels.specs.Record.{pages}
use Rattle.words.specs.Stores.{top_recs}
use Rattle.pair.specs.Contract.{Chosen, listed}
use Rattle.pair.proofs.Pages.{list_inside, window_in, pages_choosable, pages_chosen, pages_in, pages_mergeable, pages_leaves}
use Rattle.pair.proofs.merge_pages.Goals as goal
use Rattle.pair.proofs.merge_pages.Goals.{After-choose_pages-picked, After-start_of-at}

-- the list lies in the array
here : (c : After-start_of-at) → c.start_of-at.result + c.args.n ≤ 4096
here c = rw (c.start_of-at.ensures, c.levels-h.ensures) (list_inside c.args.z c.args.s.now c.args.desk.now.used c.args.lists.now c.args.n c.args.cursor c.requires)

-- the chosen run
chosen : (c : After-choose_pages-picked) → Chosen (window_of c.args.z.geo 0) (pages c.args.z.geo.b (top_recs c.args.z c.args.s.now)) (listed c.args.z c.args.s.now c.args.lists.now 1 c.args.n) c.choose_pages-picked.result
chosen c =
    pages_chosen c.args.z c.args.s.now c.args.desk.now.used c.args.lists.now c.args.n c.args.cursor c.requires _
    (rw (c.start_of-at.ensures, c.window-w.ensures, c.levels-h.ensures) at c.choose_pages-picked.ensures)

pub overflow_add-at : goal.overflow_add-at
overflow_add-at c = omega (arith, here (goal.at.overflow_add-at c).After-start_of-at)

pub offset_bounds-all-at : goal.offset_bounds-all-at
offset_bounds-all-at c = omega (arith, here (goal.at.offset_bounds-all-at c).After-start_of-at)

pub slice_bounds-choose_pages-end : goal.slice_bounds-choose_pages-end
slice_bounds-choose_pages-end c = omega (arith, here (goal.at.slice_bounds-choose_pages-end c).After-start_of-at, c.requires.lists_long)

pub choose_pages-picked-requires : goal.choose_pages-picked-requires
choose_pages-picked-requires c =
    let a = c.args in
    rw (c.start_of-at.ensures, c.window-w.ensures, c.capacity-a.ensures, c.levels-h.ensures) (pages_choosable a.z a.s.now a.desk.now.used a.lists.now a.n a.cursor c.requires)

pub cut-parts-requires : goal.cut-parts-requires
cut-parts-requires c =
    let a = c.args in
    rw (c.start_of-at.ensures, c.window-w.ensures, c.levels-h.ensures) (pages_in a.z a.s.now a.desk.now.used a.lists.now a.n a.cursor c.requires _ (chosen (goal.at.cut-parts-requires c).After-choose_pages-picked))

pub merge_list-l-requires : goal.merge_list-l-requires
merge_list-l-requires c =
    let a = c.args in
    rw (c.cut-parts.ensures, c.start_of-at.ensures, c.window-w.ensures, c.levels-h.ensures) (pages_mergeable a.z a.s.now a.desk.now.used a.lists.now a.n a.cursor c.requires _ (chosen (goal.at.merge_list-l-requires c).After-choose_pages-picked) _ c.requires.lists_long)

pub overflow_sub-result : goal.overflow_sub-result
overflow_sub-result c =
    let a = c.args in
    omega (arith, window_in a.z a.s.now a.desk.now.used a.lists.now a.n a.cursor c.requires, c.capacity-a.ensures, c.window-w.ensures)

pub returns : goal.returns
returns c =
    let a = c.args in
    rw (c.capacity-a.ensures, c.window-w.ensures)
    (pages_leaves a.z a.s.now a.desk.now.used a.lists.now a.n a.cursor c.requires _ (chosen (goal.at.returns c).After-choose_pages-picked) _ c.requires.lists_long _ _ _ _ (rw (c.cut-parts.ensures, c.start_of-at.ensures, c.window-w.ensures, c.levels-h.ensures) at c.merge_list-l.ensures))
