use mathlib.Core.Path.{refl}
use native.Mathlib.Omega.{arith}
use Rattle.steps.proofs.Paging.{page_ready, gap_ready, page_few, page_words, page_merged}
use Rattle.steps.proofs.merge_top.Goals as goal

pub merge_pages-m-requires : goal.merge_pages-m-requires
merge_pages-m-requires c = page_ready _ _ _ _ c.requires.0 _ c.requires.1

pub window-w-requires : goal.window-w-requires
window-w-requires c = (c.requires.0.proper.valid.ranged, omega arith)

pub close_gap-requires : goal.close_gap-requires
close_gap-requires c = gap_ready _ _ _ _ c.requires.0 c.args.desk.now.used c.requires.1 _ _ _ _ c.merge_pages-m.ensures _ c.window-w.ensures

pub count-requires : goal.count-requires
count-requires c =
    let w = page_few _ _ _ _ c.requires.0 c.args.desk.now.used c.requires.1 _ _ _ _ c.merge_pages-m.ensures in
    (c.requires.0.small, record { merges = omega arith; written = w; compacted = omega arith })

pub ticket-requires : goal.ticket-requires
ticket-requires c = page_words _ _ _ _ c.requires.0 c.args.desk.now.used c.requires.1 _ _ _ _ c.merge_pages-m.ensures

pub returns : goal.returns
returns c = page_merged _ _ _ _ c.requires.0 c.args.desk.now.used c.requires.1 _ _ _ _ c.merge_pages-m.ensures _ _ _ _ _ _ c.window-w.ensures c.close_gap.ensures c.count.ensures refl c.ticket.ensures refl
