-- A merge out of level 0 without its step 5, on words and lists.
use Prim.Native.Nat.{ℕ, ◌+◌, ◌*◌, ◌^◌, ◌≤◌, ◌<◌}
use mathlib.Core.Path.{◌≡◌, refl, sym, ap, ◌∙◌}
use mathlib.Core.Bool.{Bool, true}
use mathlib.Core.List.{List, [], ◌∷◌, ◌++◌, map}
use mathlib.Core.Logic.{◌≢◌}
use native.Mathlib.Nat.{mul-le-mul_right}
use native.Mathlib.Omega.{arith}
use lib.ListN.{length, take, drop, get_or, set, length-append, length-take, length-drop}
use lib.Seq.{get_or-set_same}
use Rattle.geometry.specs.Geometry.{capacity_of, top_capacity_of, window_of}
use Rattle.geometry.proofs.Laws.{level_high}
use Rattle.levels.specs.Record.{rising, pages}
use Rattle.levels.specs.Choose.{choose, cut_at}
use Rattle.levels.specs.Choose as choosing
use Rattle.levels.specs.Place.{Allocation, Settled}
use Rattle.levels.specs.Store.{Store, rows, blocks_of, used_in, allocation_of}
use Rattle.levels.specs.Count.{above_of, under_of}
use Rattle.levels.specs.Call.{merge_cut, merge_run, merge_level}
use Rattle.levels.specs.declared.Ticket.{Ticket}
use Rattle.levels.specs.Every.{Every, all_blocks}
use Rattle.levels.specs.Sound.{BlockFits}
use Rattle.levels.specs.Inside.{Inside}
use Rattle.levels.proofs.Compaction.{pages_full}
use Rattle.levels.proofs.Rising.{rising_test}
use Rattle.levels.proofs.Rows.{risings_at}
use Rattle.levels.proofs.Entry.{inside_fit}
use Rattle.levels.proofs.StoreRows.{set_at}
use Rattle.pieces.specs.Pieces.{word, part, Piece, piece, lay_all}
use Rattle.pieces.proofs.Parts.{part_word, part_length}
use Rattle.pieces.proofs.Pieces.{lay_held}
use Rattle.words.specs.Stores.{place_of, top_count_at, top_recs, top_pieces, with_blocks}
use Rattle.words.specs.Halves.{top_part}
use Rattle.words.proofs.Top.{top_inside}
use Rattle.words.proofs.Form.{mark_words_low}
use Rattle.lists.specs.Lists.{Listed, places_at}
use Rattle.lists.specs.Holds.{HoldsBut}
use Rattle.lists.proofs.Arrays.{listed_new}
use Rattle.lists.proofs.Laws.{but_blocks, but_top}
use Rattle.words.proofs.Steps.{standing_merge}
use Rattle.top.specs.Top.{with_top, TopReady}
use Rattle.top.proofs.Laws.{held_ready, pages_close}
use Rattle.pair.specs.declared.Step.{Step}
use Rattle.blocks.specs.Blocks.{Marks}
use Rattle.pair.specs.Contract.{listed, cut_of, lower_after, PagesReady, PagesLeaves, PagesMerged}
use Rattle.steps.specs.declared.Run.{Run}
use Rattle.steps.specs.declared.Ticketed.{Ticketed}
use Rattle.steps.specs.Running.{Tally, store_of, Marking, counted, StepReady, LevelMerged}
use Rattle.steps.proofs.Standing.{every_entry, but_count, but_top_held, but_top_read, places_new, stand, level_is, entries_are, stored}
use Rattle.steps.proofs.Merging.{start_due, start_inside, level_low, due_fits, due_free, due_room, merged_few, merged_grown, merged_words, merged_ticket}
use Rattle.layout.specs.Layouts.{Proper}
use Rattle.layout.specs.declared.Layout.{Layout}

-- Words that hold t, whose level 0 has room, are ready for level 0's edits.
module _ (z : Layout) (ws : List ℕ) (t : Store) (v : Proper z) (k : HoldsBut z ws t) (fits : length t.top ≤ top_capacity_of z.geo) (f : Every (BlockFits z.geo) (all_blocks t.levels)) where
  pub top_is : top_recs z ws ≡ t.top
  top_is = but_top_read z ws t v f k fits

  pub top_ready : rising 0 t.top ≡ true → TopReady z ws
  top_ready r = held_ready z ws t.top v k.long fits (but_top_held z ws t v f k fits) (but_count z ws t v f k) r

  pub mark_bits : rising 0 t.top ≡ true → (i : ℕ) → i < capacity_of z.geo 0 → word ws (z.marks + i) < 2 ^ z.geo.b
  mark_bits r i h =
      rw (part_word ws z.marks (capacity_of z.geo 0) i h) at (every_entry (λ m. m < 2 ^ z.geo.b) (part ws z.marks (capacity_of z.geo 0)) (mark_words_low z ws v k.long (top_ready r).unused) i
      (rw (part_length ws z.marks (capacity_of z.geo 0) (top_inside z ws v k.long).marks) h))

-- what a merge out of level 0 leaves alone
top_keeps : (z : Layout) (t : Store) (x : ℕ) → x ≢ 0 → get_or (merge_level z.geo 0 t).finish.levels x [] ≡ get_or t.levels x []
unfolding merge_level merge_run merge_cut
top_keeps z t x a = set_at [] (λ l. l ≡ get_or t.levels x []) t.levels 0 _ x (λ y. absurd (a y)) refl

module _ (z : Layout) (ws lists : List ℕ) (r : Run) (k : StepReady 2000000000 z ws lists 0 r) (used : List Bool) (m : Marking used (store_of z ws lists r)) where
  abbrev t : Store
  t = store_of z ws lists r

  within : Inside z.geo k.entry t
  within = start_inside z k.entry t 0 k.proper k.facts

  fit : Every (BlockFits z.geo) (all_blocks t.levels)
  fit = inside_fit z.geo k.entry t within

  full : length t.top ≡ top_capacity_of z.geo
  full = k.full refl

  top_low : length t.top ≤ top_capacity_of z.geo
  top_low = omega (arith, full)

  low : 0 < z.geo.h
  low = level_low z k.entry t 0 k.proper k.facts

  pages_are : pages z.geo.b (top_recs z ws) ≡ blocks_of z.geo 0 t
  pages_are = ap (pages z.geo.b) (top_is z ws t k.proper k.stands.held top_low fit)

  abbrev n : ℕ
  n = get_or r.ns 0 0

  under_is : listed z ws lists 1 n ≡ get_or t.levels 0 []
  under_is = level_is z k.entry t ws lists r k.proper within k.stands 0 low

  top_rises : rising 0 t.top ≡ true
  top_rises = rising_test 0 t.top (risings_at (rows t) 0 within.sorted)

  abbrev cut : choosing.Cut
  cut = cut_of z 0 (blocks_of z.geo 0 t) (blocks_of z.geo 1 t)

  -- level 1 afterwards
  abbrev ls : Settled
  ls = lower_after z 0 (allocation_of t) cut

  abbrev x : Store
  x = (merge_level z.geo 0 t).finish

  lower_is : get_or x.levels 0 [] ≡ ls.level
  unfolding lower_after merge_level merge_run merge_cut
  lower_is = get_or-set_same t.levels 0 ls.level [] (omega (arith, within.many, low))

  -- what `merge_pages` asks
  pub page_ready : PagesReady z ws used lists n r.cursor
  page_ready =
      let v = k.proper in
      record {
        proper = v;
        words = k.stands.held.long;
        marks_long = m.1;
        lists_long = k.stands.listed.long;
        cursor_low = omega (arith, k.stands.cursor, within.cursor);
        full = but_count z ws t v fit k.stands.held ∙ full;
        bits = mark_bits z ws t v k.stands.held top_low fit top_rises;
        rises = rw (top_is z ws t v k.stands.held top_low fit) top_rises;
        under = stored z k.entry t ws lists r v within k.stands 0 low used m.0 (start_due z k.entry t 0 v k.facts).under_sorted;
        in_use = record { places = used_in t; marks = m.0 };
        free = rw (pages_are, under_is) (omega (arith, due_free z k.entry t 0 v k.facts));
        room = rw (pages_are, under_is, (entries_are z k.entry t ws lists r v within k.stands 0 low).1) (due_room z k.entry t 0 v k.facts);
        fits = rw (pages_are, under_is) (due_fits z k.entry t 0 v k.facts);
      }

  -- where the run lies, and what is left of level 0
  at : ℕ
  at = (choose (window_of z.geo 0) (blocks_of z.geo 0 t) (blocks_of z.geo 1 t)).at

  run_inside : at + window_of z.geo 0 ≤ capacity_of z.geo 0
  unfolding at merge_level merge_run above_of under_of top_capacity_of
  run_inside = omega (arith, k.facts.mergeable.whole, pages_full z.geo.b (capacity_of z.geo 0) t.top (omega (arith, k.proper.valid.ranged.b_low)) full)

  pages_few : length (blocks_of z.geo 0 t) ≤ 2048
  unfolding top_capacity_of
  pages_few = omega (arith, pages_full z.geo.b (capacity_of z.geo 0) t.top (omega (arith, k.proper.valid.ranged.b_low)) full, level_high z.geo k.proper.valid {i = 0} (omega arith))

  gap_top : x.top ≡ take (at * z.geo.b) t.top ++ drop ((at + window_of z.geo 0) * z.geo.b) t.top
  unfolding at merge_level merge_run merge_cut cut_at
  gap_top = pages_close z.geo.b at (window_of z.geo 0) t.top (omega (arith, k.proper.valid.ranged.b_low))

  gap_short : length x.top ≤ top_capacity_of z.geo
  gap_short = rw (gap_top, length-append, length-take, length-drop) (omega (arith, full, mul-le-mul_right {m = at} {n = at + window_of z.geo 0} z.geo.b (omega arith)))

  module _ (ws' : List ℕ) (used' : List Bool) (lists' : List ℕ) (p : Step)
      (left : (al : Allocation) → al.cursor ≡ r.cursor → Marks used al.used → PagesMerged z (listed z ws lists 1 n) al ws ws' used' lists lists' p) where
    left_is : PagesLeaves z ls (choose (window_of z.geo 0) (blocks_of z.geo 0 t) (blocks_of z.geo 1 t)) ws ws' used' lists lists' p
    left_is = rw (pages_are, under_is) at (left (allocation_of t) (sym k.stands.cursor) m.0)

    -- the store with level 0 as it was
    between : Store
    between = record { live = t.live; cursor = t.cursor; top = t.top; levels = x.levels }

    held_between : HoldsBut z ws' between
    unfolding between lower_after merge_level merge_run merge_cut
    held_between =
        rw left_is.words (but_blocks z ws (merge_level z.geo 0 t).written t between k.proper k.stands.held refl refl top_low
        (standing_merge z k.proper k.entry (merge_level z.geo 0 t) ws k.stands.held.long k.facts k.stands.held.standing))

    fit_between : Every (BlockFits z.geo) (all_blocks between.levels)
    unfolding between
    fit_between = inside_fit z.geo k.entry x k.facts.finish_inside

    top_between : top_recs z ws' ≡ t.top
    unfolding between
    top_between = top_is z ws' between k.proper held_between top_low fit_between

    first_is : p.first ≡ at
    unfolding at
    first_is = left_is.below.first

    -- what `close_gap` asks
    pub gap_ready : (w : ℕ) → w ≡ window_of z.geo 0 → TopReady z ws' × ((top_count_at z ws' ≡ top_capacity_of z.geo) × (p.first + w ≤ capacity_of z.geo 0))
    unfolding between
    gap_ready w ew = (top_ready z ws' between k.proper held_between top_low fit_between top_rises, (but_count z ws' between k.proper fit_between held_between ∙ full, omega (arith, first_is, ew, run_inside)))

    writes_is : p.writes ≡ length (merge_level z.geo 0 t).written
    unfolding lower_after merge_level merge_run merge_cut
    writes_is = left_is.writes

    pub page_few : p.writes ≤ 8192
    page_few = omega (arith, writes_is, merged_few z k.entry t 0 k.proper k.facts)

    -- what `ticket` asks
    pub page_words : (0 ≤ 8192) × ((p.first ≤ 8192) × ((p.overlap ≤ 8192) × (p.writes ≤ 8192)))
    page_words =
        let w = merged_words z k.entry t 0 k.proper k.facts p.first p.overlap left_is.below.first left_is.below.overlap pages_few in
        (omega arith, (w.0, (w.1, page_few)))

    words_are : (w : ℕ) (ws2 : List ℕ) → w ≡ window_of z.geo 0 → ws2 ≡ with_top z ws' (take (p.first * z.geo.b) (top_recs z ws') ++ drop ((p.first + w) * z.geo.b) (top_recs z ws')) → ws2 ≡ with_top z ws' x.top
    words_are w ws2 ew e2 = e2 ∙ rw (top_between, first_is, ew, gap_top)

    -- live stands already
    words_laid : (ws2 : List ℕ) → ws2 ≡ with_top z ws' x.top → ws2 ≡ lay_all (top_part z x) (with_blocks z (merge_level z.geo 0 t).written ws)
    unfolding between lower_after merge_level merge_run merge_cut with_top lay_all
    words_laid ws2 q =
        let L : Piece = piece z.live (t.live ∷ []) in
        q ∙ ap (lay_all (piece z.count (length x.top ∷ []) ∷ top_pieces z x.top)) (sym (lay_held L ws' held_between.held.0)) ∙ ap (lay_all (top_part z x)) left_is.words

    relisted : Listed z.geo.h z.geo.h lists' (set r.ns 0 p.under) (places_at x)
    relisted =
        let q = places_new z k.entry x k.facts.finish_inside 0 ls.level lower_is in
        listed_new z.geo.h z.geo.h z.geo.h 0 p.under lists lists' r.ns (places_at t) (places_at x) k.stands.listed low (omega arith) (omega arith) k.proper.valid.ranged.h_high (λ i a b. a) left_is.below.lists_long
        (left_is.below.under ∙ q.1) (left_is.below.lower ∙ q.0) left_is.kept (λ i a. ap (map place_of) (top_keeps z t i a))

    pub page_merged : (w : ℕ) (ws2 : List ℕ) (u : Ticketed) (more : Tally) (ns : List ℕ) (y : Ticket) → w ≡ window_of z.geo 0 → ws2 ≡ with_top z ws' (take (p.first * z.geo.b) (top_recs z ws') ++ drop ((p.first + w) * z.geo.b) (top_recs z ws'))
        → more ≡ counted r.tally 1 (record { merges = 1; written = p.writes; compacted = 0 }) → ns ≡ set r.ns 0 p.under
        → y ≡ record { level = 0; first = p.first; overlap = p.overlap; written = p.writes } → u ≡ record { run = record { ns = ns; cursor = p.cursor; tally = more }; ticket = y } → LevelMerged z 0 ws lists r ws2 lists' u
    unfolding between lower_after merge_level merge_run merge_cut with_top
    page_merged w ws2 u more ns y ew e2 em en ey eu s es =
        let v = k.proper in
        let q = words_are w ws2 ew e2 in
        let held : HoldsBut z ws2 x = rw q (but_top z ws' between x v held_between refl refl gap_short fit_between) in
        rw (es, eu, en) (
          record {
            stands = stand z k.entry x ws2 lists' _ v k.facts.finish_inside held gap_short relisted left_is.below.cursor;
            words = words_laid ws2 q;
            counts = merged_grown z k.entry t 0 v k.facts r.tally more 1 p.writes k.small.three refl writes_is em;
          },
          merged_ticket z k.entry t 0 v k.facts 0 p.first p.overlap p.writes y refl left_is.below.first left_is.below.overlap writes_is ey,
        )
