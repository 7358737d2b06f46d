-- The whole merge out of level 0.
use Prim.Native.Nat.{ℕ, zero, suc, ◌+◌, ◌-◌, ◌*◌, ◌≤◌, ◌<◌}
use mathlib.Core.Path.{◌≡◌, refl, sym, ap, ◌∙◌, subst}
use mathlib.Core.Bool.{Bool, true, true≢false}
use mathlib.Core.List.{List, [], ◌++◌, map}
use native.Mathlib.Nat.{zero-add}
use native.Mathlib.Omega.{arith}
use lib.Dec.{eqb}
use lib.ListN.{length, get_or, take, drop, length-append}
use lib.Seq.{take_all, take_at, drop_at, length-take-le}
use Rattle.geometry.specs.Geometry.{window_of, capacity_of, top_capacity_of}
use Rattle.geometry.specs.Room.{list_room}
use Rattle.geometry.proofs.Bounds.{capacity_zero_high}
use Rattle.geometry.proofs.Laws.{window_low}
use Rattle.levels.specs.Basics.{each}
use Rattle.levels.specs.Record.{Block, Level, records, rising, new, pages}
use Rattle.levels.specs.Rising.{Rising}
use Rattle.levels.proofs.Rising.{test_rising}
use Rattle.levels.specs.Choose.{choose}
use Rattle.levels.specs.Choose as choosing
use Rattle.levels.specs.Place.{Allocation, settle}
use Rattle.levels.proofs.Overlap.{window_fits}
use Rattle.levels.proofs.Settling.{settle_length}
use Rattle.levels.proofs.Pages.{pack_full}
use Rattle.words.specs.Stores.{word, block_at, slots_at, page_slots, top_slots, top_recs, top_count_at}
use Rattle.words.proofs.Slots.{slots_length}
use Rattle.words.proofs.Top.{top_slots_length}
use Rattle.lists.specs.Flat.{part_start, part_room, part_of}
use Rattle.lists.proofs.Flat.{part_inside}
use Rattle.choice.specs.declared.Fence.{Fence}
use Rattle.choice.specs.Fences.{Ordered, fence_of}
use Rattle.fences.specs.Reading.{fill, page_fence}
use Rattle.levels.proofs.Levels.{Filled}
use Rattle.choice.proofs.Levels.{level_ordered}
use Rattle.levels.proofs.Each.{length_each, get_d_each, each_take, each_drop}
use Rattle.fences.proofs.Words.{page_fences}
use Rattle.blocks.specs.Blocks.{Marks}
use Rattle.merging.specs.declared.Cut.{Cut}
use Rattle.merging.specs.declared.Merged.{Merged}
use Rattle.merging.specs.Contract.{page_at, merge_of}
use Rattle.pair.specs.declared.Picked.{Picked}
use Rattle.pair.specs.Contract.{listed, meets_at, cut_of, lower_after, Chosen, Readables, Paged, Relistable, Relisted, PagesReady, PagesLeaves}
use Rattle.pair.proofs.Lists.{slice_is, part_each}
use Rattle.pair.proofs.Chosen.{run_inside, ends_in_order, ends_inside, overlap_is}
use Rattle.pair.proofs.Merges.{Sound, block_rises, listed_is, stored_sound, relistable, relisted_anew, lower_leaves}
use Rattle.pair.proofs.Below.{met_merge}
use Rattle.pair.proofs.Pair.{stored_ordered, stored_length, stored_readable, stored_room}
use Rattle.layout.specs.Layouts.{Proper}
use Rattle.layout.specs.declared.Layout.{Layout}

-- n full pages from page i on: cut into pages, they are the pages that the words hold
pages_each : (z : Layout) (ws : List ℕ) (i n : ℕ) → 1 ≤ z.geo.b → pages z.geo.b (page_slots z ws i n) ≡ each (page_at z ws) i n
unfolding page_slots
pages_each z ws i zero h = refl
pages_each z ws i (suc n) h =
    let s = slots_at ws (word ws (z.marks + i)) (z.keys + i * z.geo.b) (z.pays + i * z.geo.b) z.geo.b in
    let l : length s ≡ z.geo.b = slots_length ws _ _ _ z.geo.b in
    let e : z.geo.b - 0 ≡ z.geo.b = omega arith in
    pack_full z.geo.b [] (s ++ page_slots z ws (suc i) n) h (omega (arith, length-append s (page_slots z ws (suc i) n), l))
    ∙ rw (e, take_at s (page_slots z ws (suc i) n) z.geo.b l, drop_at s (page_slots z ws (suc i) n) z.geo.b l, pages_each z ws (suc i) n h)

each_records : (z : Layout) (ws : List ℕ) (i n : ℕ) → records (each (page_at z ws) i n) ≡ page_slots z ws i n
unfolding page_slots
each_records z ws i zero = refl
each_records z ws i (suc n) = rw (each_records z ws (suc i) n)

each_filled : (z : Layout) (ws : List ℕ) (i n : ℕ) → 1 ≤ z.geo.b → Filled (each (page_at z ws) i n)
each_filled z ws i zero h = tt
each_filled z ws i (suc n) h = (rw slots_length h, each_filled z ws (suc i) n h)

-- a full level 0 is all its slots
top_full : (z : Layout) (ws : List ℕ) → top_count_at z ws ≡ top_capacity_of z.geo → top_recs z ws ≡ page_slots z ws 0 (capacity_of z.geo 0)
unfolding top_recs top_slots
top_full z ws e =
    let l : length (page_slots z ws 0 (capacity_of z.geo 0)) ≡ top_capacity_of z.geo = top_slots_length z ws in
    take_all (top_count_at z ws) (page_slots z ws 0 (capacity_of z.geo 0)) (omega arith)

-- the part of a list that is filled with the fences of the pages of level 0
module _ (z : Layout) (ws : List ℕ) (a w : ℕ) (b : 1 ≤ z.geo.b) (k : Paged z ws a) (xs : List Fence) (h : a ≤ length xs) where
  part_long : length (take a xs) ≡ a
  part_long = length-take-le a xs h

  pub paged_asks : length (take a xs) * z.geo.b ≤ top_count_at z ws
  paged_asks = rw part_long (omega (arith, k.count))

  module _ (fences : List Fence) (e : fences ≡ fill (page_fence z ws) (length (take a xs)) (take a xs)) where
    pub paged_are : fences ≡ map fence_of (pages z.geo.b (top_recs z ws))
    paged_are = page_fences z ws a (take a xs) fences part_long e b k.count k.fits

    pub paged_ordered : Ordered 0 fences
    paged_ordered = rw paged_are k.ordered

    pub paged_high : w ≤ a → length fences ≡ length (take a xs) → w ≤ length fences
    paged_high l q = omega (arith, part_long)

module _ (z : Layout) (ws : List ℕ) (used : List Bool) (lists : List ℕ) (n cursor : ℕ) (k : PagesReady z ws used lists n cursor) where
  abbrev w : ℕ
  w = window_of z.geo 0

  abbrev above : Level
  above = pages z.geo.b (top_recs z ws)

  abbrev under : Level
  under = listed z ws lists 1 n

  abbrev at : ℕ
  at = part_start z.geo.h 1

  n_room : n ≤ part_room z.geo.h 1
  n_room = stored_room z ws used lists 1 n k.lists_long k.under

  -- the list lies in the array
  pub list_inside : at + n ≤ list_room
  list_inside = omega (arith, n_room, part_inside z.geo.h 1)

  abbrev cut : choosing.Cut
  cut = cut_of z 0 above under

  b_low : 1 ≤ z.geo.b
  b_low = let l = k.proper.valid.ranged.b_low in omega arith

  above_is : above ≡ each (page_at z ws) 0 (capacity_of z.geo 0)
  above_is = ap (pages z.geo.b) (top_full z ws k.full) ∙ pages_each z ws 0 (capacity_of z.geo 0) b_low

  la : length above ≡ capacity_of z.geo 0
  la = ap length above_is ∙ length_each (page_at z ws) 0 (capacity_of z.geo 0)

  lu : length under ≡ n
  lu = stored_length z ws used (part_of z.geo.h lists 1) n k.under

  pages_rise : rising 0 (records (each (page_at z ws) 0 (capacity_of z.geo 0))) ≡ true
  pages_rise = rw (each_records z ws 0 (capacity_of z.geo 0), ← top_full z ws k.full) k.rises

  page_rises : (i : ℕ) → i < capacity_of z.geo 0 → Rising 0 (page_at z ws i).recs
  page_rises i h =
      let e : get_or (each (page_at z ws) 0 (capacity_of z.geo 0)) i (new []) ≡ page_at z ws i = get_d_each (page_at z ws) 0 (capacity_of z.geo 0) i (new []) h ∙ ap (page_at z ws) (zero-add i) in
      subst (λ (b : Block). Rising 0 b.recs) e (block_rises 0 (each (page_at z ws) 0 (capacity_of z.geo 0)) i (test_rising 0 (records (each (page_at z ws) 0 (capacity_of z.geo 0))) pages_rise) (rw (length_each (page_at z ws) 0 (capacity_of z.geo 0)) h))

  oa : Ordered 0 (map fence_of above)
  oa = rw above_is (level_ordered 0 (each (page_at z ws) 0 (capacity_of z.geo 0)) (each_filled z ws 0 (capacity_of z.geo 0) b_low) pages_rise)

  ou : Ordered 0 (map fence_of under)
  ou = stored_ordered z ws used (part_of z.geo.h lists 1) n k.under

  w_low : 1 ≤ w
  w_low = window_low z.geo k.proper.valid.ranged 0

  pub window_in : w ≤ capacity_of z.geo 0
  window_in = window_fits z.geo 0 (capacity_of z.geo 0) k.proper.valid.ranged (omega arith)

  few : capacity_of z.geo 0 ≤ 256
  few = capacity_zero_high z.geo k.proper.valid.ranged

  fits : w ≤ length above
  fits = rw la window_in

  -- the run can be chosen, and is
  pub pages_choosable : Proper z × ((length ws ≡ z.length) × ((1 ≤ w) × ((w ≤ capacity_of z.geo 0) × (Paged z ws (capacity_of z.geo 0) × Readables z ws (take (at + n - at) (drop at lists))))))
  unfolding top_capacity_of
  pages_choosable =
      let f = k.full in
      rw (slice_is z.geo.h 1 n lists n_room)
      (k.proper, (k.words, (w_low, (window_in, (record { count = f; fits = omega arith; high = omega (arith, few); ordered = oa }, stored_readable z ws used (part_of z.geo.h lists 1) n k.under)))))

  pub pages_chosen : (r : Picked) → Chosen w above (map (block_at z ws) (take (at + n - at) (drop at lists))) r → Chosen w above under r
  pages_chosen r = rw (slice_is z.geo.h 1 n lists n_room) (λ c. c)

  module _ (r : Picked) (ch : Chosen w above under r) where
    inside : r.first + w ≤ capacity_of z.geo 0
    inside = rw la at (run_inside w above under r ch oa ou w_low fits)

    -- where X and Y stand
    pub pages_in : (r.first + w ≤ list_room) × ((r.start ≤ r.end) × ((r.end ≤ n) × (at + n ≤ list_room)))
    pages_in = (omega (arith, inside, few), (ends_in_order w above under r ch oa ou w_low fits, (rw lu at (ends_inside w above under r ch oa ou w_low fits), list_inside)))

    run_pages : each (page_at z ws) r.first w ≡ take w (drop r.first above)
    run_pages =
        let h = inside in
        sym (ap (λ (l : Level). take w (drop r.first l)) above_is
        ∙ rw (each_drop (page_at z ws) 0 r.first (capacity_of z.geo 0), zero-add) (each_take (page_at z ws) r.first w (capacity_of z.geo 0 - r.first) (omega arith)))

    abbrev meets : Cut
    meets = meets_at w at n true (eqb 1 z.geo.h) r

    module _ (xs : List ℕ) (xl : length xs ≡ list_room) where
      settled : (al : Allocation) → lower_after z 0 al cut ≡ settle z.geo.p al (merge_of z ws xs lists meets)
      unfolding lower_after
      settled al =
          ap (settle z.geo.p al)
          (sym (met_merge w above under r ch oa ou w_low fits z ws xs lists at n true (eqb 1 z.geo.h) (omega (arith, list_inside, k.lists_long)) lu run_pages (sym (listed_is z ws lists 1 n n_room))))

      lower_few : length (merge_of z ws xs lists meets) ≤ part_room z.geo.h 1
      lower_few = let al : Allocation = record { used = []; cursor = cursor } in rw settle_length at (rw (settled al) at (k.fits al))

      -- steps 3 and 4 can be made
      pub pages_mergeable : Relistable z ws used lists xs meets cursor
      pages_mergeable =
          let h = inside in
          let x : r.first + w - r.first ≡ w = omega arith in
          let y = overlap_is w above under r ch oa ou w_low fits in
          let f = k.free in
          let m = k.room in
          let s = few in
          relistable z ws used lists xs cursor k.proper k.words k.marks_long k.lists_long xl k.cursor_low k.in_use 1 r.first (r.first + w) r.start r.end n true (eqb 1 z.geo.h) (omega arith) (omega arith) pages_in.1.0 pages_in.1.1.0 n_room
          (λ t. absurd (true≢false t)) (λ _ j a b. (record { low = omega arith; bits = k.bits j (omega arith) }, page_rises j (omega arith)))
          (part_each (Sound z ws used) z.geo.h 1 n lists n_room (stored_sound z ws used (part_of z.geo.h lists 1) n k.under)) (omega arith) (omega arith) lower_few

      -- what they leave
      pub pages_leaves : (ws2 : List ℕ) (used2 : List Bool) (lists2 : List ℕ) (v : Merged)
          → ((al : Allocation) → al.cursor ≡ cursor → Marks used al.used → Relisted z (settle z.geo.p al (merge_of z ws xs lists meets)) at ws ws2 used2 lists lists2 v)
          → (al : Allocation) → al.cursor ≡ cursor → Marks used al.used
          → PagesLeaves z (lower_after z 0 al cut) (choose w above under) ws ws2 used2 lists lists2
          (record { above = capacity_of z.geo 0 - w; under = v.count; cursor = v.cursor; writes = v.writes; first = r.first; overlap = r.overlap })
      pages_leaves ws2 used2 lists2 v k3 al e m =
          let q = k3 al e m in
          let anew = relisted_anew z al (merge_of z ws xs lists meets) 1 ws ws2 used2 lists lists2 v q k.proper (omega arith) k.proper.valid.ranged.h_low k.lists_long lower_few in
          rw (settled al)
          (record {
            words = q.leaves.words;
            above = refl;
            below = lower_leaves z _ 1 ws ws2 used2 q.out lists lists2 v q.leaves anew w above under r ch _ _;
            kept = anew.others;
            writes = q.leaves.writes;
          })
