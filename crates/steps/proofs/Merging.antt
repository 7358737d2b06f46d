-- A merge without its step 5, on words and lists.
use Prim.Native.Nat.{ℕ, suc, ◌+◌, ◌*◌, ◌≤◌, ◌<◌}
use mathlib.Core.Path.{◌≡◌, refl, sym, ap, ◌∙◌, subst}
use mathlib.Core.Bool.{Bool, true, false}
use mathlib.Core.List.{List, [], map}
use mathlib.Core.Logic.{◌≢◌}
use native.Mathlib.Decide.{ℕ_discrete}
use native.Mathlib.Omega.{arith}
use lib.Dec.{eqb}
use lib.ListN.{length, get_or, set, length-set}
use lib.Seq.{get_or-set_same, get_or-set_other}
use Rattle.geometry.specs.Geometry.{window_of}
use Rattle.geometry.proofs.Laws.{level_high}
use Rattle.levels.specs.Basics.{if◌then◌otherwise◌}
use Rattle.levels.specs.Record.{Level}
use Rattle.levels.specs.Choose.{choose}
use Rattle.levels.specs.Choose as choosing
use Rattle.levels.specs.Place.{Allocation, Settled}
use Rattle.levels.specs.Store.{Store, blocks_of, used_in, allocation_of}
use Rattle.levels.specs.Call.{Merge, merge_cut, merge_run, merge_level}
use Rattle.levels.specs.Count.{blocks_merged, above_of, under_of, overlap_of}
use Rattle.levels.specs.Count as levels
use Rattle.levels.specs.declared.Ticket.{Ticket}
use Rattle.levels.specs.Tickets.{ticket_of}
use Rattle.levels.specs.InCall.{Due, MergeFacts}
use Rattle.levels.specs.Inside.{Inside}
use Rattle.levels.proofs.Capacity.{window_half, window_capacity_half}
use Rattle.levels.proofs.Chosen.{due_double}
use Rattle.levels.proofs.Levels.{rising_ordered, sized_filled}
use Rattle.levels.proofs.Overlap.{window_fits, choose_window}
use Rattle.levels.proofs.Room.{merge_room_numbers}
use Rattle.levels.proofs.Settling.{settle_length}
use Rattle.levels.proofs.StoreRows.{set_at}
use Rattle.levels.proofs.Inside.{inside_used}
use Rattle.levels.proofs.MergeBounds.{overlap_is, merge_written}
use Rattle.levels.proofs.InCall.{merge_level_lem}
use Rattle.words.specs.Stores.{place_of}
use Rattle.lists.specs.Flat.{part_room}
use Rattle.lists.specs.Lists.{Listed, places_at}
use Rattle.lists.specs.Holds.{HoldsBut}
use Rattle.lists.proofs.Flat.{part_fits}
use Rattle.lists.proofs.Arrays.{At, at_new, at_other, at_kept}
use Rattle.lists.proofs.Laws.{but_blocks}
use Rattle.words.proofs.Steps.{standing_merge}
use Rattle.blocks.specs.Blocks.{Marks}
use Rattle.pair.specs.declared.Step.{Step}
use Rattle.pair.specs.Contract.{listed, cut_of, upper_after, lower_after, PairReady, PairLeaves, PairMerged}
use Rattle.steps.specs.declared.Run.{Run}
use Rattle.steps.specs.declared.Ticketed.{Ticketed}
use Rattle.steps.specs.Running.{Tally, store_of, Marking, counted, Grown, Leaving, merged_counts, StepReady, LevelMerged}
use Rattle.steps.proofs.Standing.{inside_short, places_new, stand, top_fits_lem, held_words, level_is, entries_are, stored}
use Rattle.steps.proofs.Compacting.{grown_counted}
use Rattle.layout.specs.Layouts.{Proper}
use Rattle.layout.specs.declared.Layout.{Layout}

-- Of a merge out of level i of the store t that is due: what the choice and its numbers say.
module _ (z : Layout) (e t : Store) (i : ℕ) (v : Proper z) (f : MergeFacts z.geo e (merge_level z.geo i t)) where
  pub start_due : Due z.geo i (blocks_of z.geo i t) (blocks_of z.geo (suc i) t)
  unfolding merge_level merge_run above_of under_of
  start_due = f.due

  pub start_inside : Inside z.geo e t
  unfolding merge_level merge_run
  start_inside = f.start_inside

  pub level_low : i < z.geo.h
  unfolding merge_level merge_run
  level_low = f.level_high

  pub due_window : window_of z.geo i ≤ length (blocks_of z.geo i t)
  due_window = window_fits z.geo i (length (blocks_of z.geo i t)) v.valid.ranged start_due.full

  due_overlap : (choose (window_of z.geo i) (blocks_of z.geo i t) (blocks_of z.geo (suc i) t)).value ≤ window_of z.geo (suc i)
  due_overlap =
      let d = start_due in
      choose_window z.geo i 0 0 (blocks_of z.geo i t) (blocks_of z.geo (suc i) t) v.valid.ranged
      (rising_ordered 0 (blocks_of z.geo i t) (sized_filled z.geo.b (blocks_of z.geo i t) d.above_well.sized) d.above_sorted)
      (rising_ordered 0 (blocks_of z.geo (suc i) t) (sized_filled z.geo.b (blocks_of z.geo (suc i) t) d.under_well.sized) d.under_sorted)
      d.full d.roomy

  -- there are free places, and room in the list
  pub due_free : length (used_in t) + (window_of z.geo i + (choose (window_of z.geo i) (blocks_of z.geo i t) (blocks_of z.geo (suc i) t)).value) + 2 ≤ z.geo.p
  due_free =
      let q : ℕ = (choose (window_of z.geo i) (blocks_of z.geo i t) (blocks_of z.geo (suc i) t)).value in
      omega (arith, merge_room_numbers z.geo i (length (used_in t)) (window_of z.geo i + q + 1) v.valid level_low (inside_used z.geo e t start_inside) (omega (arith, due_overlap)))

  pub due_room : length (blocks_of z.geo (suc i) t) + 2 * (window_of z.geo i + (choose (window_of z.geo i) (blocks_of z.geo i t) (blocks_of z.geo (suc i) t)).value) + 2 ≤ 4096
  due_room =
      omega (arith, start_due.roomy, due_overlap, window_half z.geo v.valid.ranged i, window_capacity_half z.geo v.valid.ranged (suc i), level_high z.geo v.valid {i = suc i} level_low)

  pub due_fits : (al : Allocation) → length (lower_after z i al (cut_of z i (blocks_of z.geo i t) (blocks_of z.geo (suc i) t))).level ≤ part_room z.geo.h (suc i)
  unfolding lower_after
  due_fits al = rw settle_length (part_fits z v (suc i) _ level_low (due_double z.geo i (blocks_of z.geo i t) (blocks_of z.geo (suc i) t) v.valid.ranged start_due (eqb (suc i) z.geo.h))).0

  -- no count of blocks is high
  pub merged_few : length (merge_level z.geo i t).written ≤ 8192
  merged_few = omega (arith, f.room, v.valid.places_high)

  -- the counts of the merge
  pub merged_grown : (tally u : Tally) (k n : ℕ) → length tally ≡ 3 → k ≡ suc i → n ≡ length (merge_level z.geo i t).written → u ≡ counted tally k (record { merges = 1; written = n; compacted = 0 }) → Grown (merged_counts (merge_level z.geo i t)) tally u
  merged_grown tally u k n long ek en eu =
      let b : blocks_merged (merge_level z.geo i t) ≡ n = merge_written z.geo e (merge_level z.geo i t) v.valid f ∙ sym en in
      grown_counted (merged_counts (merge_level z.geo i t)) tally u k i (record { merges = 1; written = n; compacted = 0 }) ek (omega (arith, ek, level_low, v.valid.ranged.h_high)) (omega (arith, long, level_low, v.valid.ranged.h_high)) eu
      (λ x. ap (λ (y : ℕ). of y (blocks_merged (merge_level z.geo i t)) x) (ap suc (merge_level_lem z.geo i t) ∙ sym ek) ∙ ap (λ (y : ℕ). of k y x) b ∙ pick (eqb k x) n)
    where
      of : ℕ → ℕ → ℕ → levels.Counts
      of l n x = record { merges = if eqb l x then 1 otherwise 0; written = if eqb l x then n otherwise 0; compacted = 0 }

      pick : (b : Bool) (n : ℕ) → ◌≡◌ {A = levels.Counts} (record { merges = if b then 1 otherwise 0; written = if b then n otherwise 0; compacted = 0 }) (if b then (record { merges = 1; written = n; compacted = 0 }) otherwise (record { merges = 0; written = 0; compacted = 0 }))
      pick true n = refl
      pick false n = refl

  -- the numbers of its ticket are words
  pub merged_words : (first overlap : ℕ) → first ≡ (choose (window_of z.geo i) (blocks_of z.geo i t) (blocks_of z.geo (suc i) t)).at → overlap ≡ (choose (window_of z.geo i) (blocks_of z.geo i t) (blocks_of z.geo (suc i) t)).value
      → length (blocks_of z.geo i t) ≤ 2048 → (first ≤ 8192) × (overlap ≤ 8192)
  unfolding merge_level merge_run above_of under_of
  merged_words first overlap ef eo h =
      (omega (arith, ef, f.mergeable.whole), omega (arith, eo, due_overlap, window_capacity_half z.geo v.valid.ranged (suc i), level_high z.geo v.valid {i = suc i} level_low))

  -- its ticket, by the chosen run and the blocks written
  pub merged_ticket : (l first overlap n : ℕ) (x : Ticket) → l ≡ i → first ≡ (choose (window_of z.geo i) (blocks_of z.geo i t) (blocks_of z.geo (suc i) t)).at → overlap ≡ (choose (window_of z.geo i) (blocks_of z.geo i t) (blocks_of z.geo (suc i) t)).value
      → n ≡ length (merge_level z.geo i t).written → x ≡ record { level = l; first = first; overlap = overlap; written = n } → x ≡ ticket_of z.geo (merge_level z.geo i t)
  unfolding ticket_of merge_level merge_run above_of under_of
  merged_ticket l first overlap n x el ef eo en ex =
      let m : Merge = merge_level z.geo i t in
      ex ∙ ap (λ (y : ℕ). of y first overlap n) el ∙ ap (λ (y : ℕ). of i y overlap n) ef ∙ ap (λ (y : ℕ). of i m.first y n) (eo ∙ sym (overlap_is z.geo e m v.valid f)) ∙ ap (λ (y : ℕ). of i m.first (overlap_of z.geo m) y) (en ∙ sym (merge_written z.geo e m v.valid f))
    where
      of : ℕ → ℕ → ℕ → ℕ → Ticket
      of l first overlap n = record { level = l; first = first; overlap = overlap; written = n }

-- what a merge out of level j + 1 leaves alone: the levels other than that and the next, and level 0
merge_keeps : (z : Layout) (t : Store) (j x : ℕ) → x ≢ j → x ≢ suc j → get_or (merge_level z.geo (suc j) t).finish.levels x [] ≡ get_or t.levels x []
unfolding merge_level merge_run merge_cut
merge_keeps z t j x a b =
    set_at [] (λ l. l ≡ get_or t.levels x []) (set t.levels j _) (suc j) _ x (λ y. absurd (b y))
    (set_at [] (λ l. l ≡ get_or t.levels x []) t.levels j _ x (λ y. absurd (a y)) refl)

-- A merge from level j + 1 to level j + 2.
module _ (z : Layout) (ws lists : List ℕ) (level : ℕ) (r : Run) (k : StepReady 2000000000 z ws lists level r) (used : List Bool) (m : Marking used (store_of z ws lists r)) (j : ℕ) (el : level ≡ suc j) where
  abbrev t : Store
  t = store_of z ws lists r

  facts : MergeFacts z.geo k.entry (merge_level z.geo (suc j) t)
  facts = subst (λ (i : ℕ). MergeFacts z.geo k.entry (merge_level z.geo i t)) el k.facts

  inside : Inside z.geo k.entry t
  inside = start_inside z k.entry t (suc j) k.proper facts

  low : suc j < z.geo.h
  low = level_low z k.entry t (suc j) k.proper facts

  abbrev a : ℕ
  a = get_or r.ns j 0

  above_is : listed z ws lists (suc j) a ≡ get_or t.levels j []
  above_is = level_is z k.entry t ws lists r k.proper inside k.stands j (omega (arith, low))

  under_is : listed z ws lists (suc (suc j)) (get_or r.ns (suc j) 0) ≡ get_or t.levels (suc j) []
  under_is = level_is z k.entry t ws lists r k.proper inside k.stands (suc j) low

  abbrev cut : choosing.Cut
  cut = cut_of z (suc j) (get_or t.levels j []) (get_or t.levels (suc j) [])

  -- the two levels afterwards
  abbrev us : Settled
  us = upper_after z (suc j) (allocation_of t) cut

  abbrev ls : Settled
  ls = lower_after z (suc j) us.allocation cut

  abbrev o : Store
  o = (merge_level z.geo (suc j) t).finish

  upper_is : get_or o.levels j [] ≡ us.level
  unfolding upper_after lower_after merge_level merge_run merge_cut
  upper_is = set_at [] (λ l. l ≡ us.level) (set t.levels j us.level) (suc j) ls.level j (λ q. absurd (omega (arith, q))) (get_or-set_same t.levels j us.level [] (omega (arith, inside.many, low)))

  lower_is : get_or o.levels (suc j) [] ≡ ls.level
  unfolding upper_after lower_after merge_level merge_run merge_cut
  lower_is = get_or-set_same (set t.levels j us.level) (suc j) ls.level [] (omega (arith, inside.many, length-set t.levels j us.level, low))

  -- what `merge_pair` asks
  ready : PairReady z ws used lists (suc j) a (get_or r.ns (suc j) 0) r.cursor
  ready =
      let v = k.proper in
      let e = entries_are z k.entry t ws lists r v inside k.stands in
      let d = start_due z k.entry t (suc j) v facts in
      record {
        proper = v;
        words = k.stands.held.long;
        marks_long = m.1;
        lists_long = k.stands.listed.long;
        cursor_low = omega (arith, k.stands.cursor, inside.cursor);
        level_low = omega arith;
        level_high = low;
        window = omega (arith, e j (omega (arith, low)), due_window z k.entry t (suc j) v facts);
        above = stored z k.entry t ws lists r v inside k.stands j (omega (arith, low)) used m.0 d.above_sorted;
        under = stored z k.entry t ws lists r v inside k.stands (suc j) low used m.0 d.under_sorted;
        in_use = record { places = used_in t; marks = m.0 };
        free = rw (above_is, under_is) (due_free z k.entry t (suc j) v facts);
        room = rw (above_is, under_is, (e (suc j) low).1) (due_room z k.entry t (suc j) v facts);
        fits = rw (above_is, under_is) (due_fits z k.entry t (suc j) v facts);
      }

  pub two_ready : PairReady z ws used lists level (get_or r.ns j 0) (get_or r.ns level 0) r.cursor
  two_ready = subst (λ (i : ℕ). PairReady z ws used lists i a (get_or r.ns i 0) r.cursor) (sym el) ready

  module _ (ws' : List ℕ) (used' : List Bool) (lists' : List ℕ) (p : Step)
      (left : (al : Allocation) → al.cursor ≡ r.cursor → Marks used al.used → PairMerged z level (listed z ws lists level (get_or r.ns j 0)) (listed z ws lists (suc level) (get_or r.ns level 0)) al ws ws' used' lists lists' p) where
    left_is : PairLeaves z (suc j) us ls (choose (window_of z.geo (suc j)) (get_or t.levels j []) (get_or t.levels (suc j) [])) ws ws' used' lists lists' p
    left_is =
        let al = allocation_of t in
        subst (λ (x : Level). PairMerged z (suc j) (get_or t.levels j []) x al ws ws' used' lists lists' p) under_is
        (subst (λ (x : Level). PairMerged z (suc j) x (listed z ws lists (suc (suc j)) (get_or r.ns (suc j) 0)) al ws ws' used' lists lists' p) above_is
        (subst (λ (i : ℕ). PairMerged z i (listed z ws lists i a) (listed z ws lists (suc i) (get_or r.ns i 0)) al ws ws' used' lists lists' p) el (left al (sym k.stands.cursor) m.0)))

    writes_is : p.writes ≡ length (merge_level z.geo (suc j) t).written
    unfolding upper_after lower_after merge_level merge_run merge_cut
    writes_is = left_is.writes

    pub two_few : p.writes ≤ 8192
    two_few = omega (arith, writes_is, merged_few z k.entry t (suc j) k.proper facts)

    -- what `ticket` asks
    pub two_words : (level ≤ 8192) × ((p.first ≤ 8192) × ((p.overlap ≤ 8192) × (p.writes ≤ 8192)))
    two_words =
        let v = k.proper in
        let w = merged_words z k.entry t (suc j) v facts p.first p.overlap left_is.below.first left_is.below.overlap (omega (arith, inside_short z k.entry t v inside j)) in
        (omega (arith, el, low, v.valid.ranged.h_high), (w.0, (w.1, two_few)))

    -- the lists
    relisted : Listed z.geo.h z.geo.h lists' (set (set r.ns j p.above) (suc j) p.under) (places_at o)
    relisted =
        record {
          long = left_is.below.lists_long;
          three = length-set (set r.ns j p.above) (suc j) p.under ∙ one_long;
          counts = λ i l. (at i l (ℕ_discrete i j) (ℕ_discrete i (suc j))).0;
          places = λ i l. (at i l (ℕ_discrete i j) (ℕ_discrete i (suc j))).1;
          none = λ i l. get_or-set_other (set r.ns j p.above) (suc j) i p.under 0 (λ e. omega (arith, e, low)) ∙ get_or-set_other r.ns j i p.above 0 (λ e. omega (arith, e, low)) ∙ k.stands.listed.none i l;
        }
      where
        one_long : length (set r.ns j p.above) ≡ 3
        one_long = length-set r.ns j p.above ∙ k.stands.listed.three

        upper : At z.geo.h lists' (set r.ns j p.above) (places_at o) j
        upper = let q = places_new z k.entry o facts.finish_inside j us.level upper_is in at_new z.geo.h lists' r.ns (places_at o) j p.above (omega (arith, k.stands.listed.three, low, k.proper.valid.ranged.h_high)) (left_is.above ∙ q.1) (left_is.upper ∙ q.0)

        at : (i : ℕ) → i < z.geo.h → Dec (i ≡ j) → Dec (i ≡ suc j) → At z.geo.h lists' (set (set r.ns j p.above) (suc j) p.under) (places_at o) i
        at i l (yes e) d = rw e (at_other z.geo.h lists' (set r.ns j p.above) (places_at o) (suc j) p.under j (λ q. omega (arith, q)) upper)
        at i l (no x) (yes e) =
            let q = places_new z k.entry o facts.finish_inside (suc j) ls.level lower_is in
            rw e (at_new z.geo.h lists' (set r.ns j p.above) (places_at o) (suc j) p.under (omega (arith, one_long, low, k.proper.valid.ranged.h_high)) (left_is.below.under ∙ q.1) (left_is.below.lower ∙ q.0))
        at i l (no x) (no y) =
            at_other z.geo.h lists' (set r.ns j p.above) (places_at o) (suc j) p.under i y
            (at_other z.geo.h lists' r.ns (places_at o) j p.above i x
            (at_kept z.geo.h lists lists' r.ns (places_at t) (places_at o) i (left_is.kept (suc i) (omega arith) l (λ e. x (omega arith)) (λ e. y (omega arith))) (ap (map place_of) (merge_keeps z t j i x y))
            (k.stands.listed.counts i l, k.stands.listed.places i l)))

    pub two_merged : (u : Ticketed) (more : Tally) (ns : List ℕ) (x : Ticket) → more ≡ counted r.tally (level + 1) (record { merges = 1; written = p.writes; compacted = 0 }) → ns ≡ set (set r.ns j p.above) level p.under
        → x ≡ record { level = level; first = p.first; overlap = p.overlap; written = p.writes } → u ≡ record { run = record { ns = ns; cursor = p.cursor; tally = more }; ticket = x } → LevelMerged z level ws lists r ws' lists' u
    unfolding upper_after lower_after merge_level merge_run merge_cut
    two_merged u more ns x em en ex eu s es =
        let v = k.proper in
        let fits = top_fits_lem z t ws lists r k.stands in
        let held : HoldsBut z ws' o = rw left_is.words (but_blocks z ws (merge_level z.geo (suc j) t).written t o v k.stands.held refl refl fits (standing_merge z v k.entry (merge_level z.geo (suc j) t) ws k.stands.held.long facts k.stands.held.standing)) in
        let q : Leaving z o (merge_level z.geo (suc j) t).written (merged_counts (merge_level z.geo (suc j) t)) ws r ws' lists' (record { ns = set (set r.ns j p.above) (suc j) p.under; cursor = p.cursor; tally = more }) = record {
          stands = stand z k.entry o ws' lists' _ v facts.finish_inside held fits relisted left_is.below.cursor;
          words = held_words z o (merge_level z.geo (suc j) t).written ws ws' held left_is.words;
          counts = merged_grown z k.entry t (suc j) v facts r.tally more (level + 1) p.writes k.small.three (omega (arith, el)) writes_is em;
        } in
        rw (es, eu, en, el) (q, merged_ticket z k.entry t (suc j) v facts level p.first p.overlap p.writes x el left_is.below.first left_is.below.overlap writes_is ex)
