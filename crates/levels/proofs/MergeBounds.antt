-- Demand 3's claims about each merge of a call: the chosen run, its overlap, the blocks written; the lengths of the lists; the map.
use Prim.Native.Nat.{ℕ, zero, suc, ◌+◌, ◌*◌, ◌/◌, ◌<◌, ◌≤◌}
use mathlib.Core.Path.{◌≡◌, sym, ◌∙◌, ap, subst}
use mathlib.Core.Bool.{false}
use mathlib.Core.List.{List, []}
use native.Mathlib.Omega.{arith}
use native.Mathlib.Decide.{dec_lt}
use lib.ListN.{length, take, drop, get_or}
use Rattle.geometry.specs.declared.Geometry.{Geometry}
use Rattle.geometry.specs.Geometry.{Valid, capacity_of, window_of}
use Rattle.geometry.proofs.Laws.{window_low, window_grows}
use Rattle.levels.specs.Basics.{ceil_div}
use Rattle.levels.specs.Record.{Level, records}
use Rattle.levels.specs.Map.{map_of}
use Rattle.levels.specs.Choose.{overlap, choose}
use Rattle.levels.specs.Waste.{needs_compact, compact}
use Rattle.levels.specs.Place.{places_of}
use Rattle.levels.specs.Store.{Store, rows, blocks_of, used_in, allocation_of}
use Rattle.levels.specs.Call.{Compaction, compact_level, Merge, merge_run, merge_level, after_merge, after_merges}
use Rattle.levels.specs.Count.{above_of, under_of, above_count, under_count, run_of, overlap_of, blocks_merged, blocks_compacted}
use Rattle.levels.specs.Taking.{Takes, Changed, hand_after, FoundFree}
use Rattle.levels.specs.Inside.{Entry}
use Rattle.levels.specs.InCall.{CompactionFacts, MergeFacts}
use Rattle.levels.proofs.View.{same_map}
use Rattle.levels.proofs.Levels.{sized_filled, rising_ordered}
use Rattle.levels.proofs.Choice.{IsChoice, choose_is}
use Rattle.levels.proofs.Overlap.{window_fits, choose_bound, choose_window}
use Rattle.levels.proofs.Places.{takes_below, takes_unused, takes_distinct, changed_newly}
use Rattle.levels.proofs.Settling.{settle_hand}
use Rattle.levels.proofs.MergeRun.{run_hand}
use Rattle.levels.proofs.Inside.{inside_bottom, inside_map}
use Rattle.levels.proofs.CompactInside.{compaction_newly}
use Rattle.levels.proofs.InCall.{ListFacts}

-- every write found a free place, where the places taken are each the first free one after the cursor
pub found_free : (P : ℕ) (start finish : Store) (written : Level) → length (places_of written) ≡ length written → Changed P (allocation_of start) (used_in finish) (places_of written)
    → finish.cursor ≡ hand_after start.cursor (places_of written) → length (used_in start) + length written < P → FoundFree P start finish written
found_free P start finish written e c h r = record {
  each = e;
  first_free = c.takes;
  below = takes_below P (allocation_of start) (places_of written) c.takes;
  unused = takes_unused P (allocation_of start) (places_of written) c.takes;
  once = takes_distinct P (allocation_of start) (places_of written) c.takes;
  hand = h;
  room = r;
  newly = changed_newly P (allocation_of start) (used_in finish) (places_of written) c ∙ e;
}

level_hand : (g : Geometry) (i : ℕ) (s : Store) → let m = merge_level g i s in m.finish.cursor ≡ hand_after m.start.cursor (places_of m.written)
unfolding merge_level merge_run
level_hand g i s = run_hand g i (window_of g i) (choose (window_of g i) (blocks_of g i s) (blocks_of g (suc i) s)).at s

compact_hand : (g : Geometry) (i : ℕ) (s : Store) → let c = compact_level g i s in c.finish.cursor ≡ hand_after c.start.cursor (places_of c.written)
unfolding compact_level
compact_hand g i s = settle_hand g.p (allocation_of s) (compact g.b (blocks_of g i s))

module _ (g : Geometry) (e : Store) (m : Merge) (v : Valid g) (f : MergeFacts g e m) where
  window_some : 1 ≤ m.window
  window_some = omega (arith, f.window_is, window_low g v.ranged m.level)

  -- a run of W(i) neighbours is there
  pub window_inside : m.window ≤ above_count g m
  unfolding above_count
  window_inside = omega (arith, f.window_is, window_fits g m.level (length (above_of g m)) v.ranged f.due.full)

  choice : IsChoice m.window (above_of g m) (under_of g m) (choose m.window (above_of g m) (under_of g m))
  unfolding above_count
  choice = choose_is m.window (above_of g m) (under_of g m) window_some window_inside

  -- q is the overlap that the choice found
  pub overlap_is : overlap_of g m ≡ (choose m.window (above_of g m) (under_of g m)).value
  unfolding overlap_of run_of
  overlap_is = ap (λ (j : ℕ). overlap (under_of g m) (take m.window (drop j (above_of g m)))) f.first_is ∙ choice.overlaps

  -- Demand 3: "every other run of w neighbours in that level overlaps at least q blocks below"
  pub run_fewest : (j : ℕ) → j + m.window ≤ above_count g m → overlap_of g m ≤ overlap (under_of g m) (take m.window (drop j (above_of g m)))
  unfolding above_count
  run_fewest j h = omega (arith, overlap_is, choice.fewest j h)

  -- X is a run of w neighbours
  pub run_inside : m.first + m.window ≤ above_count g m
  unfolding above_count
  run_inside = f.mergeable.whole

  -- "of equals, the one with the lowest keys": every run before it overlaps more
  pub run_lowest : (j : ℕ) → j < m.first → overlap_of g m < overlap (under_of g m) (take m.window (drop j (above_of g m)))
  run_lowest j h = omega (arith, overlap_is, choice.lowest j (omega (arith, f.first_is)))

  -- so a run with the same overlap does not begin before it
  pub run_first : (j : ℕ) → overlap (under_of g m) (take m.window (drop j (above_of g m))) ≡ overlap_of g m → m.first ≤ j
  run_first j e = go (dec_lt j m.first)
    where
      go : Dec (j < m.first) → m.first ≤ j
      go (no n) = omega arith
      go (yes l) = absurd (omega (arith, e, run_lowest j l))

  -- "q is at most n divided by the whole part of a/w, rounded up"
  pub overlap_most : overlap_of g m ≤ ceil_div (under_count g m) (above_count g m / m.window)
  unfolding above_count under_count
  overlap_most =
      let oa = rising_ordered 0 (above_of g m) (sized_filled g.b (above_of g m) f.due.above_well.sized) f.due.above_sorted in
      let ou = rising_ordered 0 (under_of g m) (sized_filled g.b (under_of g m) f.due.under_well.sized) f.due.under_sorted in
      omega (arith, overlap_is, choose_bound m.window 0 0 (above_of g m) (under_of g m) oa ou window_some window_inside)

  -- q is at most G × w
  pub overlap_growth : overlap_of g m ≤ g.g * m.window
  overlap_growth =
      let oa = rising_ordered 0 (above_of g m) (sized_filled g.b (above_of g m) f.due.above_well.sized) f.due.above_sorted in
      let ou = rising_ordered 0 (under_of g m) (sized_filled g.b (under_of g m) f.due.under_well.sized) f.due.under_sorted in
      let c = choose_window g m.level 0 0 (above_of g m) (under_of g m) v.ranged oa ou f.due.full f.due.roomy in
      let k = ap (λ (w : ℕ). (choose w (above_of g m) (under_of g m)).value) f.window_is in
      omega (arith, overlap_is, k, c, window_grows g m.level, ap (λ (w : ℕ). g.g * w) f.window_is)

  -- "Blocks written by a merge are the places in use at its end that were not in use at its start": those in the list of blocks written.
  pub merge_written : blocks_merged m ≡ length m.written
  unfolding blocks_merged
  merge_written = changed_newly g.p (allocation_of m.start) (used_in m.finish) (places_of m.written) f.changed ∙ f.takes_each

  -- demand 3: "the merge writes at most w + q + 1 blocks"
  pub merge_writes_most : blocks_merged m ≤ m.window + overlap_of g m + 1
  merge_writes_most = omega (arith, merge_written, f.writes)

  -- out of level 0 it writes one fewer
  pub top_writes_most : m.level ≡ 0 → blocks_merged m ≤ m.window + overlap_of g m
  top_writes_most z = omega (arith, merge_written, f.writes_top z)

  -- so never more than (G + 1) × w
  pub top_writes_growth : m.level ≡ 0 → blocks_merged m ≤ (g.g + 1) * m.window
  top_writes_growth z = omega (arith, top_writes_most z, overlap_growth)

  -- "so never more than (G + 1) × w + 1"
  pub merge_writes_growth : blocks_merged m ≤ (g.g + 1) * m.window + 1
  merge_writes_growth = omega (arith, merge_writes_most, overlap_growth)

  -- After its step 5 level h is within K(h)
  pub merge_bottom : Entry g e → length (blocks_of g g.h (after_merge m)) ≤ capacity_of g g.h
  merge_bottom t = inside_bottom g e (after_merge m) f.five.inside v t f.after_ruled

  -- every list is at most 2 × K(i) long, when it starts, when it ends and after its step 5
  pub merge_lists : (j : ℕ) → (length (get_or m.start.levels j []) ≤ 2 * capacity_of g (suc j)) × (length (get_or m.finish.levels j []) ≤ 2 * capacity_of g (suc j)) × (length (get_or (after_merge m).levels j []) ≤ 2 * capacity_of g (suc j))
  merge_lists j = (f.start_inside.doubled j, f.finish_inside.doubled j, f.five.inside.doubled j)

  -- Each block written takes the first free place after the cursor
  pub merge_takes : Takes g.p (allocation_of m.start) (places_of m.written)
  merge_takes = f.changed.takes

  -- "hand moves there": at the end it is the place last taken
  merge_hand : m.finish.cursor ≡ hand_after m.start.cursor (places_of m.written)
  merge_hand = subst (λ (x : Merge). x.finish.cursor ≡ hand_after x.start.cursor (places_of x.written)) (sym f.is) (level_hand g m.level m.start)

  -- so every write found a free place
  pub merge_found : FoundFree g.p m.start m.finish m.written
  merge_found = found_free g.p m.start m.finish m.written f.takes_each f.changed merge_hand f.room

  -- after its step 5 no level needs compacting
  pub merge_ruled : (i : ℕ) → 1 ≤ i → needs_compact g.b (blocks_of g i (after_merge m)) ≡ false
  merge_ruled zero l = absurd (omega arith)
  merge_ruled (suc j) l = f.after_ruled j

  -- A merge leaves the map
  pub merge_map : map_of (rows (after_merge m)) ≡ map_of (rows m.start)
  merge_map = same_map (rows (after_merge m)) (rows m.start) f.five.inside.sorted f.start_inside.sorted (λ k. f.five.inside.looks k ∙ sym (f.start_inside.looks k))

-- and so of a compaction
module _ (g : Geometry) (e : Store) (c : Compaction) (f : CompactionFacts g e c) where
  pub compaction_map : map_of (rows c.finish) ≡ map_of (rows c.start)
  compaction_map = ap map_of f.same_rows

  -- it writes R/B blocks, rounded up
  pub compaction_writes : blocks_compacted c ≡ ceil_div (length (records (blocks_of g c.level c.start))) g.b
  compaction_writes = compaction_newly g e c f ∙ f.writes

  pub compaction_lists : (j : ℕ) → length (get_or c.finish.levels j []) ≤ 2 * capacity_of g (suc j)
  compaction_lists j = f.finish_inside.doubled j

  pub compaction_takes : Takes g.p (allocation_of c.start) (places_of c.written)
  compaction_takes = f.changed.takes

  compaction_hand : c.finish.cursor ≡ hand_after c.start.cursor (places_of c.written)
  compaction_hand = subst (λ (x : Compaction). x.finish.cursor ≡ hand_after x.start.cursor (places_of x.written)) (sym f.is) (compact_hand g c.level c.start)

  pub compaction_found : FoundFree g.p c.start c.finish c.written
  compaction_found = found_free g.p c.start c.finish c.written f.takes_each f.changed compaction_hand f.room

-- and of the whole list
pub list_map : (g : Geometry) (e s : Store) (ms : List Merge) → Entry g e → ListFacts g e s ms → map_of (rows (after_merges s ms)) ≡ map_of (rows e)
list_map g e s ms t l = inside_map g e (after_merges s ms) l.inside t.sorted
