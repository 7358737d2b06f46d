-- What holds of each merge and each compaction of a call (document 01, "A merge from level i to i + 1", "The merges of a call").
use Rattle.std.specs.Prelude.{ℕ, suc, ◌+◌, ◌<◌, ◌≤◌, ◌≡◌, true, ◌⊎◌, length}
use mathlib.Core.List.{List, Memᴰ}
use Rattle.geometry.specs.declared.Geometry.{Geometry}
use Rattle.geometry.specs.Geometry.{capacity_of, window_of}
use Rattle.levels.specs.Record.{Level, records}
use Rattle.levels.specs.Rising.{Rising}
use Rattle.levels.specs.Well.{Well}
use Rattle.levels.specs.Choose.{choose}
use Rattle.levels.specs.Basics.{ceil_div}
use Rattle.levels.specs.Waste.{needs_compact}
use Rattle.levels.specs.Place.{places_of}
use Rattle.levels.specs.Store.{Store, rows, blocks_of, used_in, allocation_of}
use Rattle.levels.specs.Call.{Compaction, compact_level, after_compactions, Merge, merge_level, after_merge, Follows}
use Rattle.levels.specs.Taking.{Changed}
use Rattle.levels.specs.Every.{Every, all_blocks}
use Rattle.levels.specs.Sound.{BlockFits}
use Rattle.levels.specs.Inside.{Inside, Ruled, load}
use Rattle.levels.specs.Count.{above_of, under_of, overlap_of}

-- what is asked of the two levels and of the run: they are well filled and sorted, and the run is w blocks of the upper one
pub record Mergeable (B w first : ℕ) (above under : Level) : Type 0 where
  pub block : 1 ≤ B
  pub some_run : 1 ≤ w
  pub whole : first + w ≤ length above
  pub above_well : Well B above
  pub under_well : Well B under
  pub above_sorted : Rising 0 (records above)
  pub under_sorted : Rising 0 (records under)

-- what is asked of the two levels when level i is at its capacity or over it, and level i + 1 is not over its own
pub record Due (g : Geometry) (i : ℕ) (above under : Level) : Type 0 where
  pub above_well : Well g.b above
  pub under_well : Well g.b under
  pub above_sorted : Rising 0 (records above)
  pub under_sorted : Rising 0 (records under)
  pub full : capacity_of g i ≤ length above
  pub roomy : length under ≤ capacity_of g (suc i)

-- All about one compaction of a call: it was needed, and what holds at its start and at its end.
pub record CompactionFacts (g : Geometry) (e : Store) (c : Compaction) : Type 0 where
  pub level_low : 1 ≤ c.level
  pub level_high : c.level ≤ g.h
  -- it is the compaction of its level in the store at its start, and was needed
  pub is : c ≡ compact_level g c.level c.start
  pub needed : needs_compact g.b (blocks_of g c.level c.start) ≡ true
  pub start_inside : Inside g e c.start
  pub finish_inside : Inside g e c.finish
  -- it changes no row
  pub same_rows : rows c.finish ≡ rows c.start
  -- a free place at each taking, each place taken is the first free one after the cursor, and each block written takes one
  pub room : length (used_in c.start) + length c.written < g.p
  pub changed : Changed g.p (allocation_of c.start) (used_in c.finish) (places_of c.written)
  pub takes_each : length (places_of c.written) ≡ length c.written
  -- each block at the end is one that was there, or is written; and those written are fit to be listed
  pub stays : Every (λ b. Memᴰ b (all_blocks c.start.levels) ⊎ Memᴰ b c.written) (all_blocks c.finish.levels)
  pub written_fit : Every (BlockFits g) c.written
  -- "all records anew, B to a block, the last with the rest"
  pub writes : length c.written ≡ ceil_div (length (records (blocks_of g c.level c.start))) g.b

-- What compactions leave: all about each, and what holds after them. Level 0 is not touched, and no row changes.
pub record Stepped (g : Geometry) (e s : Store) (cs : List Compaction) : Type 0 where
  pub facts : Every (CompactionFacts g e) cs
  pub follows : Follows s cs
  pub inside : Inside g e (after_compactions s cs)
  pub same_rows : rows (after_compactions s cs) ≡ rows s

-- All about one merge of a call that began with the store e.
pub record MergeFacts (g : Geometry) (e : Store) (m : Merge) : Type 0 where
  pub level_high : m.level < g.h
  -- it is the merge out of its level of the store at its start, of the chosen run of W(i) blocks
  pub is : m ≡ merge_level g m.level m.start
  pub window_is : m.window ≡ window_of g m.level
  pub first_is : m.first ≡ (choose m.window (above_of g m) (under_of g m)).at
  -- level i holds K(i) blocks or more, level i + 1 at most K(i + 1), both well filled and sorted; so the run can be merged
  pub due : Due g m.level (above_of g m) (under_of g m)
  pub mergeable : Mergeable g.b m.window m.first (above_of g m) (under_of g m)
  -- "The level below is never over its capacity when a merge starts", nor any deeper one
  pub below_within : (i : ℕ) → m.level < i → i ≤ g.h → length (blocks_of g i m.start) ≤ capacity_of g i
  pub start_inside : Inside g e m.start
  pub finish_inside : Inside g e m.finish
  -- a free place at each taking, each place taken is the first free one after the cursor, and each block written takes one
  pub room : length (used_in m.start) + length m.written < g.p
  pub changed : Changed g.p (allocation_of m.start) (used_in m.finish) (places_of m.written)
  pub takes_each : length (places_of m.written) ≡ length m.written
  -- each block at the end is one that was there, or is written; and those written are fit to be listed
  pub stays : Every (λ b. Memᴰ b (all_blocks m.start.levels) ⊎ Memᴰ b m.written) (all_blocks m.finish.levels)
  pub written_fit : Every (BlockFits g) m.written
  -- it writes at most w + q + 1 blocks, and out of level 0 at most w + q
  pub writes : length m.written ≤ m.window + overlap_of g m + 1
  pub writes_top : m.level ≡ 0 → length m.written ≤ m.window + overlap_of g m
  -- step 5: all about its compactions; afterwards no level needs compacting
  pub five : Stepped g e m.finish m.compactions
  pub after_ruled : Ruled g (after_merge m)
  -- the sum over all records of the levels below theirs falls
  pub falls : load (rows (after_merge m)) < load (rows m.start)

-- Step 6: "While a level holds more than K blocks, the deepest such merges next." At the start of m its level holds more than K blocks, and no level between
-- it and h does, h with them. So it is not out of level 0, which holds K(0) pages at most.
pub record Deepest (g : Geometry) (m : Merge) : Type 0 where
  pub listed : 1 ≤ m.level
  pub over : capacity_of g m.level < length (blocks_of g m.level m.start)
  pub deepest : (i : ℕ) → m.level < i → i ≤ g.h → length (blocks_of g i m.start) ≤ capacity_of g i
