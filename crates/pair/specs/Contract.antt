-- Steps 1 to 4 of a merge between two levels, as the lists and the words have them: what is asked, and what is left.
use Rattle.std.specs.Prelude.{ℕ, suc, ◌+◌, ◌-◌, ◌*◌, ◌^◌, ◌≤◌, ◌<◌, ◌≡◌, Bool, true, false, List, ◌++◌, map, ◌≢◌, eqb, length, take, drop, get_or}
use Rattle.slices.specs.Slices.{put_at}
use Rattle.geometry.specs.Geometry.{window_of, capacity_of, top_capacity_of}
use Rattle.geometry.specs.Room.{places_most, list_room}
use Rattle.levels.specs.Record.{Level, records, rising, pages}
use Rattle.levels.specs.Choose.{Least, choose, cut_at}
use Rattle.levels.specs.Choose as choosing
use Rattle.levels.specs.Merge.{merge, close}
use Rattle.levels.specs.Place.{Allocation, Settled, settle, places_of}
use Rattle.words.specs.Stores.{word, block_at, top_recs, top_count_at, with_blocks}
use Rattle.lists.specs.Flat.{part_room, part_of}
use Rattle.choice.specs.declared.Stretch.{Stretch}
use Rattle.choice.specs.Fences.{Ordered, fence_of, stretch_of}
use Rattle.fences.specs.Reading.{Readable}
use Rattle.blocks.specs.Blocks.{Marks}
use Rattle.merging.specs.declared.Cut.{Cut}
use Rattle.merging.specs.declared.Merged.{Merged}
use Rattle.merging.specs.Contract.{ListedBlock, merge_of, Mergeable, Leaves}
use Rattle.pair.specs.declared.Picked.{Picked}
use Rattle.pair.specs.declared.Step.{Step}
use Rattle.layout.specs.Layouts.{Proper}
use Rattle.layout.specs.declared.Layout.{Layout}

-- the level of the n blocks that a place list names first
abbrev pub level_of : Layout → List ℕ → List ℕ → ℕ → Level
level_of z ws list n = map (block_at z ws) (take n list)

-- a list of the places in use, which the marks stand for
pub record InUse (used : List Bool) : Type 0 where
  pub places : List ℕ
  pub marks : Marks used places

-- the run that is chosen, and where Y lies below it
pub record Chosen (w : ℕ) (above under : Level) (r : Picked) : Type 0 where
  pub first : r.first ≡ (choose w above under).at
  pub overlap : r.overlap ≡ (choose w above under).value
  pub stretch : ◌≡◌ {A = Stretch} (record { start = r.start; end = r.end }) (stretch_of (take w (drop r.first (map fence_of above))) (map fence_of under))

-- Where X and Y stand, in an array that has the lower level's list of n entries from entry `at` on:
-- in step 2, when the run of w blocks has left a list of n entries: nothing of X, nothing of Y
abbrev pub gap_at : ℕ → ℕ → ℕ → Picked → Cut
gap_at w at n r = record { x = 0; xend = 0; start = at; y = at + r.first; yend = at + r.first; end = at + (n - w); pages = false; bottom = false }

-- in steps 3 and 4
abbrev pub meets_at : ℕ → ℕ → ℕ → Bool → Bool → Picked → Cut
meets_at w at n pages bottom r = record { x = r.first; xend = r.first + w; start = at; y = at + r.start; yend = at + r.end; end = at + n; pages = pages; bottom = bottom }

-- the blocks that a list names can be read, and lie in key order
pub record Readables (z : Layout) (ws list : List ℕ) : Type 0 where
  pub high : length list ≤ 2048
  pub read : (k : ℕ) → k < length list → Readable z ws (word list k)
  pub ordered : Ordered 0 (map fence_of (map (block_at z ws) list))

-- the two levels of a merge, cut for the chosen run of level i
abbrev pub cut_of : Layout → ℕ → Level → Level → choosing.Cut
cut_of z i above under = cut_at (window_of z.geo i) (choose (window_of z.geo i) above under).at above under

-- step 2 of a merge from level i: what is left of level i, with places
unfoldable pub upper_after : Layout → ℕ → Allocation → choosing.Cut → Settled
upper_after z i a c = settle z.geo.p a (close z.geo.b i c.left c.right)

-- steps 3 and 4 of a merge from level i: level i + 1 then, with places
unfoldable pub lower_after : Layout → ℕ → Allocation → choosing.Cut → Settled
lower_after z i a c = settle z.geo.p a (merge z.geo.b (eqb (suc i) z.geo.h) c.before c.run c.over c.behind)

-- n listed blocks of a place list in key order, all of them standing
pub record Stored (z : Layout) (ws : List ℕ) (used : List Bool) (list : List ℕ) (n : ℕ) : Type 0 where
  pub long : n ≤ length list
  pub high : n ≤ 2048
  pub blocks : (k : ℕ) → k < n → ListedBlock z ws used (get_or list k 0)
  pub rises : rising 0 (records (level_of z ws list n)) ≡ true

-- what a merge within one array of lists asks: the new list has room behind where the old one begins
pub record Relistable (z : Layout) (ws : List ℕ) (used : List Bool) (lists xs : List ℕ) (c : Cut) (cursor : ℕ) : Type 0 where
  pub in_use : InUse used
  pub lists_long : length lists ≡ list_room
  pub mergeable : (out : List ℕ) → length out ≡ list_room → Mergeable z ws used out xs lists c cursor
  pub fits : c.start + length (merge_of z ws xs lists c) ≤ list_room

-- what it leaves: the new list is put where the old one began
pub record Relisted (z : Layout) (st : Settled) (at : ℕ) (ws ws' : List ℕ) (used' : List Bool) (lists lists' : List ℕ) (r : Merged) : Type 0 where
  pub out : List ℕ
  pub leaves : Leaves z st ws ws' used' out r
  pub put : lists' ≡ put_at at (places_of st.level) lists

-- level i, n blocks that its part of the lists names
abbrev pub listed : Layout → List ℕ → List ℕ → ℕ → ℕ → Level
listed z ws lists i n = level_of z ws (part_of z.geo.h lists i) n

-- what a merge from level i asks: q is the overlap of the chosen run, and each block of X and Y and step 2 may take a place; what the merge leaves of level i + 1 has room in its part
pub record PairReady (z : Layout) (ws : List ℕ) (used : List Bool) (lists : List ℕ) (i a n cursor : ℕ) : Type 0 where
  pub proper : Proper z
  pub words : length ws ≡ z.length
  pub marks_long : length used ≡ places_most
  pub lists_long : length lists ≡ list_room
  pub cursor_low : cursor < z.geo.p
  pub level_low : 1 ≤ i
  pub level_high : i < z.geo.h
  pub window : window_of z.geo i ≤ a
  pub above : Stored z ws used (part_of z.geo.h lists i) a
  pub under : Stored z ws used (part_of z.geo.h lists (suc i)) n
  pub in_use : InUse used
  pub free : length in_use.places + (window_of z.geo i + (choose (window_of z.geo i) (listed z ws lists i a) (listed z ws lists (suc i) n)).value) + 2 ≤ z.geo.p
  pub room : n + 2 * (window_of z.geo i + (choose (window_of z.geo i) (listed z ws lists i a) (listed z ws lists (suc i) n)).value) + 2 ≤ list_room
  pub fits : (al : Allocation) → length (lower_after z i al (cut_of z i (listed z ws lists i a) (listed z ws lists (suc i) n))).level ≤ part_room z.geo.h (suc i)

-- what a merge leaves of the lower level, level j, which is l then, and the run that was chosen
pub record LowerLeaves (z : Layout) (j : ℕ) (l : Settled) (chosen : Least) (used' : List Bool) (lists' : List ℕ) (r : Step) : Type 0 where
  pub lower : take r.under (part_of z.geo.h lists' j) ≡ places_of l.level
  pub lists_long : length lists' ≡ list_room
  pub under : r.under ≡ length l.level
  pub cursor : r.cursor ≡ l.allocation.cursor
  pub marks : Marks used' l.allocation.used
  pub marks_long : length used' ≡ places_most
  pub first : r.first ≡ chosen.at
  pub overlap : r.overlap ≡ chosen.value

-- what a merge from level i leaves: u is level i and l is level i + 1 then; the lists of the other levels stay
pub record PairLeaves (z : Layout) (i : ℕ) (u l : Settled) (chosen : Least) (ws ws' : List ℕ) (used' : List Bool) (lists lists' : List ℕ) (r : Step) : Type 0 where
  pub words : ws' ≡ with_blocks z (u.written ++ l.written) ws
  pub upper : take r.above (part_of z.geo.h lists' i) ≡ places_of u.level
  pub above : r.above ≡ length u.level
  pub below : LowerLeaves z (suc i) l chosen used' lists' r
  pub kept : (j : ℕ) → 1 ≤ j → j ≤ z.geo.h → j ≢ i → j ≢ suc i → part_of z.geo.h lists' j ≡ part_of z.geo.h lists j
  pub writes : r.writes ≡ length (u.written ++ l.written)

-- what a merge of the chosen run from level i leaves of two levels, for the places in use at its start: "step 2's block takes its place before those of steps 3 and 4"
abbrev pub PairMerged : Layout → ℕ → Level → Level → Allocation → List ℕ → List ℕ → List Bool → List ℕ → List ℕ → Step → Type 0
PairMerged z i above under al ws ws' used' lists lists' r =
    let c = cut_of z i above under in
    let u = upper_after z i al c in
    PairLeaves z i u (lower_after z i u.allocation c) (choose (window_of z.geo i) above under) ws ws' used' lists lists' r

-- level 0 is a full pages in key order
pub record Paged (z : Layout) (ws : List ℕ) (a : ℕ) : Type 0 where
  pub count : top_count_at z ws ≡ a * z.geo.b
  pub fits : top_count_at z ws ≤ top_capacity_of z.geo
  pub high : a ≤ 256
  pub ordered : Ordered 0 (map fence_of (pages z.geo.b (top_recs z ws)))

-- what a merge out of level 0 asks, which is full
pub record PagesReady (z : Layout) (ws : List ℕ) (used : List Bool) (lists : List ℕ) (n cursor : ℕ) : Type 0 where
  pub proper : Proper z
  pub words : length ws ≡ z.length
  pub marks_long : length used ≡ places_most
  pub lists_long : length lists ≡ list_room
  pub cursor_low : cursor < z.geo.p
  pub full : top_count_at z ws ≡ top_capacity_of z.geo
  pub bits : (k : ℕ) → k < capacity_of z.geo 0 → word ws (z.marks + k) < 2 ^ z.geo.b
  pub rises : rising 0 (top_recs z ws) ≡ true
  pub under : Stored z ws used (part_of z.geo.h lists 1) n
  pub in_use : InUse used
  pub free : length in_use.places + (window_of z.geo 0 + (choose (window_of z.geo 0) (pages z.geo.b (top_recs z ws)) (listed z ws lists 1 n)).value) + 1 ≤ z.geo.p
  pub room : n + 2 * (window_of z.geo 0 + (choose (window_of z.geo 0) (pages z.geo.b (top_recs z ws)) (listed z ws lists 1 n)).value) + 2 ≤ list_room
  pub fits : (al : Allocation) → length (lower_after z 0 al (cut_of z 0 (pages z.geo.b (top_recs z ws)) (listed z ws lists 1 n))).level ≤ part_room z.geo.h 1

-- what a merge out of level 0 leaves: l is level 1 then; level 0 keeps its words, and W(0) of its pages are to leave it
pub record PagesLeaves (z : Layout) (l : Settled) (chosen : Least) (ws ws' : List ℕ) (used' : List Bool) (lists lists' : List ℕ) (r : Step) : Type 0 where
  pub words : ws' ≡ with_blocks z l.written ws
  pub above : r.above ≡ capacity_of z.geo 0 - window_of z.geo 0
  pub below : LowerLeaves z 1 l chosen used' lists' r
  pub kept : (j : ℕ) → 1 ≤ j → j ≤ z.geo.h → j ≢ 1 → part_of z.geo.h lists' j ≡ part_of z.geo.h lists j
  pub writes : r.writes ≡ length l.written

abbrev pub PagesMerged : Layout → Level → Allocation → List ℕ → List ℕ → List Bool → List ℕ → List ℕ → Step → Type 0
PagesMerged z under al ws ws' used' lists lists' r =
    let above = pages z.geo.b (top_recs z ws) in
    PagesLeaves z (lower_after z 0 al (cut_of z 0 above under)) (choose (window_of z.geo 0) above under) ws ws' used' lists lists' r
