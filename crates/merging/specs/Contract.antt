-- What a merge of blocks asks, and what it leaves, in terms of levels' and words' definitions.
use Rattle.std.specs.Prelude.{ℕ, zero, suc, ◌+◌, ◌-◌, ◌*◌, ◌^◌, ◌≤◌, ◌<◌, ◌≡◌, Bool, true, false, List, map, get_or, length, take, drop}
use Rattle.geometry.specs.Geometry.{capacity_of}
use Rattle.geometry.specs.Room.{places_most, list_room}
use Rattle.levels.specs.Basics.{each}
use Rattle.levels.specs.Record.{Block, Level, new}
use Rattle.levels.specs.Rising.{Rising}
use Rattle.levels.specs.Merge.{merge}
use Rattle.levels.specs.Place.{Settled, places_of}
use Rattle.words.specs.Stores.{word, slots_at, record_count, mark_word_at, block_at, bit, with_blocks}
use Rattle.blocks.specs.Blocks.{Marks, empty_buffer}
use Rattle.stream.specs.declared.Progress.{Progress}
use Rattle.stream.specs.declared.Inputs.{Inputs}
use Rattle.merging.specs.declared.Cut.{Cut}
use Rattle.merging.specs.declared.Merged.{Merged}
use Rattle.layout.specs.Layouts.{Proper}
use Rattle.layout.specs.declared.Layout.{Layout}

-- page i of level 0, full
abbrev pub page_at : Layout → List ℕ → ℕ → Block
page_at z ws i = new (slots_at ws (word ws (z.marks + i)) (z.keys + i * z.geo.b) (z.pays + i * z.geo.b) z.geo.b)

-- n entries of a place list, from entry i on
abbrev pub entries_of : List ℕ → ℕ → ℕ → List ℕ
entries_of list i n = take n (drop i list)

-- n blocks of a level, from block i on
abbrev pub blocks_of : Layout → List ℕ → List ℕ → ℕ → ℕ → Level
blocks_of z ws list i n = map (block_at z ws) (entries_of list i n)

-- n pages of level 0, or n blocks of the place list of a level, from number i on
abbrev pub run_of : Bool → Layout → List ℕ → List ℕ → ℕ → ℕ → Level
run_of true z ws list i n = each (page_at z ws) i n
run_of false z ws list i n = blocks_of z ws list i n

-- steps 3 and 4 of a merge, of the blocks that the words and the two lists hold
unfoldable pub merge_of : Layout → List ℕ → List ℕ → List ℕ → Cut → Level
merge_of z ws xs ys c =
    merge z.geo.b c.bottom
    (blocks_of z ws ys c.start (c.y - c.start))
    (run_of c.pages z ws xs c.x (c.xend - c.x))
    (blocks_of z ws ys c.y (c.yend - c.y))
    (blocks_of z ws ys c.yend (c.end - c.yend))

-- how many of the first n places are marked
unfoldable pub count_marks : ℕ → List Bool → ℕ
count_marks zero used = 0
count_marks (suc n) used = count_marks n used + bit (get_or used n false)

-- a listed block: its place is one of the store's and marked as in use; it has 1 to B records and no bits but theirs in its mark word
pub record ListedBlock (z : Layout) (ws : List ℕ) (used : List Bool) (q : ℕ) : Type 0 where
  pub place : q < z.geo.p
  pub taken : get_or used q false ≡ true
  pub low : 1 ≤ record_count z ws q
  pub high : record_count z ws q ≤ z.geo.b
  pub bits : mark_word_at z ws q < 2 ^ record_count z ws q

-- a page of level 0, full, with no bits but its records' in its mark word
pub record FullPage (z : Layout) (ws : List ℕ) (i : ℕ) : Type 0 where
  pub low : i < capacity_of z.geo 0
  pub bits : word ws (z.marks + i) < 2 ^ z.geo.b

-- what a merge asks: a legal store, work arrays of their full length, X and Y within their levels, keys that rise in each block, room in the new list, and a free place for each block of X and Y and one more
pub record Mergeable (z : Layout) (ws : List ℕ) (used : List Bool) (out xs ys : List ℕ) (c : Cut) (cursor : ℕ) : Type 0 where
  pub proper : Proper z
  pub words : length ws ≡ z.length
  pub marks_long : length used ≡ places_most
  pub out_long : length out ≡ list_room
  pub xs_long : length xs ≡ list_room
  pub ys_long : length ys ≡ list_room
  pub cursor_low : cursor < z.geo.p
  pub x_low : c.x ≤ c.xend
  pub x_high : c.xend ≤ list_room
  pub start_low : c.start ≤ c.y
  pub y_low : c.y ≤ c.yend
  pub y_high : c.yend ≤ c.end
  pub end_high : c.end ≤ list_room
  pub upper : c.pages ≡ false → (k : ℕ) → c.x ≤ k → k < c.xend → ListedBlock z ws used (get_or xs k 0)
  pub paged : c.pages ≡ true → (k : ℕ) → c.x ≤ k → k < c.xend → FullPage z ws k
  pub lower : (k : ℕ) → c.start ≤ k → k < c.end → ListedBlock z ws used (get_or ys k 0)
  pub upper_rises : c.pages ≡ false → (k : ℕ) → c.x ≤ k → k < c.xend → Rising 0 (block_at z ws (get_or xs k 0)).recs
  pub paged_rises : c.pages ≡ true → (k : ℕ) → c.x ≤ k → k < c.xend → Rising 0 (page_at z ws k).recs
  pub lower_rises : (k : ℕ) → c.start ≤ k → k < c.end → Rising 0 (block_at z ws (get_or ys k 0)).recs
  pub room : (c.end - c.start) + 2 * ((c.xend - c.x) + (c.yend - c.y)) + 2 ≤ list_room
  pub free : count_marks z.geo.p used + ((c.xend - c.x) + (c.yend - c.y)) + 1 ≤ z.geo.p

-- the ends of X and Y, where the merge begins, and more steps than there are records
abbrev pub inputs_of : Cut → Inputs
inputs_of c = record { x = c.xend; y = c.yend; pages = c.pages; bottom = c.bottom }

abbrev pub begin_of : Cut → ℕ → Progress
begin_of c cursor = record { x = record { i = c.x; j = 0 }; y = record { i = c.y; j = 0 }; m = c.y - c.start; writes = 0; cursor = cursor; buf = empty_buffer }

abbrev pub limit_of : Cut → ℕ
limit_of c = 16 * ((c.xend - c.x) + (c.yend - c.y))

-- What a merge leaves of blocks that have been given places: all words, the new list and its length, the cursor, the marks, the number of blocks written.
pub record Leaves (z : Layout) (st : Settled) (ws : List ℕ) (ws' : List ℕ) (used' : List Bool) (out' : List ℕ) (r : Merged) : Type 0 where
  pub words : ws' ≡ with_blocks z st.written ws
  pub list : take r.count out' ≡ places_of st.level
  pub list_long : length out' ≡ list_room
  pub count : r.count ≡ length st.level
  pub count_high : r.count ≤ list_room
  pub cursor : r.cursor ≡ st.allocation.cursor
  pub marks : Marks used' st.allocation.used
  pub marks_long : length used' ≡ places_most
  pub writes : r.writes ≡ length st.written
