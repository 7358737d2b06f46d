-- The store while the merges of a call run: its lists in a work array, its block counts, cursor and counts in numbers.
use Rattle.std.specs.Prelude.{ℕ, suc, ◌+◌, ◌≤◌, ◌<◌, ◌≡◌, Bool, List, [], ◌∷◌, ◌++◌, map, eqb, length, get_or, set}
use Rattle.geometry.specs.Geometry.{top_capacity_of}
use Rattle.geometry.specs.Room.{places_most, list_room}
use Rattle.levels.specs.Basics.{if◌then◌otherwise◌}
use Rattle.levels.specs.Record.{Block}
use Rattle.levels.specs.Store.{Store, used_in}
use Rattle.levels.specs.Call.{Compaction, Merge, merge_level}
use Rattle.levels.specs.Count.{blocks_merged, total_compacted}
use Rattle.levels.specs.Count as levels
use Rattle.levels.specs.Tickets.{ticket_of}
use Rattle.levels.specs.Inside.{Inside}
use Rattle.levels.specs.InCall.{MergeFacts}
use Rattle.pieces.specs.Pieces.{lay_all}
use Rattle.words.specs.Stores.{live_at, top_recs, block_at, with_blocks}
use Rattle.words.specs.Halves.{top_part}
use Rattle.lists.specs.Flat.{part_room}
use Rattle.lists.specs.Lists.{list_of, lists_of, Listed, places_at}
use Rattle.lists.specs.Holds.{HoldsBut}
use Rattle.blocks.specs.Blocks.{Marks}
use Rattle.steps.specs.declared.Counts.{Counts}
use Rattle.steps.specs.declared.Run.{Run}
use Rattle.steps.specs.declared.Ticketed.{Ticketed}
use Rattle.layout.specs.Layouts.{Proper}
use Rattle.layout.specs.declared.Layout.{Layout}

-- all places of these lists
abbrev pub named : List (List ℕ) → List ℕ
named [] = []
named (l ∷ ls) = l ++ named ls

-- the store that the words, the lists and the cursor hold
unfoldable pub store_of : Layout → List ℕ → List ℕ → Run → Store
store_of z ws lists r =
    record {
      live = live_at z ws;
      cursor = r.cursor;
      top = top_recs z ws;
      levels = map (λ (l : List ℕ). map (block_at z ws) l) (lists_of z.geo.h lists r.ns);
    }

-- the words, the lists and the cursor hold the store t
pub record Stands (z : Layout) (t : Store) (ws lists : List ℕ) (r : Run) : Type 0 where
  pub store : store_of z ws lists r ≡ t
  pub held : HoldsBut z ws t
  pub listed : Listed z.geo.h z.geo.h lists r.ns (places_at t)
  pub cursor : r.cursor ≡ t.cursor

-- what may be marked: places in the marks' range, within the parts of h levels
pub record Markable (h : ℕ) (lists ns : List ℕ) : Type 0 where
  pub high : h ≤ 3
  pub long : length lists ≡ list_room
  pub fit : (j : ℕ) → j < h → get_or ns j 0 ≤ part_room h (suc j)
  pub low : (j : ℕ) → j < h → (i : ℕ) → i < length (list_of h lists ns j) → get_or (list_of h lists ns j) i 0 < places_most

-- the marks of the places that a store has in use
abbrev pub Marking : List Bool → Store → Type 0
Marking used t = Marks used (used_in t) × (length used ≡ places_most)

-- The counts. As levels has them:
abbrev pub numbers_of : Counts → levels.Counts
numbers_of c = record { merges = c.merges; written = c.written; compacted = c.compacted }

abbrev pub plus : levels.Counts → levels.Counts → levels.Counts
plus a b = record { merges = a.merges + b.merges; written = a.written + b.written; compacted = a.compacted + b.compacted }

-- the sum of two counts
abbrev pub sum_of : Counts → Counts → Counts
sum_of a b = record { merges = a.merges + b.merges; written = a.written + b.written; compacted = a.compacted + b.compacted }

-- A tally has the counts of levels 1 to 3. Those of level j + 1:
abbrev pub Tally : Type 0
Tally = List Counts

abbrev pub no_counts : Counts
no_counts = record { merges = 0; written = 0; compacted = 0 }

abbrev pub counts_in : Tally → ℕ → Counts
counts_in t j = get_or t j no_counts

-- where the counts of a level stand in a tally; no other number is asked for, and one would be taken for level 3's
abbrev pub index_of : ℕ → ℕ
index_of level = if eqb level 1 then 0 otherwise if eqb level 2 then 1 otherwise 2

-- a tally with c added to the counts of a level
abbrev pub counted : Tally → ℕ → Counts → Tally
counted t level c = set t (index_of level) (sum_of (counts_in t (index_of level)) c)

-- No call counts so many of anything: it makes at most 98,304 merges (`cascade`), and each adds at most 16,384 to a count. So no
-- sum wraps. A step begins with fewer, so that it ends within it.
abbrev pub counts_most : ℕ
counts_most = 2000000000

abbrev pub counts_before : ℕ
counts_before = 1900000000

-- counts that are at most n each
pub record Few (n : ℕ) (c : Counts) : Type 0 where
  pub merges : c.merges ≤ n
  pub written : c.written ≤ n
  pub compacted : c.compacted ≤ n

pub record Small (n : ℕ) (t : Tally) : Type 0 where
  pub three : length t ≡ 3
  pub few : (j : ℕ) → j < 3 → Few n (counts_in t j)

-- the tally has grown by f of each level
abbrev pub Grown : (ℕ → levels.Counts) → Tally → Tally → Type 0
Grown f t u = (length u ≡ length t) × ((j : ℕ) → j < 3 → numbers_of (counts_in u j) ≡ plus (numbers_of (counts_in t j)) (f (suc j)))

-- What a change leaves: the words and lists hold the store t, these blocks are written and live, c and level 0 laid anew, every other
-- word is kept, and the tally has grown.
pub record Leaving (z : Layout) (t : Store) (blocks : List Block) (f : ℕ → levels.Counts) (ws : List ℕ) (r : Run) (ws' lists' : List ℕ) (r' : Run) : Type 0 where
  pub stands : Stands z t ws' lists' r'
  pub words : ws' ≡ lay_all (top_part z t) (with_blocks z blocks ws)
  pub counts : Grown f r.tally r'.tally

-- a moment of a call, between two changes
pub record Running (n : ℕ) (z : Layout) (ws lists : List ℕ) (r : Run) : Type 0 where
  pub proper : Proper z
  pub entry : Store
  pub inside : Inside z.geo entry (store_of z ws lists r)
  pub stands : Stands z (store_of z ws lists r) ws lists r
  pub small : Small n r.tally

-- the counts of compactions
abbrev pub compacted_counts : List Compaction → ℕ → levels.Counts
compacted_counts cs j = record { merges = 0; written = 0; compacted = total_compacted j cs }

-- the counts of a merge without its step 5
abbrev pub merged_counts : Merge → ℕ → levels.Counts
merged_counts m j = record { merges = if eqb (suc m.level) j then 1 otherwise 0; written = if eqb (suc m.level) j then blocks_merged m otherwise 0; compacted = 0 }

-- a moment of a call where a merge out of level i is due; level 0 is full then
pub record StepReady (n : ℕ) (z : Layout) (ws lists : List ℕ) (level : ℕ) (r : Run) : Type 0 where
  pub proper : Proper z
  pub entry : Store
  pub stands : Stands z (store_of z ws lists r) ws lists r
  pub facts : MergeFacts z.geo entry (merge_level z.geo level (store_of z ws lists r))
  pub full : level ≡ 0 → length (store_of z ws lists r).top ≡ top_capacity_of z.geo
  pub small : Small n r.tally

-- the counts of a merge with its step 5
abbrev pub step_counts : Merge → ℕ → levels.Counts
step_counts m j = levels.counts_of j (m ∷ [])

-- a merge out of a level of the store that stands, without its step 5, and its ticket
abbrev pub LevelMerged : Layout → ℕ → List ℕ → List ℕ → Run → List ℕ → List ℕ → Ticketed → Type 0
LevelMerged z level ws lists r ws' lists' u =
    (t : Store) → t ≡ store_of z ws lists r
    → Leaving z (merge_level z.geo level t).finish (merge_level z.geo level t).written (merged_counts (merge_level z.geo level t)) ws r ws' lists' u.run × (u.ticket ≡ ticket_of z.geo (merge_level z.geo level t))
