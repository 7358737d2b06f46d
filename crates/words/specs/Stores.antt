-- Document 01, "Layout of the lent store": what the words of a store say, read and written, in the form that a layout gives.
use Rattle.std.specs.Prelude.{ℕ, zero, suc, ◌+◌, ◌*◌, ◌/◌, ◌%◌, Bool, true, false, List, [], ◌∷◌, ◌++◌, map, eqb, length, take}
use Rattle.std.proofs.Math.Option.{none, some}
use Rattle.geometry.specs.declared.Geometry.{Geometry}
use Rattle.geometry.specs.Geometry.{capacity_of, top_capacity_of}
use Rattle.layout.specs.declared.Layout.{Layout}
use Rattle.layout.specs.Layouts.{list_start, place_start}
pub use Rattle.layout.specs.Layouts.{geometry_from, geometry_at}
unfoldable pub use Rattle.layout.specs.Layouts.{layout_at}
use Rattle.levels.specs.Basics.{each}
use Rattle.levels.specs.Record.{Rec, Block, Level, pages}
use Rattle.levels.specs.Store.{Store}
use Rattle.pieces.specs.Pieces.{Piece, piece, lay_all}
pub use Rattle.pieces.specs.Pieces.{word, pad}
unfoldable pub use Rattle.pieces.specs.Pieces.{part}

-- Reading.

-- "1. Twelve words: B, w, d, G, h, P, live (number of keys in the map), hand (place last written), c (records in level 0), then the block counts of levels 1, 2, 3"
abbrev pub live_at : Layout → List ℕ → ℕ
live_at z ws = word ws z.live

abbrev pub cursor_at : Layout → List ℕ → ℕ
cursor_at z ws = word ws z.hand

abbrev pub top_count_at : Layout → List ℕ → ℕ
top_count_at z ws = word ws z.count

-- the block count of level i, i from 1 on
abbrev pub count_at : Layout → List ℕ → ℕ → ℕ
count_at z ws i = word ws (z.count + i)

-- n slots for records in a row: mark word m, "bit 0 the lowest", keys from word k on, payloads from word v on
unfoldable pub slots_at : List ℕ → ℕ → ℕ → ℕ → ℕ → List Rec
slots_at ws m k v zero = []
slots_at ws m k v (suc n) = record { key = word ws k; tombstone = eqb (m % 2) 1; pay = word ws v } ∷ slots_at ws (m / 2) (suc k) (suc v) n

-- "2. Level 0: K(0) mark words, K(0)×B keys, K(0)×B payloads. Bit j of mark word p .. belongs to record p×B + j". The slots of n pages from page i on.
unfoldable pub page_slots : Layout → List ℕ → ℕ → ℕ → List Rec
page_slots z ws i zero = []
page_slots z ws i (suc n) = slots_at ws (word ws (z.marks + i)) (z.keys + i * z.geo.b) (z.pays + i * z.geo.b) z.geo.b ++ page_slots z ws (suc i) n

unfoldable pub top_slots : Layout → List ℕ → List Rec
top_slots z ws = page_slots z ws 0 (capacity_of z.geo 0)

unfoldable pub top_recs : Layout → List ℕ → List Rec
top_recs z ws = take (top_count_at z ws) (top_slots z ws)

-- "3. For each level 1 to h, K(i) place numbers in key order." The whole list of level i, and the part of it in use.
unfoldable pub list_at : Layout → List ℕ → ℕ → List ℕ
list_at z ws i = part ws (list_start z i) (capacity_of z.geo i)

unfoldable pub listed_at : Layout → List ℕ → ℕ → List ℕ
listed_at z ws i = take (count_at z ws i) (list_at z ws i)

-- "4. P places of 2 + 2B words each: record count, mark word, B keys, B payloads."
abbrev pub record_count : Layout → List ℕ → ℕ → ℕ
record_count z ws p = word ws (place_start z p)

abbrev pub mark_word_at : Layout → List ℕ → ℕ → ℕ
mark_word_at z ws p = word ws (place_start z p + 1)

unfoldable pub block_slots : Layout → List ℕ → ℕ → List Rec
block_slots z ws p = slots_at ws (mark_word_at z ws p) (place_start z p + 2) (place_start z p + 2 + z.geo.b) z.geo.b

unfoldable pub block_at : Layout → List ℕ → ℕ → Block
block_at z ws p = record { place = some p; recs = take (record_count z ws p) (block_slots z ws p) }

unfoldable pub level_at : Layout → List ℕ → ℕ → Level
level_at z ws i = map (block_at z ws) (listed_at z ws i)

-- the store that the words hold
unfoldable pub store_at : Layout → List ℕ → Store
store_at z ws = record { live = live_at z ws; cursor = cursor_at z ws; top = top_recs z ws; levels = each (level_at z ws) 1 z.geo.h }

-- Writing: each part as a piece, over the words that were there. "Unused slots, bits and list entries are 0."

abbrev pub bit : Bool → ℕ
bit true = 1
bit false = 0

unfoldable pub mark_word : List Rec → ℕ
mark_word [] = 0
mark_word (r ∷ rs) = bit r.tombstone + 2 * mark_word rs

abbrev pub keys_of : List Rec → List ℕ
keys_of rs = map (λ (r : Rec). r.key) rs

abbrev pub pays_of : List Rec → List ℕ
pays_of rs = map (λ (r : Rec). r.pay) rs

-- live, hand, c and the block counts
abbrev pub size_pieces : Layout → Store → List Piece
size_pieces z s =
    piece z.live (s.live ∷ [])
    ∷ piece z.hand (s.cursor ∷ [])
    ∷ piece z.count (length s.top ∷ [])
    ∷ piece (z.count + 1) (pad 3 (map (λ (l : Level). length l) s.levels))
    ∷ []

-- level 0
abbrev pub top_pieces : Layout → List Rec → List Piece
top_pieces z rs =
    piece z.marks (pad (capacity_of z.geo 0) (map (λ (b : Block). mark_word b.recs) (pages z.geo.b rs)))
    ∷ piece z.keys (pad (top_capacity_of z.geo) (keys_of rs))
    ∷ piece z.pays (pad (top_capacity_of z.geo) (pays_of rs))
    ∷ []

-- the place of a block that has one
abbrev pub place_of : Block → ℕ
place_of b = elim b.place [ none ↦ 0 | some p ↦ p ]

-- the place lists of the levels from i on
unfoldable pub list_pieces : Layout → ℕ → List Level → List Piece
list_pieces z i [] = []
list_pieces z i (l ∷ ls) = piece (list_start z i) (pad (capacity_of z.geo i) (map place_of l)) ∷ list_pieces z (suc i) ls

-- all that a store says but the words of its blocks
unfoldable pub pieces : Layout → Store → List Piece
pieces z s = size_pieces z s ++ (top_pieces z s.top ++ list_pieces z 1 s.levels)

-- the words with a store in them: the geometry's words, and what stands in the places, are kept
unfoldable pub with_store : Layout → Store → List ℕ → List ℕ
with_store z s ws = lay_all (pieces z s) ws

unfoldable pub block_words : Geometry → List Rec → List ℕ
block_words g rs = length rs ∷ mark_word rs ∷ (pad g.b (keys_of rs) ++ pad g.b (pays_of rs))

-- a block written at its place fills all 2 + 2B words; "Free places keep old words."
unfoldable pub block_piece : Layout → Block → Piece
block_piece z b = piece (place_start z (place_of b)) (block_words z.geo b.recs)

unfoldable pub with_blocks : Layout → List Block → List ℕ → List ℕ
with_blocks z bs ws = lay_all (map (block_piece z) bs) ws
