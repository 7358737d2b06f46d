-- The place lists apart from the words, in one work array, and the words that they are put back to.
use Rattle.std.specs.Prelude.{ℕ, suc, ◌+◌, ◌≤◌, ◌<◌, ◌≡◌, List, [], ◌∷◌, map, length, take, get_or}
use Rattle.pieces.specs.Pieces.{Piece, piece, lay_all}
use Rattle.geometry.specs.Geometry.{capacity_of}
use Rattle.geometry.specs.Room.{list_room}
use Rattle.levels.specs.Basics.{each}
use Rattle.levels.specs.Store.{Store}
use Rattle.words.specs.Stores.{pad, place_of}
use Rattle.lists.specs.Flat.{part_of}
use Rattle.layout.specs.Layouts.{list_start}
use Rattle.layout.specs.declared.Layout.{Layout}

-- the list of level j + 1: as many of its part's entries as the level has blocks
abbrev pub list_of : ℕ → List ℕ → List ℕ → ℕ → List ℕ
list_of h lists ns j = take (get_or ns j 0) (part_of h lists (suc j))

-- the lists of levels 1 to h
unfoldable pub lists_of : ℕ → List ℕ → List ℕ → List (List ℕ)
lists_of h lists ns = each (list_of h lists ns) 0 h

-- The lists of the first n of h levels stand in the work array, that of level j + 1 is p j, and no other level has entries.
pub record Listed (h n : ℕ) (lists ns : List ℕ) (p : ℕ → List ℕ) : Type 0 where
  pub long : length lists ≡ list_room
  pub three : length ns ≡ 3
  pub counts : (j : ℕ) → j < n → get_or ns j 0 ≡ length (p j)
  pub places : (j : ℕ) → j < n → list_of h lists ns j ≡ p j
  pub none : (j : ℕ) → n ≤ j → get_or ns j 0 ≡ 0

-- the places of the blocks of level j + 1
abbrev pub places_at : Store → ℕ → List ℕ
places_at t j = map place_of (get_or t.levels j [])

-- lists that fit their words again
pub record Fitting (z : Layout) (lists ns : List ℕ) : Type 0 where
  pub long : length lists ≡ list_room
  pub three : length ns ≡ 3
  pub fit : (j : ℕ) → j < z.geo.h → get_or ns j 0 ≤ capacity_of z.geo (suc j)
  pub none : (j : ℕ) → z.geo.h ≤ j → get_or ns j 0 ≡ 0

-- "For each level 1 to h, K(i) place numbers", "Unused .. list entries are 0": the list of level j + 1 to its words
unfoldable pub list_piece : Layout → List ℕ → List ℕ → ℕ → Piece
list_piece z lists ns j = piece (list_start z (suc j)) (pad (capacity_of z.geo (suc j)) (list_of z.geo.h lists ns j))

-- the words with another hand and other block counts
unfoldable pub with_counts : Layout → ℕ → List ℕ → List ℕ → List ℕ
with_counts z cursor ns ws = lay_all (piece z.hand (cursor ∷ []) ∷ piece (z.count + 1) ns ∷ []) ws

-- and with other place lists. Every other word is kept.
unfoldable pub with_lists : Layout → List ℕ → ℕ → List ℕ → List ℕ → List ℕ
with_lists z ws cursor ns lists = lay_all (each (list_piece z lists ns) 0 z.geo.h) (with_counts z cursor ns ws)
