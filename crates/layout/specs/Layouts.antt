-- Document 01, "Layout of the lent store": where the words of a store stand. A `Layout` is the geometry and word numbers; the code declares it.
use Rattle.std.specs.Prelude.{ℕ, suc, ◌+◌, ◌-◌, ◌*◌, ◌≤◌, ◌<◌, ◌≡◌, true, false, List, ◌⊎◌, length, get_or, ltb, eqb}
use Rattle.geometry.specs.declared.Geometry.{Geometry}
use Rattle.geometry.specs.Geometry.{Valid, is_legal, capacity_of, capacity_sum, flash_capacity_of, top_capacity_of, block_width}
use Rattle.layout.specs.declared.Layout.{Layout}

-- "1. Twelve words: B, w, d, G, h, P, live (number of keys in the map), hand (place last written), c (records in level 0), then the block counts of levels 1, 2, 3"
abbrev pub header_length : ℕ
header_length = 12

-- Document 01's form. "2. Level 0: K(0) mark words, K(0)×B keys, K(0)×B payloads. 3. For each level 1 to h, K(i) place numbers in key order.
-- 4. P places of 2 + 2B words each": each part begins where the one before it ends, and the places end the store.
unfoldable pub old : Geometry → Layout
old g =
    let keys = header_length + capacity_of g 0 in
    let pays = keys + top_capacity_of g in
    let lists = pays + top_capacity_of g in
    let places = lists + flash_capacity_of g in
    record {
      geo = g;
      six = 0;
      live = 6;
      hand = 7;
      count = 8;
      marks = header_length;
      keys = keys;
      pays = pays;
      lists = lists;
      places = places;
      length = places + g.p * block_width g;
    }

-- six words from word a on as a geometry; the geometry that lent words give, and their layout
abbrev pub geometry_from : List ℕ → ℕ → Geometry
geometry_from ws a =
    record { b = get_or ws a 0; w = get_or ws (a + 1) 0; d = get_or ws (a + 2) 0; g = get_or ws (a + 3) 0; h = get_or ws (a + 4) 0; p = get_or ws (a + 5) 0 }

abbrev pub geometry_at : List ℕ → Geometry
geometry_at ws = geometry_from ws 0

unfoldable pub layout_at : List ℕ → Layout
layout_at ws = old (geometry_at ws)

-- the place list of level i, i from 1 on
unfoldable pub list_start : Layout → ℕ → ℕ
list_start z i = z.lists + capacity_sum z.geo 1 (i - 1)

-- the first word of a place
unfoldable pub place_start : Layout → ℕ → ℕ
place_start z q = z.places + q * block_width z.geo

-- "Why a call is turned down", as far as the number of words n and the geometry settle it, in this order, or 0:
-- "1. The store has fewer than 12 words. 2. The geometry .. breaks a limit above. 3. The length differs from the layout's."
unfoldable pub size_reason : ℕ → Geometry → ℕ
size_reason n g = elim (ltb n header_length) [
  | true ↦ 1
  | false ↦ elim (is_legal g) [ false ↦ 2 | true ↦ elim (eqb n (old g).length) [ true ↦ 0 | false ↦ 3 ] ]
]

-- No store has so many words, in any form: its word numbers fit the code's type.
abbrev pub words_most : ℕ
words_most = 400000

-- What proofs need of a form: its parts lie behind each other, but for live and hand, which may stand either way, and the places end it.
pub record Proper (z : Layout) : Type 0 where
  pub valid : Valid z.geo
  pub six_hand : z.six + 6 ≤ z.hand
  pub six_live : z.six + 6 ≤ z.live
  pub hand_live : (z.hand < z.live) ⊎ (z.live < z.hand)
  pub hand_count : z.hand < z.count
  pub live_count : z.live < z.count
  pub count_marks : z.count + 4 ≤ z.marks
  pub marks_keys : z.marks + capacity_of z.geo 0 ≤ z.keys
  pub keys_pays : z.keys + top_capacity_of z.geo ≤ z.pays
  pub pays_lists : z.pays + top_capacity_of z.geo ≤ z.lists
  pub lists_places : list_start z (suc z.geo.h) ≤ z.places
  pub long : z.length ≡ z.places + z.geo.p * block_width z.geo
  pub short : z.length ≤ words_most

-- words of a proper layout's length
pub record Fitted (z : Layout) (ws : List ℕ) : Type 0 where
  pub proper : Proper z
  pub words : length ws ≡ z.length
