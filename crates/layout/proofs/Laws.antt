-- Where the parts of a proper layout end: lists and places do not meet, and lie in the store.
use Prim.Native.Nat.{ℕ, zero, suc, ◌+◌, ◌-◌, ◌≤◌, ◌<◌}
use mathlib.Core.Path.{◌≡◌}
use mathlib.Core.List.{List}
use lib.ListN.{length}
use native.Mathlib.Nat.{add-zero, add-suc, mul-le-mul_right}
use native.Mathlib.Numerals.{one-add, unary_clauses}
use native.Mathlib.Omega.{arith}
use Rattle.geometry.specs.Geometry.{capacity_of, capacity_sum, top_capacity_of, block_width}
use Rattle.layout.specs.declared.Layout.{Layout}
use Rattle.layout.specs.Layouts.{list_start, place_start, Proper, Fitted}

-- The lists.

pub lists_first : (z : Layout) → list_start z 1 ≡ z.lists
unfolding list_start capacity_sum
lists_first z = omega arith

pub list_next : (z : Layout) (i : ℕ) → 1 ≤ i → list_start z (suc i) ≡ list_start z i + capacity_of z.geo i
unfolding list_start capacity_sum
list_next z zero h = absurd (omega arith)
list_next z (suc i) h = simp (unary_clauses, one-add) (omega arith)

pub list_mono : (z : Layout) (n i : ℕ) → 1 ≤ i → list_start z i ≤ list_start z (i + n)
list_mono z zero i o = rw add-zero (omega arith)
list_mono z (suc n) i o = rw add-suc (omega (arith, list_mono z n i o, list_next z (i + n) (omega arith)))

pub lists_apart : (z : Layout) {i j : ℕ} → 1 ≤ i → i < j → list_start z i + capacity_of z.geo i ≤ list_start z j
lists_apart z {i = i} {j = j} o h =
    let e : suc i + (j - suc i) ≡ j = omega arith in
    let m : list_start z (suc i) ≤ list_start z j = rw e at (list_mono z (j - suc i) (suc i) (omega arith)) in
    omega (arith, list_next z i o, m)

module _ (z : Layout) (k : Proper z) where
  pub list_inside : {i : ℕ} → 1 ≤ i → i ≤ z.geo.h → list_start z i + capacity_of z.geo i ≤ z.places
  list_inside {i = i} o h = omega (arith, lists_apart z {i = i} {j = suc z.geo.h} o (omega arith), k.lists_places)

  pub lists_before : z.lists ≤ z.places
  lists_before =
      let n : list_start z (1 + z.geo.h) ≤ z.places = rw one-add k.lists_places in
      omega (arith, lists_first z, list_mono z z.geo.h 1 (omega arith), n)

  -- the parts of level 0 lie before the places
  pub pays_before : z.pays + top_capacity_of z.geo ≤ z.places
  pays_before = omega (arith, k.pays_lists, lists_before)

  pub keys_before : z.keys + top_capacity_of z.geo ≤ z.places
  keys_before = omega (arith, k.keys_pays, pays_before)

  pub marks_before : z.marks + capacity_of z.geo 0 ≤ z.places
  marks_before = omega (arith, k.marks_keys, keys_before)

  -- and so do the size words: behind c the three block counts
  pub count_before : z.count + 4 ≤ z.places
  count_before = omega (arith, k.count_marks, marks_before)

  pub hand_before : z.hand < z.places
  hand_before = omega (arith, k.hand_count, count_before)

  pub live_before : z.live < z.places
  live_before = omega (arith, k.live_count, count_before)

  pub six_before : z.six + 6 ≤ z.places
  six_before = omega (arith, k.six_hand, hand_before)

  pub places_before : z.places ≤ z.length
  places_before = omega (arith, k.long)

  -- The places.

  pub place_inside : {q : ℕ} → q < z.geo.p → place_start z q + block_width z.geo ≤ z.length
  unfolding place_start
  place_inside {q = q} h = omega (arith, k.long, mul-le-mul_right {m = suc q} {n = z.geo.p} (block_width z.geo) h)

  pub place_word_inside : {q j : ℕ} → q < z.geo.p → j < block_width z.geo → place_start z q + j < z.length
  place_word_inside {q = q} h l = omega (arith, place_inside {q = q} h)

pub places_first : (z : Layout) → place_start z 0 ≡ z.places
unfolding place_start
places_first z = omega arith

pub place_next : (z : Layout) (q : ℕ) → place_start z (suc q) ≡ place_start z q + block_width z.geo
unfolding place_start
place_next z q = omega arith

pub places_apart : (z : Layout) {q r : ℕ} → q < r → place_start z q + block_width z.geo ≤ place_start z r
unfolding place_start
places_apart z {q = q} {r = r} h = omega (arith, mul-le-mul_right {m = suc q} {n = r} (block_width z.geo) h)

pub place_behind : (z : Layout) (q : ℕ) → z.places ≤ place_start z q
unfolding place_start
place_behind z q = omega arith

-- The size words, in words of the layout's length.
pub fitted_count : (z : Layout) (ws : List ℕ) → Fitted z ws → z.count + 4 ≤ length ws
fitted_count z ws f = omega (arith, f.words, count_before z f.proper, places_before z f.proper)

pub fitted_hand : (z : Layout) (ws : List ℕ) → Fitted z ws → z.hand < length ws
fitted_hand z ws f = omega (arith, f.words, hand_before z f.proper, places_before z f.proper)

pub fitted_live : (z : Layout) (ws : List ℕ) → Fitted z ws → z.live < length ws
fitted_live z ws f = omega (arith, f.words, live_before z f.proper, places_before z f.proper)

-- the geometry's words with them; and no store has so many words that a number of one is large
pub fitted_spots : (z : Layout) (ws : List ℕ) → Fitted z ws → (z.six + 6 ≤ length ws) × ((z.live < length ws) × ((z.hand < length ws) × ((z.count + 4 ≤ length ws) × (length ws ≤ 400000))))
fitted_spots z ws f =
    let k = f.proper in
    (omega (arith, f.words, six_before z k, places_before z k), (fitted_live z ws f, (fitted_hand z ws f, (fitted_count z ws f, omega (arith, f.words, k.short)))))
