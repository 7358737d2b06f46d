-- Document 01's form: it is proper, its parts follow each other without gap or overlap, and its length fits its type.
use Prim.Native.Nat.{suc, ◌+◌, ◌≤◌, ◌<◌}
use mathlib.Core.Path.{◌≡◌, refl}
use mathlib.Core.Logic.{inr}
use native.Mathlib.Nat.{mul-le-mul_left}
use native.Mathlib.Numerals.{unary_clauses}
use native.Mathlib.Omega.{arith}
use Rattle.geometry.specs.declared.Geometry.{Geometry}
use Rattle.geometry.specs.Geometry.{Valid, capacity_of, flash_capacity_of, top_capacity_of}
use Rattle.geometry.proofs.Laws.{flash_capacity_below, capacity_doubles, capacity_low}
use Rattle.geometry.proofs.Bounds.{capacity_zero_high, place_offset_high}
use Rattle.layout.specs.Layouts.{header_length, old, list_start, place_start, Proper}

pub header_end : (g : Geometry) → header_length ≡ (old g).marks
unfolding old
header_end g = refl

pub marks_end : (g : Geometry) → (old g).marks + capacity_of g 0 ≡ (old g).keys
unfolding old
marks_end g = refl

pub keys_end : (g : Geometry) → (old g).keys + top_capacity_of g ≡ (old g).pays
unfolding old
keys_end g = refl

pub pays_end : (g : Geometry) → (old g).pays + top_capacity_of g ≡ (old g).lists
unfolding old
pays_end g = refl

pub lists_end : (g : Geometry) → list_start (old g) (suc g.h) ≡ (old g).places
unfolding old list_start flash_capacity_of
lists_end g = simp unary_clauses

pub places_end : (g : Geometry) → place_start (old g) g.p ≡ (old g).length
unfolding old place_start
places_end g = refl

-- "288,524 words at most"
pub store_length_high : (g : Geometry) → Valid g → (old g).length ≤ 288524
unfolding old top_capacity_of
store_length_high g v =
    omega (arith, capacity_zero_high g v.ranged, mul-le-mul_left (capacity_of g 0) v.ranged.b_high, flash_capacity_below g v.ranged, capacity_doubles g v.ranged 0, v.bottom_high, place_offset_high g v.ranged g.p v.places_high)

pub store_length_low : (g : Geometry) → Valid g → 12 < (old g).length
unfolding old
store_length_low g v = omega (arith, capacity_low g v.ranged 0)

pub old_proper : (g : Geometry) → Valid g → Proper (old g)
unfolding old
old_proper g v =
    record {
      valid = v;
      six_hand = omega arith;
      six_live = omega arith;
      hand_live = inr (omega arith);
      hand_count = omega arith;
      live_count = omega arith;
      count_marks = omega arith;
      marks_keys = omega arith;
      keys_pays = omega arith;
      pays_lists = omega arith;
      lists_places = omega (arith, lists_end g);
      long = refl;
      short = omega (arith, store_length_high g v);
    }
