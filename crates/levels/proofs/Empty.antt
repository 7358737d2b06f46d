-- "Format": the empty store passes the form check, and its map is empty.
use Prim.Native.Nat.{ℕ, zero, suc, ◌-◌}
use mathlib.Core.Path.{◌≡◌, refl, ap}
use mathlib.Core.Bool.{true}
use mathlib.Core.List.{[], map}
use native.Mathlib.Omega.{arith}
use lib.ListN.{length, get_or, replicate, length-replicate}
use borrow.Author.Tests.{le-ltb}
use Rattle.geometry.specs.declared.Geometry.{Geometry}
use Rattle.geometry.specs.Geometry.{Valid}
use Rattle.levels.specs.Basics.{all, ceil_div}
use Rattle.levels.specs.Record.{Level, records, has_tombstone, rising, clean_tombstones}
use Rattle.levels.specs.Map.{overlay, view, unmarked, map_of, live_count}
use Rattle.levels.specs.Place.{in_use, distinct}
use Rattle.levels.specs.Store.{empty_store, rows}
use Rattle.levels.specs.Every.{Every, all_blocks}
use Rattle.levels.specs.Sound.{Fits, Tight, Sound}

-- levels without blocks
empty_view : (n : ℕ) → view (map records (replicate n [])) ≡ []
unfolding view overlay
empty_view zero = refl
empty_view (suc n) = empty_view n

-- they have no block
pub empty_blocks : (n : ℕ) → all_blocks (replicate n []) ≡ []
empty_blocks zero = refl
empty_blocks (suc n) = empty_blocks n

empty_used : (n : ℕ) → in_use (replicate n []) ≡ []
empty_used zero = refl
empty_used (suc n) = empty_used n

-- and none at any level
pub empty_at : (n i : ℕ) → get_or {A = Level} (replicate n []) i [] ≡ []
empty_at zero i = refl
empty_at (suc n) zero = refl
empty_at (suc n) (suc i) = empty_at n i

empty_rising : (n : ℕ) → all (rising 0) (map records (replicate n [])) ≡ true
empty_rising zero = refl
empty_rising (suc n) = empty_rising n

empty_clean : (n : ℕ) → all clean_tombstones (map records (replicate n [])) ≡ true
empty_clean zero = refl
empty_clean (suc n) = empty_clean n

empty_tight : (g : Geometry) (n : ℕ) → Every (Tight g) (replicate n [])
empty_tight g zero = tt
empty_tight g (suc n) = (record { pairs = refl; compact = rw (le-ltb (ceil_div 0 g.b) 0 (omega arith)) }, empty_tight g n)

-- the map holds no key
pub empty_map : (g : Geometry) → map_of (rows (empty_store g)) ≡ []
unfolding map_of view overlay empty_store unmarked
empty_map g = ap unmarked (empty_view g.h)

pub empty_fits : (g : Geometry) → Fits g (empty_store g)
unfolding empty_store
empty_fits g = record {
  level_count = length-replicate g.h [];
  top_fits = omega arith;
  level_fits = λ i h. omega (arith, ap (λ (l : Level). length l) (empty_at g.h i));
  blocks_fit = rw (empty_blocks g.h) tt;
}

pub empty_sound : (g : Geometry) → Valid g → Sound g (empty_store g)
unfolding empty_store live_count
empty_sound g v = record {
  live_exact = ap length (empty_map g);
  live_fits = omega arith;
  cursor_inside = let p = v.places_low in omega arith;
  places_once = ap distinct (empty_used g.h);
  keys_rise = empty_rising g.h;
  bottom_unmarked = ap (λ (l : Level). has_tombstone (records l)) (empty_at g.h (g.h - 1));
  tombstones_clean = empty_clean g.h;
  tight = empty_tight g g.h;
}
