-- The last level fits: its records are at most the live keys and the tombstones above it; and by the level rule its blocks are then at most K(h).
use Prim.Native.Nat.{ℕ, zero, suc, ◌+◌, ◌-◌, ◌*◌, ◌<◌, ◌≤◌}
use mathlib.Core.Path.{◌≡◌, refl, ◌∙◌, ap}
use mathlib.Core.Bool.{Bool, true, false, ◌&&◌, true≢false}
use mathlib.Core.List.{List, [], ◌∷◌}
use native.Mathlib.Omega.{arith}
use native.Mathlib.Decide.{dec_lt}
use native.Mathlib.Nat.{div-mul-le_self, mul-le-mul_left, mul-le-mul_right}
use lib.Dec.{ltb}
use lib.ListN.{length, get_or, take}
use borrow.Author.Tests.{ltb-false}
use Rattle.geometry.specs.declared.Geometry.{Geometry}
use Rattle.geometry.specs.Geometry.{Valid, capacity_of, capacity_sum, key_limit_of}
use Rattle.geometry.proofs.Laws.{capacity_sum_first}
use Rattle.levels.specs.Basics.{if◌then◌otherwise◌, total, ceil_div}
use Rattle.levels.specs.Record.{Rec, Level, records, has_tombstone}
use Rattle.levels.specs.Map.{into, overlay, view, unmarked, map_of, live_count}
use Rattle.levels.specs.Waste.{wasteful}
use Rattle.levels.specs.Well.{Sized}
use Rattle.levels.proofs.Overlay.{overlay_nil, into_below, into_same, into_above, Way, less, same, more, way}
use Rattle.levels.proofs.View.{unmarked_drop, unmarked_keep, clean_unmarked}
use Rattle.levels.proofs.Levels.{sized_most}

-- 1 for a tombstone; 1 for a record that is none
abbrev dead : Rec → ℕ
dead r = if r.tombstone then 1 otherwise 0

abbrev alive : Rec → ℕ
alive r = if r.tombstone then 0 otherwise 1

-- the tombstones of a list
abbrev pub tombstones : List Rec → ℕ
tombstones [] = 0
tombstones (r ∷ rs) = dead r + tombstones rs

dead_alive : (r : Rec) → dead r + alive r ≡ 1
dead_alive r = go r.tombstone
  where
    go : (t : Bool) → (if t then 1 otherwise 0) + (if t then 0 otherwise 1) ≡ 1
    go true = refl
    go false = refl

-- one record more
unmarked_count : (r : Rec) (rs : List Rec) → length (unmarked (r ∷ rs)) ≡ alive r + length (unmarked rs)
unmarked_count r rs = go r.tombstone refl
  where
    go : (t : Bool) → r.tombstone ≡ t → length (unmarked (r ∷ rs)) ≡ (if t then 0 otherwise 1) + length (unmarked rs)
    go true e = ap length (unmarked_drop r rs e) ∙ omega arith
    go false e = ap length (unmarked_keep r rs e) ∙ omega arith

-- each record is a tombstone or stays
pub tombstones_unmarked : (rs : List Rec) → tombstones rs + length (unmarked rs) ≡ length rs
unfolding unmarked
tombstones_unmarked [] = refl
tombstones_unmarked (r ∷ rs) = omega (arith, tombstones_unmarked rs, unmarked_count r rs, dead_alive r)

-- a tombstone above hides at most one record
module _ (x : Rec) (m : ℕ) (f : List Rec → List Rec) (hf : (zs : List Rec) → length (unmarked zs) ≤ length (unmarked (f zs)) + m) where
  into_unmarked : (ys : List Rec) → length (unmarked ys) ≤ length (unmarked (into x f ys)) + (dead x + m)
  unfolding into
  into_unmarked [] = omega (arith, hf [], unmarked_count x (f []))
  into_unmarked (y ∷ ys) = go (way y.key x.key) (into_unmarked ys)
    where
      go : Way y.key x.key → length (unmarked ys) ≤ length (unmarked (into x f ys)) + (dead x + m)
          → length (unmarked (y ∷ ys)) ≤ length (unmarked (into x f (y ∷ ys))) + (dead x + m)
      go (less h) ih = rw (into_below x f y ys h) (omega (arith, ih, unmarked_count y ys, unmarked_count y (into x f ys)))
      go (same h) ih = rw (into_same x f y ys h) (omega (arith, hf ys, unmarked_count y ys, unmarked_count x (f ys), dead_alive x, dead_alive y))
      go (more h) ih = rw (into_above x f y ys h) (omega (arith, hf (y ∷ ys), unmarked_count x (f (y ∷ ys))))

-- so a list laid over another hides at most as many records as it has tombstones
pub overlay_unmarked : (us ls : List Rec) → length (unmarked ls) ≤ length (unmarked (overlay us ls)) + tombstones us
unfolding overlay
overlay_unmarked [] ls = omega arith
overlay_unmarked (u ∷ us) ls = into_unmarked u (tombstones us) (λ zs. overlay us zs) (λ zs. overlay_unmarked us zs) ls

-- live + (tombstones of the levels above the last) ≥ records of the last level, which has no tombstone; row m is the last
pub last_fits : (ls : List (List Rec)) (m : ℕ) → suc m ≡ length ls → has_tombstone (get_or ls m []) ≡ false
    → length (get_or ls m []) ≤ live_count ls + total tombstones (take m ls)
unfolding live_count map_of view
last_fits [] m e c = absurd (omega (arith, e))
last_fits (l ∷ []) zero e c = omega (arith, ap (λ (r : List Rec). length (unmarked r)) (overlay_nil l), ap length (clean_unmarked l c))
last_fits (l ∷ a ∷ ls) zero e c = absurd (omega (arith, e))
last_fits (l ∷ ls) (suc m) e c = omega (arith, last_fits ls m (omega (arith, e)) c, overlay_unmarked l (view ls))

tombstones_most : (ls : List (List Rec)) → total tombstones ls ≤ total (λ (l : List Rec). length l) ls
tombstones_most [] = omega arith
tombstones_most (l ∷ ls) = omega (arith, tombstones_unmarked l, tombstones_most ls)

-- and so live + (records of the levels above the last) ≥ records of the last level
pub last_fits_records : (ls : List (List Rec)) (m : ℕ) → suc m ≡ length ls → has_tombstone (get_or ls m []) ≡ false
    → length (get_or ls m []) ≤ live_count ls + total (λ (l : List Rec). length l) (take m ls)
last_fits_records ls m e c = omega (arith, last_fits ls m e c, tombstones_most (take m ls))

-- the level rule: a level that needs no compacting and holds at most 4BK/5 records has at most K blocks
pub rule_fits : (B a R K : ℕ) → 1 ≤ B → wasteful B a R ≡ false → 5 * R ≤ 4 * (B * K) → a ≤ K
rule_fits B a R K p e h = go (dec_lt K a)
  where
    go : Dec (K < a) → a ≤ K
    go (no d) = omega arith
    go (yes d) = split (ltb (ceil_div R B) a) (ltb (a * B) (5 * (a * B - R))) refl refl e
      where
        big : B * K + B ≤ a * B
        big = omega (arith, mul-le-mul_left B d)

        split : (s t : Bool) → ltb (ceil_div R B) a ≡ s → ltb (a * B) (5 * (a * B - R)) ≡ t → (s && t) ≡ false → a ≤ K
        split true true ds dt e = absurd (true≢false e)
        split true false ds dt e = absurd (omega (arith, big, ltb-false (a * B) (5 * (a * B - R)) dt))
        split false t ds dt e =
            let c : a ≤ ceil_div R B = ltb-false (ceil_div R B) a ds in
            let m = div-mul-le_self (R + (B - 1)) B in
            absurd (omega (arith, big, m, mul-le-mul_right B c))

-- "Key limit N = (4 × B × K(h) divided by 5, rounded down) − B × (K(0) + .. + K(h−1))": live keys up to N, and full levels above h, are at most 4BK(h)/5
pub limit_fits : (g : Geometry) (live above : ℕ) → Valid g → live ≤ key_limit_of g → above ≤ g.b * capacity_sum g 0 g.h → 5 * (live + above) ≤ 4 * (g.b * capacity_of g g.h)
unfolding key_limit_of
limit_fits g live above v h k = omega (arith, v.limit_low, div-mul-le_self (4 * g.b * capacity_of g g.h) 5)

-- Level h holds at most K(h) blocks when it needs no compacting: R are its records, at most the live keys and the records above.
pub bottom_fits : (g : Geometry) (a R live above : ℕ) → Valid g → wasteful g.b a R ≡ false → R ≤ live + above → live ≤ key_limit_of g → above ≤ g.b * capacity_sum g 0 g.h → a ≤ capacity_of g g.h
bottom_fits g a R live above v e r h k =
    let b = v.ranged.b_low in
    rule_fits g.b a R (capacity_of g g.h) (omega arith) e (omega (arith, limit_fits g live above v h k))

-- each level from level i on has at most K(i) blocks of 1 to B records
abbrev pub Within : Geometry → ℕ → List Level → Type 0
Within g i [] = Unit {0}
Within g i (l ∷ ls) = (length l ≤ capacity_of g i) × Sized g.b l × Within g (suc i) ls

-- so together they hold at most B × (K(i) + ..) records
pub within_records : (g : Geometry) (i : ℕ) (ls : List Level) → Within g i ls → total (λ (l : Level). length (records l)) ls ≤ g.b * capacity_sum g i (length ls)
unfolding capacity_sum
within_records g i [] h = omega arith
within_records g i (l ∷ ls) h =
    omega (arith, sized_most g.b l h.1, mul-le-mul_right g.b h.0, within_records g (suc i) ls h.2, ap (λ (n : ℕ). g.b * n) (capacity_sum_first g i (length ls)))
