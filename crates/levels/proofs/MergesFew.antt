-- A put or delete makes at most 512 merges. Each later one takes W(1) blocks or more a level down, with at least W(1) × (B + 1)/4 records;
-- and the sum over all records of the levels below theirs is at most 128 × B × W(1) when the call begins.
use Prim.Native.Nat.{ℕ, zero, suc, ◌+◌, ◌-◌, ◌*◌, ◌<◌, ◌≤◌}
use mathlib.Core.Path.{◌≡◌, refl, ap, ◌∙◌}
use mathlib.Core.Bool.{Bool, true, false, ◌||◌}
use mathlib.Core.List.{List, [], ◌∷◌, map}
use native.Mathlib.Omega.{arith}
use native.Mathlib.Decide.{dec_lt}
use native.Mathlib.Nat.{mul-le-mul, mul-le-mul_left, mul-le-mul_right}
use lib.Dec.{ltb}
use lib.ListN.{length}
use Rattle.geometry.specs.declared.Geometry.{Geometry}
use Rattle.geometry.specs.Geometry.{Valid, Ranged, capacity_of, top_capacity_of, window_of}
use Rattle.geometry.proofs.Bounds.{pow_three}
use Rattle.geometry.proofs.Laws.{capacity_windows, capacity_grows, capacity_doubles, window_low}
use Rattle.levels.specs.Basics.{is_some}
use Rattle.levels.specs.Record.{Rec, Level, records}
use Rattle.levels.specs.Map.{find}
use Rattle.levels.specs.Store.{Store, rows, blocks_of}
use Rattle.levels.specs.Choose.{cut_at}
use Rattle.levels.specs.Call.{Merge, merge_run, merge_level, after_merge, deepest_over, merges_below, enough_steps}
use Rattle.levels.specs.Put.{merges_for}
use Rattle.levels.specs.Count.{above_of, under_of}
use Rattle.levels.specs.InCall.{Mergeable, Due}
use Rattle.levels.specs.Sound.{Fits, Sound}
use Rattle.levels.specs.Inside.{load, merges_most, Inside, Entry, Ruled}
use Rattle.levels.proofs.Levels.{sized_most, pairs_least}
use Rattle.levels.proofs.Capacity.{window_half, window_mono}
use Rattle.levels.proofs.Cut.{run_length, cut_well}
use Rattle.levels.proofs.Fits.{Within}
use Rattle.levels.proofs.MergeInside.{chosen_at, chosen_can, chosen_falls}
use Rattle.levels.proofs.InCall.{next_facts, merge_start, below_stop, below_go, below_none}
use Rattle.levels.proofs.Entry.{entry_of, entry_within}
use Rattle.levels.proofs.CallMerges.{for_none, for_full, from_is, full_top, first_facts}

-- the run of a merge out of a listed level holds at least W(1) × (B + 1)/4 records
run_heavy : (g : Geometry) (j first : ℕ) (above under : Level) → Ranged g → Mergeable g.b (window_of g (suc j)) first above under
    → window_of g 1 * (g.b + 1) ≤ 4 * length (records (cut_at (window_of g (suc j)) first above under).run)
run_heavy g j first above under k h =
    let w : ℕ = window_of g (suc j) in
    let x : Level = (cut_at w first above under).run in
    let l : length x ≡ w = run_length w first above under h.whole in
    let m : window_of g 1 ≤ w = window_mono g k {i = 1} {j = suc j} (omega arith) in
    let p = pairs_least g.b x (cut_well g.b w first above under h.above_well h.under_well).run (omega (arith, l, m, window_half g k 0, window_low g k 0)) in
    omega (arith, p, ap (λ (n : ℕ). n * (g.b + 1)) l, mul-le-mul_right (g.b + 1) m)

-- the deepest level over its capacity merges next: four times the load falls by W(1) × (B + 1) or more
next_falls : (g : Geometry) (e s : Store) (j : ℕ) → Valid g → Entry g e → Inside g e s → Ruled g s → deepest_over g (g.h - 1) s ≡ suc j
    → window_of g 1 * (g.b + 1) + 4 * load (rows (after_merge (merge_level g (suc j) s))) ≤ 4 * load (rows s)
unfolding merge_level merge_run above_of under_of
next_falls g e s j v t n r q =
    let f = next_facts g e s j v t n r q in
    let d : Due g (suc j) (blocks_of g (suc j) s) (blocks_of g (suc (suc j)) s) = f.due in
    let a = run_heavy g j (chosen_at g (suc j) s) (blocks_of g (suc j) s) (blocks_of g (suc (suc j)) s) v.ranged (chosen_can g e s (suc j) v f.level_high n d) in
    omega (arith, a, chosen_falls g e s (suc j) v f.level_high n d, ap load f.five.same_rows)

-- so the merges out of the listed levels are at most 4 × load divided by W(1) × (B + 1)
below_few : (n : ℕ) (g : Geometry) (e s : Store) → Valid g → Entry g e → Inside g e s → Ruled g s → length (merges_below n g s) * (window_of g 1 * (g.b + 1)) ≤ 4 * load (rows s)
below_few zero g e s v t i r = rw (below_none g s) (omega arith)
below_few (suc n) g e s v t i r = go (deepest_over g (g.h - 1) s) refl (λ x y z. below_few n g e x v t y z)
  where
    go : (o : ℕ) → deepest_over g (g.h - 1) s ≡ o → ((x : Store) → Inside g e x → Ruled g x → length (merges_below n g x) * (window_of g 1 * (g.b + 1)) ≤ 4 * load (rows x))
        → length (merges_below (suc n) g s) * (window_of g 1 * (g.b + 1)) ≤ 4 * load (rows s)
    go zero q ih = rw (below_stop (suc n) g s q) (omega arith)
    go (suc j) q ih =
        let f = next_facts g e s j v t i r q in
        rw (below_go n g s j q) (omega (arith, next_falls g e s j v t i r q, ih (after_merge (merge_level g (suc j) s)) f.five.inside f.after_ruled))

-- d × (7 + 2G) is at most 256 where d is at most 16 and d × G³ at most 1,024: for G of 4 or less by d, and from 5 on by d × G
growth_few : (d G : ℕ) → d ≤ 16 → d * (G * G * G) ≤ 1024 → d * (7 + 2 * G) ≤ 256
growth_few d G h k = go (dec_lt G 5)
  where
    go : Dec (G < 5) → d * (7 + 2 * G) ≤ 256
    go (yes l) = let m : 7 + 2 * G ≤ 15 = omega arith in omega (arith, mul-le-mul h m)
    go (no l) =
        let m : 5 ≤ G = omega arith in
        omega (arith, k, mul-le-mul_left d m, mul-le-mul_left (d * G) (mul-le-mul m m))

-- "K(h) is at most 1,024": so is d × G³ where h is 3
cube_few : (g : Geometry) → Valid g → g.h ≡ 3 → g.d * (g.g * g.g * g.g) ≤ 1024
unfolding capacity_of
cube_few g v e =
    omega (
      arith,
      mul-le-mul_right (g.d * (g.g * g.g * g.g)) v.ranged.w_low,
      v.bottom_high,
      ap (capacity_of g) e,
      ap (λ (n : ℕ). g.w * g.d * n) (pow_three g.g),
    )

-- where h is 3, 7 × K(1) + 2 × K(2) is at most 256 × W(1)
capacity_few : (g : Geometry) → Valid g → g.h ≡ 3 → 7 * capacity_of g 1 + 2 * capacity_of g 2 ≤ 256 * window_of g 1
capacity_few g v e =
    omega (
      arith,
      mul-le-mul_right (window_of g 1) (growth_few g.d g.g v.ranged.d_high (cube_few g v e)),
      capacity_windows g 1,
      capacity_grows g 1,
      ap (λ (n : ℕ). g.g * n) (capacity_windows g 1),
    )

-- a level within its capacity holds at most K(i) × B records
level_few : (g : Geometry) (i : ℕ) (l : Level) (ls : List Level) → Within g i (l ∷ ls) → length (records l) ≤ capacity_of g i * g.b
level_few g i l ls h = omega (arith, sized_most g.b l h.1, mul-le-mul_right g.b h.0)

-- where every level is within its capacity, the load is at most 128 × B × W(1): level 0 counts at most as three halves of level 1, and K(1) is d × W(1)
load_few : (g : Geometry) (t : List Rec) (ls : List Level) → Valid g → length ls ≡ g.h → length t ≤ top_capacity_of g → Within g 1 ls → load (t ∷ map records ls) ≤ 128 * (window_of g 1 * g.b)
unfolding top_capacity_of
load_few g t ls v e a b = go ls e b
  where
    zeroth : 2 * length t ≤ capacity_of g 1 * g.b
    zeroth = omega (arith, a, mul-le-mul_right g.b (capacity_doubles g v.ranged 0))

    first : capacity_of g 1 * g.b ≤ 16 * (window_of g 1 * g.b)
    first = omega (arith, ap (λ (n : ℕ). n * g.b) (capacity_windows g 1), mul-le-mul_right (window_of g 1 * g.b) v.ranged.d_high)

    go : (ls : List Level) → length ls ≡ g.h → Within g 1 ls → load (t ∷ map records ls) ≤ 128 * (window_of g 1 * g.b)
    go [] e b = omega arith
    go (x ∷ []) e b = omega (arith, zeroth, first)
    go (x ∷ y ∷ []) e b = omega (arith, zeroth, first, level_few g 1 x (y ∷ []) b)
    go (x ∷ y ∷ z ∷ []) e b = omega (arith, zeroth, level_few g 1 x (y ∷ z ∷ []) b, level_few g 2 y (z ∷ []) b.2, mul-le-mul_right g.b (capacity_few g v (omega (arith, e))))
    go (x ∷ y ∷ z ∷ u ∷ us) e b = absurd (omega (arith, e, v.ranged.h_high))

-- n merges of W × (B + 1) each from a load below 128 × B × W: fewer than 512
count_few : (n W B l : ℕ) → n * (W * (B + 1)) ≤ 4 * l → l < 128 * (W * B) → n < 512
count_few n W B l h k = go (dec_lt n 512)
  where
    go : Dec (n < 512) → n < 512
    go (yes d) = d
    go (no d) = absurd (omega (arith, mul-le-mul_right {m = 512} {n = n} (W * (B + 1)) (omega arith)))

-- a put or delete makes at most 512 merges
pub merges_few : (g : Geometry) (s : Store) → Valid g → Fits g s → Sound g s → (k : ℕ) → length (merges_for g s k) ≤ merges_most
merges_few g s v f o k = go (is_some (find k s.top) || ltb (length s.top) (top_capacity_of g)) refl
  where
    go : (t : Bool) → (is_some (find k s.top) || ltb (length s.top) (top_capacity_of g)) ≡ t → length (merges_for g s k) ≤ merges_most
    go true e = rw (for_none g s k e) (omega arith)
    go false e =
        let m : Merge = merge_level g 0 s in
        let d = first_facts g s v f o (full_top g s v f o k e) in
        let b = below_few (enough_steps g s) g s (after_merge m) v (entry_of g s v f o) d.five.inside d.after_ruled in
        let l = load_few g s.top s.levels v f.level_count f.top_fits (entry_within g s v f o) in
        let c = count_few (length (merges_below (enough_steps g s) g (after_merge m))) (window_of g 1) g.b (load (rows (after_merge m))) b (omega (arith, l, d.falls, ap (λ (x : Store). load (rows x)) (merge_start g 0 s))) in
        omega (arith, c, ap length (for_full g s k e ∙ from_is g s))
