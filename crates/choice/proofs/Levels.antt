-- The fences of levels: the choice by fences is the choice by blocks, and a level whose keys rise has ordered fences.
use Prim.Native.Nat.{ℕ, suc}
use mathlib.Core.Path.{◌≡◌, refl, sym, ap}
use mathlib.Core.Bool.{Bool, true, false}
use mathlib.Core.List.{[], ◌∷◌, map}
use lib.Dec.{leb}
use lib.ListN.{length, take, length-map}
use Rattle.levels.specs.Basics.{if◌then◌otherwise◌}
use Rattle.levels.specs.Record.{Level, records, rising, last_key}
use Rattle.levels.specs.Choose.{Least, runs, lo_of, hi_of, count_meets, overlap, choose}
use Rattle.choice.specs.Fences.{fence_of, Ordered, fence_runs, low_of, high_of, count_over, fence_overlap, overlaps_of, choose_fences, choice_of, with_stretch}
use Rattle.levels.proofs.Lists.{map_take}
use Rattle.levels.proofs.Rising.{test_rising}
use Rattle.levels.proofs.Levels as levels
use Rattle.choice.proofs.Lists.{map_of_map}
use Rattle.levels.proofs.Levels.{Filled}

runs_fences : (w : ℕ) (l : Level) → fence_runs w (map fence_of l) ≡ map (map fence_of) (runs w l)
unfolding fence_runs
runs_fences w [] = refl
runs_fences w (b ∷ bs) = rw (length-map bs fence_of) (go (leb w (suc (length bs))) (runs_fences w bs))
  where
    go : (t : Bool) → fence_runs w (map fence_of bs) ≡ map (map fence_of) (runs w bs)
        → (if t then take w (map fence_of (b ∷ bs)) ∷ fence_runs w (map fence_of bs) otherwise []) ≡ map (map fence_of) (if t then take w (b ∷ bs) ∷ runs w bs otherwise [])
    go true ih = rw (map_take fence_of w (b ∷ bs), ih)
    go false ih = refl

pub low_fences : (l : Level) → low_of (map fence_of l) ≡ lo_of l
unfolding low_of
low_fences [] = refl
low_fences (b ∷ bs) = refl

pub high_fences : (l : Level) → high_of (map fence_of l) ≡ hi_of l
unfolding high_of
high_fences [] = refl
high_fences (b ∷ []) = refl
high_fences (b ∷ c ∷ bs) = high_fences (c ∷ bs)

count_fences : (lo hi : ℕ) (l : Level) → count_over lo hi (map fence_of l) ≡ count_meets lo hi l
unfolding count_over
count_fences lo hi [] = refl
count_fences lo hi (b ∷ bs) = rw (count_fences lo hi bs)

overlap_fences : (under run : Level) → fence_overlap (map fence_of under) (map fence_of run) ≡ overlap under run
unfolding fence_overlap
overlap_fences under run = rw (low_fences run, high_fences run, count_fences (lo_of run) (hi_of run) under)

-- the choice by the first and last keys of the blocks is document 01's choice
pub choose_fences_lem : (w : ℕ) (above under : Level) → choose w above under ≡ (choose_fences w (map fence_of above) (map fence_of under)).run
unfolding choose_fences overlaps_of
choose_fences_lem w above under =
    rw (runs_fences w above, map_of_map (fence_overlap (map fence_of under)) (map fence_of) (overlap under) (overlap_fences under) (runs w above))

-- the same, of the choice as the code has it
pub choice_fences : (w : ℕ) (above under : Level) → choice_of (choose_fences w (map fence_of above) (map fence_of under)) ≡ choice_of (with_stretch w (map fence_of above) (map fence_of under) (choose w above under))
unfolding choose_fences
choice_fences w above under = ap (λ (l : Least). choice_of (with_stretch w (map fence_of above) (map fence_of under) l)) (sym (choose_fences_lem w above under))

-- Blocks in key order.

ordered_fences : (low : ℕ) (l : Level) → levels.Ordered low l → Ordered low (map fence_of l)
ordered_fences low [] o = tt
ordered_fences low (b ∷ bs) o = (o.0, (o.1, ordered_fences (suc (last_key b.recs)) bs o.2))

-- a level whose keys rise has its blocks in key order
pub level_ordered : (low : ℕ) (l : Level) → Filled l → rising low (records l) ≡ true → Ordered low (map fence_of l)
level_ordered low l f e = ordered_fences low l (levels.rising_ordered low l f (test_rising low (records l) e))
