-- Step 1 of a merge over key fences: the choice of the run needs the first and the last key of each block, and no words of the places.
use Rattle.std.specs.Prelude.{ℕ, suc, ◌-◌, ◌≤◌, ◌&&◌, List, [], ◌∷◌, map, leb, ltb, length, take, drop}
use Rattle.slices.specs.Ranks.{count_below}
use Rattle.levels.specs.Basics.{if◌then◌otherwise◌}
use Rattle.levels.specs.Record.{Block, first_key, last_key}
use Rattle.levels.specs.Choose.{Least, least_of}
use Rattle.choice.specs.declared.Choice.{Choice}
use Rattle.choice.specs.declared.Fence.{Fence}
use Rattle.choice.specs.declared.Stretch.{Stretch}

-- the fence of a block
abbrev pub fence_of : Block → Fence
fence_of b = record { first = first_key b.recs; last = last_key b.recs }

-- Blocks in key order: none ends before it begins, and each begins above the end of the one before it, the first not below `low`.
abbrev pub Ordered : ℕ → List Fence → Type 0
Ordered low [] = Unit {0}
Ordered low (f ∷ fs) = (low ≤ f.first) × ((f.first ≤ f.last) × Ordered (suc f.last) fs)

-- the runs of w neighbours, lowest keys first
unfoldable pub fence_runs : ℕ → List Fence → List (List Fence)
fence_runs w [] = []
fence_runs w (f ∷ fs) = if leb w (suc (length fs)) then take w (f ∷ fs) ∷ fence_runs w fs otherwise []

-- first and last key of a run
unfoldable pub low_of : List Fence → ℕ
low_of [] = 0
low_of (f ∷ fs) = f.first

unfoldable pub high_of : List Fence → ℕ
high_of [] = 0
high_of (f ∷ []) = f.last
high_of (f ∷ e ∷ fs) = high_of (e ∷ fs)

-- the number of blocks that a run from key lo to key hi overlaps
unfoldable pub count_over : ℕ → ℕ → List Fence → ℕ
count_over lo hi [] = 0
count_over lo hi (f ∷ fs) = if leb lo f.last && leb f.first hi then suc (count_over lo hi fs) otherwise count_over lo hi fs

unfoldable pub fence_overlap : List Fence → List Fence → ℕ
fence_overlap under run = count_over (low_of run) (high_of run) under

-- the overlap of each run, lowest keys first
unfoldable pub overlaps_of : ℕ → List Fence → List Fence → List ℕ
overlaps_of w above under = map (fence_overlap under) (fence_runs w above)

-- how many numbers of a list are at most a key: those below the number after it
abbrev pub count_at_most : ℕ → List ℕ → ℕ
count_at_most key xs = count_below (suc key) xs

abbrev pub first_keys : List Fence → List ℕ
first_keys fs = map (λ (f : Fence). f.first) fs

abbrev pub last_keys : List Fence → List ℕ
last_keys fs = map (λ (f : Fence). f.last) fs

-- Where Y lies below a run: it starts behind the blocks whose last key is below the run's first key,
-- and ends with the blocks whose first key isn't above the run's last.
unfoldable pub stretch_of : List Fence → List Fence → Stretch
stretch_of run under = record { start = count_below (low_of run) (last_keys under); end = count_at_most (high_of run) (first_keys under) }

-- a run by its index and its overlap, with the stretch below it
pub record Fewest : Type 0 where
  pub run : Least
  pub below : Stretch

abbrev pub with_stretch : ℕ → List Fence → List Fence → Least → Fewest
with_stretch w above under l = record { run = l; below = stretch_of (take w (drop l.at above)) under }

-- the run that overlaps the fewest blocks below, of equals the one with the lowest keys; and the stretch below it
unfoldable pub choose_fences : ℕ → List Fence → List Fence → Fewest
choose_fences w above under = with_stretch w above under (least_of (overlaps_of w above under))

-- the same as the code has it
abbrev pub choice_of : Fewest → Choice
choice_of c = record { first = c.run.at; overlap = c.run.value; below = c.below }

-- Card 4: a run by the two ends below it. Its overlap is the upper end less the lower one.
abbrev pub run_over : ℕ → Stretch → Choice
run_over i y = record { first = i; overlap = y.end - y.start; below = y }

-- Card 4, "ties included": a later run replaces the choice so far only if it overlaps fewer.
abbrev pub fewer : Choice → Choice → Choice
fewer best later = if ltb later.overlap best.overlap then later otherwise best
