-- Step 1 of a merge: the run of neighbours that overlaps the fewest blocks below (the paper's ChooseBest).
use Rattle.std.specs.Prelude.{ℕ, suc, ◌+◌, ◌/◌, Bool, ◌&&◌, List, [], ◌∷◌, map, leb, ltb, length, take, drop}
use Rattle.levels.specs.Basics.{if◌then◌otherwise◌, ceil_div}
use Rattle.levels.specs.Record.{Block, Level, first_key, last_key}

-- "A run is W(i) neighbours of level i": the runs of w neighbours, lowest keys first
abbrev pub runs : ℕ → Level → List Level
runs w [] = []
runs w (b ∷ bs) = if leb w (suc (length bs)) then take w (b ∷ bs) ∷ runs w bs otherwise []

-- first and last key of a run
abbrev pub lo_of : Level → ℕ
lo_of [] = 0
lo_of (b ∷ bs) = first_key b.recs

abbrev pub hi_of : Level → ℕ
hi_of [] = 0
hi_of (b ∷ []) = last_key b.recs
hi_of (b ∷ c ∷ bs) = hi_of (c ∷ bs)

-- "A run overlaps a block of level i + 1 if the block's last key isn't below the run's first key and its first key isn't above the run's last."
abbrev pub meets : ℕ → ℕ → Block → Bool
meets lo hi b = leb lo (last_key b.recs) && leb (first_key b.recs) hi

abbrev pub count_meets : ℕ → ℕ → Level → ℕ
count_meets lo hi [] = 0
count_meets lo hi (b ∷ bs) = if meets lo hi b then suc (count_meets lo hi bs) otherwise count_meets lo hi bs

-- "The overlap of a run is the number of such blocks"
abbrev pub overlap : Level → Level → ℕ
overlap under run = count_meets (lo_of run) (hi_of run) under

-- the least of a list of numbers, and the index where it first stands
pub record Least : Type 0 where
  pub at : ℕ
  pub value : ℕ

abbrev pub least : ℕ → List ℕ → Least
least q [] = record { at = 0; value = q }
least q (p ∷ ps) = let r = least p ps in if leb q r.value then record { at = 0; value = q } otherwise record { at = suc r.at; value = r.value }

abbrev pub least_of : List ℕ → Least
least_of [] = record { at = 0; value = 0 }
least_of (q ∷ qs) = least q qs

-- "X is the run of W(i) neighbours whose key range overlaps the fewest blocks below; of equals, the one with the lowest keys."
-- The index of its first block, and its overlap.
abbrev pub choose : ℕ → Level → Level → Least
choose w above under = least_of (map (overlap under) (runs w above))

-- Demand 3: "q is at most n divided by the whole part of a/w, rounded up"
abbrev pub overlap_bound : ℕ → ℕ → ℕ → ℕ
overlap_bound w a n = ceil_div n (a / w)

-- The two levels of a merge, cut: before, in and after X above; before, in and after Y below.
-- "Y is those blocks; if there are none, the blocks before and after Y are the nearest ones below and above X's keys."
pub record Cut : Type 0 where
  pub left : Level
  pub run : Level
  pub right : Level
  pub before : Level
  pub over : Level
  pub behind : Level

-- the blocks at the start of a level that end below lo
abbrev pub below : ℕ → Level → Level
below lo [] = []
below lo (b ∷ bs) = if ltb (last_key b.recs) lo then b ∷ below lo bs otherwise []

-- the blocks at the start of a level that do not begin above hi
abbrev pub not_above : ℕ → Level → Level
not_above hi [] = []
not_above hi (b ∷ bs) = if leb (first_key b.recs) hi then b ∷ not_above hi bs otherwise []

-- the cut for the run of w blocks from block `first` on
unfoldable pub cut_at : ℕ → ℕ → Level → Level → Cut
cut_at w first above under =
    let run = take w (drop first above) in
    let before = below (lo_of run) under in
    let rest = drop (length before) under in
    let over = not_above (hi_of run) rest in
    record {
      left = take first above;
      run = run;
      right = drop (first + w) above;
      before = before;
      over = over;
      behind = drop (length over) rest;
    }
