-- What holds of the store between the changes of a call (document 01, "The merges of a call").
use Rattle.std.specs.Prelude.{ℕ, suc, ◌+◌, ◌*◌, ◌<◌, ◌≤◌, ◌≡◌, true, false, List, [], ◌∷◌, length, get_or, take, ltb}
use Rattle.geometry.specs.declared.Geometry.{Geometry}
use Rattle.geometry.specs.Geometry.{capacity_of, capacity_sum, key_limit_of}
use Rattle.levels.specs.Basics.{all, total}
use Rattle.levels.specs.Record.{Rec, has_tombstone, clean_tombstones}
use Rattle.levels.specs.Store.{Store, rows, used_in}
use Rattle.levels.specs.Map.{look_up, live_count}
use Rattle.levels.specs.Waste.{needs_compact}
use Rattle.levels.specs.Place.{distinct}
use Rattle.levels.specs.Rising.{Risings}
use Rattle.levels.specs.Well.{Well}
use Rattle.levels.specs.Taking.{fresh}

-- the records of the first n rows
abbrev pub records_above : ℕ → List (List Rec) → ℕ
records_above n ls = total (λ (l : List Rec). length l) (take n ls)

-- the sum over all records of the number of rows below theirs
abbrev pub load : List (List Rec) → ℕ
load [] = 0
load (l ∷ ls) = length ls * length l + load ls

-- No call makes more merges (`MergesFew`): each takes the records of W(i) blocks one level down, and the load is bounded.
abbrev pub merges_most : ℕ
merges_most = 512

-- What holds of the store at every moment of a call's merges: at the start and the end of each merge and after each compaction.
-- The map, live and the number of records above level h are those of the store `e` at the call's entry.
pub record Inside (g : Geometry) (e s : Store) : Type 0 where
  -- h levels, each by the pair rule and with 1 to B records a block, every block with a place
  pub many : length s.levels ≡ g.h
  pub wells : (j : ℕ) → Well g.b (get_or s.levels j [])
  pub placed : (j : ℕ) → fresh (get_or s.levels j []) ≡ 0
  -- "longer than K(i) if need be": at most twice
  pub doubled : (j : ℕ) → length (get_or s.levels j []) ≤ 2 * capacity_of g (suc j)
  -- "keys rise strictly in each level", "the payloads of marks are 0", "level h has no marks"
  pub sorted : Risings (rows s)
  pub clean : all clean_tombstones (rows s) ≡ true
  pub bottom : has_tombstone (get_or (rows s) g.h []) ≡ false
  -- "listed places are below P, none twice over all levels", "hand is below P"
  pub once : distinct (used_in s) ≡ true
  pub within : all (λ (p : ℕ). ltb p g.p) (used_in s) ≡ true
  pub cursor : s.cursor < g.p
  -- the same map and live as at the call's entry, and no more records above level h
  pub looks : (k : ℕ) → look_up k (rows s) ≡ look_up k (rows e)
  pub above : records_above g.h (rows s) ≤ records_above g.h (rows e)
  pub live : s.live ≡ e.live

-- What holds of the store at the call's entry, as far as the last level's bound needs it.
pub record Entry (g : Geometry) (e : Store) : Type 0 where
  pub sorted : Risings (rows e)
  pub live_exact : live_count (rows e) ≡ e.live
  pub live_fits : e.live ≤ key_limit_of g
  pub above_fits : records_above g.h (rows e) ≤ g.b * capacity_sum g 0 g.h

-- no level needs compacting: so it is between two merges, after step 5
abbrev pub Ruled : Geometry → Store → Type 0
Ruled g s = (j : ℕ) → needs_compact g.b (get_or s.levels j []) ≡ false
