-- All merges of a call, one after the other: what they ask, and what they leave.
use Rattle.std.specs.Prelude.{ℕ, zero, suc, ◌+◌, ◌*◌, ◌≤◌, ◌≡◌, true, false, List, ltb, get_or, replicate, Option, Some, None}
use Rattle.geometry.specs.declared.Geometry.{Geometry}
use Rattle.geometry.specs.Geometry.{capacity_of, top_capacity_of}
use Rattle.levels.specs.Store.{Store, rows}
use Rattle.levels.specs.Call.{Merge, merges_from, after_merges}
use Rattle.levels.specs.Count as levels
use Rattle.levels.specs.Inside.{load, Inside, Entry, Ruled}
use Rattle.words.specs.Calls.{left_words}
use Rattle.words.specs.Passed.{Passed}
use Rattle.words.specs.Stores.{top_count_at, store_at}
use Rattle.steps.specs.declared.Run.{Run}
use Rattle.steps.specs.Running.{Tally, no_counts, counts_in, store_of, Stands, numbers_of, counts_before, Small}
use Rattle.layout.specs.Layouts.{Proper}
use Rattle.layout.specs.declared.Layout.{Layout}

-- the deepest of the levels 1 to i that is over its capacity, by the lengths of their lists; 0 if there is none
unfoldable pub deepest_for : Geometry → List ℕ → ℕ → ℕ
deepest_for g ns zero = 0
deepest_for g ns (suc i) = elim (ltb (capacity_of g (suc i)) (get_or ns i 0)) [ true ↦ suc i | false ↦ deepest_for g ns i ]

-- a level by its number, and none by 0
abbrev pub numbered : ℕ → Option ℕ
numbered zero = None
numbered (suc i) = Some (suc i)

-- The largest load that a store has: at most so many merges follow each other in a call.
abbrev pub load_most : ℕ
load_most = 98304

-- A moment of a call between two merges, with at most so many to come: the load falls with each. A merge adds at most 16,384 to a
-- count, so that the bound leaves room for all of them.
pub record Rolling (steps : ℕ) (z : Layout) (ws lists : List ℕ) (r : Run) : Type 0 where
  pub proper : Proper z
  pub entry : Store
  pub entry_is : Entry z.geo entry
  pub inside : Inside z.geo entry (store_of z ws lists r)
  pub ruled : Ruled z.geo (store_of z ws lists r)
  pub stands : Stands z (store_of z ws lists r) ws lists r
  pub load_low : load (rows (store_of z ws lists r)) ≤ steps
  pub bound : ℕ
  pub small : Small bound r.tally
  pub bound_low : bound + 16384 * steps ≤ counts_before

-- the counts of a list of merges
abbrev pub list_counts : List Merge → ℕ → levels.Counts
list_counts ms j = levels.counts_of j ms

-- words that pass the form check, with a full level 0
pub record FullStore (z : Layout) (ws : List ℕ) : Type 0 where
  pub passed : Passed z ws
  pub full : top_count_at z ws ≡ top_capacity_of z.geo

-- the lists taken out of such words
pub record Loaded (z : Layout) (ws lists : List ℕ) (r : Run) : Type 0 where
  pub stands : Stands z (store_at z ws) ws lists r
  pub none : r.tally ≡ replicate 3 no_counts

-- all merges of a call made: the words afterwards, and the counts
pub record MergedAll (z : Layout) (ws ws' : List ℕ) (r : Tally) : Type 0 where
  pub words : ws' ≡ left_words z ws (merges_from z.geo (store_at z ws)) (after_merges (store_at z ws) (merges_from z.geo (store_at z ws)))
  pub one : numbers_of (counts_in r 0) ≡ levels.counts_of 1 (merges_from z.geo (store_at z ws))
  pub two : numbers_of (counts_in r 1) ≡ levels.counts_of 2 (merges_from z.geo (store_at z ws))
  pub three : numbers_of (counts_in r 2) ≡ levels.counts_of 3 (merges_from z.geo (store_at z ws))
