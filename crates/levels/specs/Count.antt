-- Demand 3's numbers of a merge, and the three counts of a put or delete (document 01, "The merges of a call").
use Rattle.std.specs.Prelude.{ℕ, suc, List, eqb, length, take, drop}
use Rattle.geometry.specs.declared.Geometry.{Geometry}
use Rattle.levels.specs.Basics.{if◌then◌otherwise◌, total}
use Rattle.levels.specs.Record.{Level}
use Rattle.levels.specs.Choose.{overlap}
use Rattle.levels.specs.Place.{newly_used}
use Rattle.levels.specs.Store.{blocks_of, used_in}
use Rattle.levels.specs.Call.{Compaction, Merge}

-- the upper and the lower level "at the merge's start"; of level 0, its pages
unfoldable pub above_of : Geometry → Merge → Level
above_of g m = blocks_of g m.level m.start

unfoldable pub under_of : Geometry → Merge → Level
under_of g m = blocks_of g (suc m.level) m.start

-- "a is the number of blocks of level i (in level 0, pages) and its n that of level i + 1"
unfoldable pub above_count : Geometry → Merge → ℕ
above_count g m = length (above_of g m)

unfoldable pub under_count : Geometry → Merge → ℕ
under_count g m = length (under_of g m)

-- X, and "q is X's" overlap
unfoldable pub run_of : Geometry → Merge → Level
run_of g m = take m.window (drop m.first (above_of g m))

unfoldable pub overlap_of : Geometry → Merge → ℕ
overlap_of g m = overlap (under_of g m) (run_of g m)

-- "Blocks written by a merge are the places in use at its end that were not in use at its start, step 2's block with them."
unfoldable pub blocks_merged : Merge → ℕ
blocks_merged m = newly_used (used_in m.start) (used_in m.finish)

-- "Blocks written compacting a level are the places in use at the end of the compaction that were not in use at its start."
unfoldable pub blocks_compacted : Compaction → ℕ
blocks_compacted c = newly_used (used_in c.start) (used_in c.finish)

-- "Put and delete answer for each level 1 to 3: merges into it, blocks written by them, blocks written compacting it."
pub record Counts : Type 0 where
  pub merges : ℕ
  pub written : ℕ
  pub compacted : ℕ

-- the sum of f over the merges into level j
abbrev pub total_into : ℕ → (Merge → ℕ) → List Merge → ℕ
total_into j f ms = total (λ (m : Merge). if eqb (suc m.level) j then f m otherwise 0) ms

-- the blocks written by those of these compactions that are of level j
abbrev pub total_compacted : ℕ → List Compaction → ℕ
total_compacted j cs = total (λ (c : Compaction). if eqb c.level j then blocks_compacted c otherwise 0) cs

unfoldable pub counts_of : ℕ → List Merge → Counts
counts_of j ms = record {
  merges = total_into j (λ m. 1) ms;
  written = total_into j blocks_merged ms;
  compacted = total (λ (m : Merge). total_compacted j m.compactions) ms;
}
