-- Demand 3, of the whole list of merges that a put or delete makes, on any words that pass the form check, refused calls included.
use Rattle.std.specs.Prelude.{ℕ, zero, suc, ◌+◌, ◌-◌, ◌*◌, ◌<◌, ◌≤◌, ◌≡◌, true, false, List, [], eqb, length, take, drop}
use Rattle.std.proofs.Math.Option.{Option, none, some}
use Rattle.geometry.specs.declared.Geometry.{Geometry}
use Rattle.geometry.specs.Geometry.{capacity_of, window_of, key_limit_of}
use Rattle.layout.specs.declared.Layout.{Layout}
use Rattle.levels.specs.Basics.{total}
use Rattle.levels.specs.Record.{Rec}
use Rattle.levels.specs.Map.{is_live}
use Rattle.levels.specs.Choose.{overlap, overlap_bound}
use Rattle.levels.specs.Waste.{needs_compact}
use Rattle.levels.specs.Store.{Store, rows, blocks_of}
use Rattle.levels.specs.Call.{Compaction, compact_level, Follows, Merge, merge_level, after_merge, after_merges, Chained}
use Rattle.levels.specs.Put.{merges_for, with_record, put_rec, delete_rec}
use Rattle.levels.specs.Count.{above_of, under_of, above_count, under_count, overlap_of, blocks_merged, Counts, total_into, total_compacted}
use Rattle.levels.specs.Every.{Every, First, Later}
use Rattle.levels.specs.Taking.{FoundFree}
use Rattle.levels.specs.InCall.{Deepest}
use Rattle.words.specs.Stores.{store_at}
use Rattle.words.specs.Calls.{ChangeAnswer, left_words}

-- What holds of one compacting of a merge's step 5.
pub record CompactionDemand (g : Geometry) (c : Compaction) : Type 0 where
  -- one of the levels 1 to h "is compacted if needed: all records anew, B to a block, the last with the rest"
  pub level_low : 1 ≤ c.level
  pub level_high : c.level ≤ g.h
  pub needed : needs_compact g.b (blocks_of g c.level c.start) ≡ true
  pub is : c ≡ compact_level g c.level c.start
  -- every write found a free place, the first after hand
  pub found : FoundFree g.p c.start c.finish c.written

-- What demand 3 claims of one merge, which takes a run of w blocks with overlap q, out of a level of a blocks, into a level of n.
pub record MergeDemand (g : Geometry) (m : Merge) : Type 0 where
  -- it is the merge of document 01 with its step 5, and "w is W(i)"
  pub is : m ≡ merge_level g m.level m.start
  pub window_is : m.window ≡ window_of g m.level
  -- "A merge from level i to i + 1": there is a level i + 1
  pub level_high : m.level < g.h
  -- "A run is W(i) neighbours of level i": X is the run from block `first` on, and "q is X's" overlap
  pub run_inside : m.first + m.window ≤ above_count g m
  pub overlap_is : overlap_of g m ≡ overlap (under_of g m) (take m.window (drop m.first (above_of g m)))
  -- "every other run of w neighbours in that level overlaps at least q blocks below"
  pub fewest : (j : ℕ) → j + m.window ≤ above_count g m → overlap_of g m ≤ overlap (under_of g m) (take m.window (drop j (above_of g m)))
  -- "of equals, the one with the lowest keys": a level is in key order, so X is the first of the runs with that overlap
  pub lowest : (j : ℕ) → j + m.window ≤ above_count g m → overlap (under_of g m) (take m.window (drop j (above_of g m))) ≡ overlap_of g m → m.first ≤ j
  -- "q is at most n divided by the whole part of a/w, rounded up"
  pub overlap_high : overlap_of g m ≤ overlap_bound m.window (above_count g m) (under_count g m)
  -- "and the merge writes at most w + q + 1 blocks, so never more than (G + 1) × w + 1"
  pub writes_high : blocks_merged m ≤ m.window + overlap_of g m + 1
  pub writes_growth : blocks_merged m ≤ (g.g + 1) * m.window + 1
  -- every write found a free place, the first after hand
  pub found : FoundFree g.p m.start m.finish m.written
  -- its compactings, step 5: each finds the store as the one before it left it, the first as the merge did; and then no level needs compacting
  pub compactions_in_order : Follows m.finish m.compactions
  pub compactions_each : Every (CompactionDemand g) m.compactions
  pub compacted : (i : ℕ) → 1 ≤ i → i ≤ g.h → needs_compact g.b (blocks_of g i (after_merge m)) ≡ false

-- the call's own record, and live as it is then
pub record Own : Type 0 where
  pub recorded : Rec
  pub live : ℕ

-- what a put enters, if it is not refused: one key more is live if k was not
abbrev pub own_put : Geometry → Store → ℕ → ℕ → Option Own
own_put g s k v = elim (is_live k (rows s)) [
  | true ↦ some (record { recorded = put_rec k v; live = s.live })
  | false ↦ elim (eqb s.live (key_limit_of g)) [ true ↦ none | false ↦ some (record { recorded = put_rec k v; live = suc s.live }) ]
]

-- what a delete enters, if its key is live: a mark, and one key fewer is live
abbrev pub own_delete : Geometry → Store → ℕ → Option Own
own_delete g s k = elim (is_live k (rows s)) [ true ↦ some (record { recorded = delete_rec k; live = s.live - 1 }) | false ↦ none ]

-- the store with it entered
abbrev pub with_own : Option Own → Store → Store
with_own none s = s
with_own (some o) s = with_record o.recorded o.live s

-- "the list that these rules give, first to last, from the lent store as it is at entry and the call's arguments"; a call that enters nothing gives the empty list
abbrev pub merges_own : Geometry → Store → Option Own → List Merge
merges_own g s none = []
merges_own g s (some o) = merges_for g s o.recorded.key

-- the three counts of level 1, 2 or 3 in an answer
abbrev pub counts_at : ChangeAnswer → ℕ → Counts
counts_at a zero = record { merges = 0; written = 0; compacted = 0 }
counts_at a (suc zero) = a.level1
counts_at a (suc (suc zero)) = a.level2
counts_at a (suc (suc (suc zero))) = a.level3
counts_at a (suc (suc (suc (suc n)))) = record { merges = 0; written = 0; compacted = 0 }

-- Demand 3: of the merges `ms` that a call makes on the words ws, its answer and the words `out` that it leaves; `own` is what it enters.
pub record Demand (z : Layout) (ws : List ℕ) (own : Option Own) (ms : List Merge) (answer : ChangeAnswer) (out : List ℕ) : Type 0 where
  -- "The merges of a call": "They are the list that these rules give"
  pub list : ms ≡ merges_own z.geo (store_at z ws) own
  -- "this holds of the whole list of merges that the call makes"
  pub each : Every (MergeDemand z.geo) ms
  -- "in their order": each finds the store as the one before it and its step 5 left it
  pub in_order : Chained (store_at z ws) ms
  -- "The first, if there is one, is out of level 0."
  pub first_out : First (λ m. m.level ≡ 0) ms
  -- "While a level holds more than K blocks, the deepest such merges next": so each later one is out of the deepest such level of the store that it finds,
  pub later_deepest : Later (Deepest z.geo) ms
  -- and the list is whole: in the end no level holds more than K
  pub ended : (i : ℕ) → i ≤ z.geo.h → length (blocks_of z.geo i (after_merges (store_at z ws) ms)) ≤ capacity_of z.geo i
  -- "Afterwards the lent store is, word for word, what this list with its compactings leaves, with the call's own record and live then entered"
  pub words : out ≡ left_words z ws ms (with_own own (after_merges (store_at z ws) ms))
  -- "the number of merges into it in that list"
  pub merges_counted : (i : ℕ) → 1 ≤ i → i ≤ 3 → (counts_at answer i).merges ≡ total_into i (λ m. 1) ms
  -- "the sum, over them, of the block places in use after the merge that were not in use before it"
  pub written_counted : (i : ℕ) → 1 ≤ i → i ≤ 3 → (counts_at answer i).written ≡ total_into i blocks_merged ms
  -- "the same sum over the compactings of that level"
  pub compacted_counted : (i : ℕ) → 1 ≤ i → i ≤ 3 → (counts_at answer i).compacted ≡ total (λ (m : Merge). total_compacted i m.compactions) ms
  -- "A call with no merge counts only zeros."
  pub zeros : ms ≡ [] → (i : ℕ) → 1 ≤ i → i ≤ 3 → counts_at answer i ≡ record { merges = 0; written = 0; compacted = 0 }
