-- What a line of document 01's "Bench figures" can say, and the test of it: the definitions computed and compared.
use Rattle.std.specs.Prelude.{ℕ, ◌+◌, ◌-◌, Bool, true, false, not, ◌&&◌, List, [], ◌∷◌, map, leb, ltb, eqb, length, get_or}
use Prim.Native.String.{String}
use Rattle.std.proofs.Math.Option.{Option, none, some}
use Rattle.geometry.specs.declared.Geometry.{Geometry}
use Rattle.geometry.specs.Geometry.{
  capacity_of,
  window_of,
  capacity_sum,
  flash_capacity_of,
  key_limit_of,
  in_ranges,
  in_sizes,
  is_legal,
  top_capacity_of,
  block_width,
}
use Rattle.layout.specs.Layouts.{old, size_reason}
use Rattle.levels.specs.Basics.{if◌then◌otherwise◌}
use Rattle.levels.specs.Record.{Rec, Block, Level}
use Rattle.levels.specs.Map.{find, into, overlay, view, unmarked, map_of, live_count, decides, look_up, is_live}
use Rattle.levels.specs.Waste.{needs_compact}
use Rattle.levels.specs.Choose.{overlap, runs, choose, overlap_bound, cut_at}
use Rattle.levels.specs.Place.{free_after, first_free, settle, newly_used}
use Rattle.levels.specs.Store.{Store, empty_store}
use Rattle.levels.specs.Call.{
  Compaction,
  after_merge,
  Merge,
  merge_cut,
  compact_level,
  compact_if_needed,
  step_five,
  merge_run,
  merge_level,
  deepest_over,
  merges_below,
  merges_from,
}
use Rattle.levels.specs.Put.{Change, refused, absent, entered, insert, merges_for, enter, put, delete, merges_of}
use Rattle.levels.specs.Count.{above_of, under_of, above_count, under_count, run_of, overlap_of, blocks_merged, blocks_compacted}

-- Equality of numbers, truth values, lists, places, records, blocks.
abbrev pub same : Bool → Bool → Bool
same true b = b
same false b = not b

abbrev pub same_by : {A : Type 0} → (A → A → Bool) → List A → List A → Bool
same_by f [] [] = true
same_by f [] (y ∷ ys) = false
same_by f (x ∷ xs) [] = false
same_by f (x ∷ xs) (y ∷ ys) = f x y && same_by f xs ys

abbrev pub same_numbers : List ℕ → List ℕ → Bool
same_numbers = same_by eqb

abbrev pub same_place : Option ℕ → Option ℕ → Bool
same_place none none = true
same_place none (some q) = false
same_place (some p) none = false
same_place (some p) (some q) = eqb p q

abbrev pub same_rec : Rec → Rec → Bool
same_rec r s = eqb r.key s.key && same r.tombstone s.tombstone && eqb r.pay s.pay

abbrev pub same_level : Level → Level → Bool
same_level = same_by (λ (b c : Block). same_place b.place c.place && same_by same_rec b.recs c.recs)

-- How the figures are written: a geometry; records of given keys with payload v; tombstones; a block at a place.
abbrev pub geo : ℕ → ℕ → ℕ → ℕ → ℕ → ℕ → Geometry
geo b w d g h p = record { b = b; w = w; d = d; g = g; h = h; p = p }

abbrev pub puts : ℕ → List ℕ → List Rec
puts v ks = map (λ (k : ℕ). record { key = k; tombstone = false; pay = v }) ks

abbrev pub dels : List ℕ → List Rec
dels ks = map (λ (k : ℕ). record { key = k; tombstone = true; pay = 0 }) ks

abbrev pub at : ℕ → List Rec → Block
at p rs = record { place = some p; recs = rs }

-- the calls of a history; a put of key k has payload k
pub data Act : Type 0 where
  put_key : ℕ → Act
  del_key : ℕ → Act

abbrev pub change_of : Geometry → Store → Act → Change
change_of g s (put_key k) = put g s k k
change_of g s (del_key k) = delete g s k

abbrev pub store_after : Store → Change → Store
store_after s (refused n) = s
store_after s absent = s
store_after s (entered was ms t) = t

abbrev pub after_acts : Geometry → List Act → Store → Store
after_acts g [] s = s
after_acts g (a ∷ as') s = after_acts g as' (store_after s (change_of g s a))

-- the number of merges of all these calls
abbrev pub merges_in : Geometry → List Act → Store → ℕ
merges_in g [] s = 0
merges_in g (a ∷ as') s = let c = change_of g s a in length (merges_of c) + merges_in g as' (store_after s c)

-- the numbers of a merge: level, first block, w, q, a, n, blocks written
abbrev pub numbers_of : Geometry → Merge → List ℕ
numbers_of g m = m.level ∷ m.first ∷ m.window ∷ overlap_of g m ∷ above_count g m ∷ under_count g m ∷ blocks_merged m ∷ []

abbrev pub reason_of_change : Change → ℕ
reason_of_change (refused n) = n
reason_of_change absent = 0
reason_of_change (entered was ms s) = 0

-- "figures of steps 1 to 4 over just those blocks, with B = 4 and a place for each block": level 1 onto level 2, which is level h or not; window w
abbrev pub onto : Bool → ℕ → Level → Level → Merge
onto bottom w above under =
    merge_run (geo 4 1 2 4 (if bottom then 2 otherwise 3) 40) 1 w (choose w above under).at (record { live = 0; cursor = 39; top = []; levels = above ∷ under ∷ [] ∷ [] })

abbrev pub level_after : Store → ℕ → Level
level_after s i = get_or s.levels (i - 1) []

pub data Figure : Type 0 where
  -- a legal geometry: S, N, the length in words
  sizes : Geometry → ℕ → ℕ → ℕ → Figure
  -- so many words and this geometry are turned down for this reason
  turned_down : ℕ → Geometry → ℕ → Figure
  -- N is below 1
  no_limit : Geometry → Figure
  -- a merge: is i + 1 = h, the window, above, below; the upper and the lower level then, blocks written
  merges : Bool → ℕ → Level → Level → Level → Level → ℕ → Figure
  -- a merge with its step 5: the same, the levels then, and of each compaction its level and the blocks written
  compacts_after : Bool → ℕ → Level → Level → Level → Level → List (List ℕ) → Figure
  -- window, above, below: the overlap of each run, the chosen run's first block, the bound on its overlap
  overlaps : ℕ → Level → Level → List ℕ → ℕ → ℕ → Figure
  -- a level is not compacted; it is, to so many blocks, all of them written
  keeps : Level → Figure
  compacts : Level → ℕ → Figure
  -- calls on an empty store make so many merges in all
  quiet : Geometry → List Act → ℕ → Figure
  -- calls on an empty store, then one more: its refusal, its merges' numbers; level 0 and level 1 then, live then
  leads : Geometry → List Act → Act → ℕ → List (List ℕ) → List Rec → Level → ℕ → Figure

unfoldable pub holds : Figure → Bool
unfolding
    capacity_of window_of capacity_sum flash_capacity_of key_limit_of in_ranges in_sizes is_legal top_capacity_of block_width
    old size_reason find into overlay view unmarked map_of live_count decides look_up is_live cut_at free_after first_free settle
    newly_used empty_store merge_cut compact_level compact_if_needed step_five merge_run merge_level deepest_over merges_below merges_from insert merges_for enter put
    delete merges_of above_of under_of above_count under_count run_of overlap_of blocks_merged blocks_compacted
holds (sizes g s n l) = is_legal g && eqb (flash_capacity_of g) s && eqb (key_limit_of g) n && eqb (old g).length l && eqb (size_reason l g) 0
holds (turned_down l g r) = eqb (size_reason l g) r
holds (no_limit g) = ltb (key_limit_of g) 1
holds (merges bottom w above under u l n) =
    let m = onto bottom w above under in
    same_level (level_after m.finish 1) u && same_level (level_after m.finish 2) l && eqb (blocks_merged m) n
holds (compacts_after bottom w above under u l cs) =
    let m = onto bottom w above under in
    same_level (level_after (after_merge m) 1) u && same_level (level_after (after_merge m) 2) l
    && same_by same_numbers (map (λ (c : Compaction). c.level ∷ blocks_compacted c ∷ []) m.compactions) cs
holds (overlaps w above under qs i bound) =
    same_numbers (map (overlap under) (runs w above)) qs && eqb (choose w above under).at i && eqb (overlap_bound w (length above) (length under)) bound
    && leb (choose w above under).value bound
holds (keeps l) = not (needs_compact 4 l)
holds (compacts l n) =
    let c = compact_level (geo 4 1 2 4 1 40) 1 (record { live = 0; cursor = 39; top = []; levels = l ∷ [] }) in
    needs_compact 4 l && eqb (length (level_after c.finish 1)) n && eqb (blocks_compacted c) n
holds (quiet g as' n) = eqb (merges_in g as' (empty_store g)) n
holds (leads g as' a r ms top l live) =
    let s = after_acts g as' (empty_store g) in
    let c = change_of g s a in
    let t = store_after s c in
    eqb (reason_of_change c) r && same_by same_numbers (map (numbers_of g) (merges_of c)) ms && same_by same_rec t.top top
    && same_level (level_after t 1) l && eqb t.live live

-- a figure with the words of the document
pub record Line : Type 0 where
  pub text : String
  pub figure : Figure

abbrev pub line : String → Figure → Line
line t f = record { text = t; figure = f }

-- The lines that do not hold: a refusal of the theorem prints them.
unfoldable pub failing : List Line → List String
failing [] = []
failing (l ∷ ls) = if holds l.figure then failing ls otherwise (l.text ∷ failing ls)
