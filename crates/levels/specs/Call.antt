-- Document 01, "A merge from level i to i + 1" and "The merges of a call".
use Rattle.std.specs.Prelude.{ℕ, zero, suc, ◌+◌, ◌-◌, ◌*◌, ◌≡◌, true, false, List, [], ◌∷◌, ◌++◌, ltb, eqb, length}
use Rattle.geometry.specs.declared.Geometry.{Geometry}
use Rattle.geometry.specs.Geometry.{capacity_of, window_of}
use Rattle.levels.specs.Basics.{total}
use Rattle.levels.specs.Record.{Block, Level, records}
use Rattle.levels.specs.Waste.{needs_compact, compact}
use Rattle.levels.specs.Choose.{choose, Cut, cut_at}
use Rattle.levels.specs.Merge.{merge, close}
use Rattle.levels.specs.Place.{Allocation, Settled, settle}
use Rattle.levels.specs.Store.{Store, blocks_of, with_blocks, with_cursor, allocation_of}

-- A compaction: its level, the store at its start and at its end, the blocks written, in order.
pub record Compaction : Type 0 where
  pub level : ℕ
  pub start : Store
  pub finish : Store
  pub written : List Block

-- A merge: the upper level i, the number of the run's first block in it and of its blocks (demand 3's w), the store at its start and at its end,
-- the blocks written, in order, and the compactions of its step 5.
pub record Merge : Type 0 where
  pub level : ℕ
  pub first : ℕ
  pub window : ℕ
  pub start : Store
  pub finish : Store
  pub written : List Block
  pub compactions : List Compaction

-- Step 2 gives level 0's pages no places.
abbrev pub settle_upper : Geometry → ℕ → Allocation → Level → Settled
settle_upper g zero a l = record { level = l; written = []; allocation = a }
settle_upper g (suc j) a l = settle g.p a l

-- Steps 2 to 4 for a given cut of levels i and i + 1: "step 2's block takes its place before those of steps 3 and 4, which take theirs in key order";
-- "a merge ends with step 4".
pub record MergedLevels : Type 0 where
  pub upper : Settled
  pub lower : Settled

unfoldable pub merge_cut : Geometry → ℕ → Cut → Store → MergedLevels
merge_cut g i c s =
    let u = settle_upper g i (allocation_of s) (close g.b i c.left c.right) in
    let l = settle g.p u.allocation (merge g.b (eqb (suc i) g.h) c.before c.run c.over c.behind) in
    record { upper = u; lower = l }

-- Step 5 for one level: "is compacted if needed: all records anew, B to a block", each to the first free place after hand
unfoldable pub compact_level : Geometry → ℕ → Store → Compaction
compact_level g i s =
    let r = settle g.p (allocation_of s) (compact g.b (blocks_of g i s)) in
    record { level = i; start = s; finish = with_cursor r.allocation.cursor (with_blocks i r.level s); written = r.written }

unfoldable pub compact_if_needed : Geometry → ℕ → Store → List Compaction
compact_if_needed g i s = elim (needs_compact g.b (blocks_of g i s)) [ true ↦ compact_level g i s ∷ [] | false ↦ [] ]

-- the store that compactions leave, one after the other
abbrev pub after_compactions : Store → List Compaction → Store
after_compactions s [] = s
after_compactions s (c ∷ cs) = after_compactions c.finish cs

-- each compaction finds the store as the one before it left it
abbrev pub Follows : Store → List Compaction → Type 0
Follows s [] = Unit {0}
Follows s (c ∷ cs) = (c.start ≡ s) × Follows c.finish cs

-- Step 5: "Level i (if i ≥ 1), then i + 1, is compacted if needed"
unfoldable pub step_five : Geometry → ℕ → Store → List Compaction
step_five g zero s = compact_if_needed g 1 s
step_five g (suc j) s = let cs = compact_if_needed g (suc j) s in cs ++ compact_if_needed g (suc (suc j)) (after_compactions s cs)

-- Steps 2 to 5 for a given run: the w blocks of level i from block `first` on go to level i + 1.
unfoldable pub merge_run : Geometry → ℕ → ℕ → ℕ → Store → Merge
merge_run g i w first s =
    let m = merge_cut g i (cut_at w first (blocks_of g i s) (blocks_of g (suc i) s)) s in
    let t = with_cursor m.lower.allocation.cursor (with_blocks (suc i) m.lower.level (with_blocks i m.upper.level s)) in
    record { level = i; first = first; window = w; start = s; finish = t; written = m.upper.written ++ m.lower.written; compactions = step_five g i t }

-- A merge from level i to i + 1, steps 1 to 5.
unfoldable pub merge_level : Geometry → ℕ → Store → Merge
merge_level g i s = let w = window_of g i in merge_run g i w (choose w (blocks_of g i s) (blocks_of g (suc i) s)).at s

-- "Each later one finds the store as the one before it and its step 5 left it."
abbrev pub after_merge : Merge → Store
after_merge m = after_compactions m.finish m.compactions

abbrev pub after_merges : Store → List Merge → Store
after_merges s [] = s
after_merges s (m ∷ ms) = after_merges (after_merge m) ms

-- each merge finds the store as the one before it and its step 5 left it
abbrev pub Chained : Store → List Merge → Type 0
Chained s [] = Unit {0}
Chained s (m ∷ ms) = (m.start ≡ s) × Chained (after_merge m) ms

-- Step 6: "While a level holds more than K blocks, the deepest such merges next." Of the levels n, n − 1 .. 1 the deepest; 0 if there is none.
unfoldable pub deepest_over : Geometry → ℕ → Store → ℕ
deepest_over g zero s = 0
deepest_over g (suc n) s = elim (ltb (capacity_of g (suc n)) (length (blocks_of g (suc n) s))) [ true ↦ suc n | false ↦ deepest_over g n s ]

-- The merges out of levels 1 to h − 1; level h has none to merge into, and is never above K(h) here.
-- The number of steps bounds the list; h × (number of records) is enough.
unfoldable pub merges_below : ℕ → Geometry → Store → List Merge
merges_below zero g s = []
merges_below (suc n) g s = elim (deepest_over g (g.h - 1) s) [
  | zero ↦ []
  | suc j ↦ let m = merge_level g (suc j) s in m ∷ merges_below n g (after_merge m)
]

abbrev pub enough_steps : Geometry → Store → ℕ
enough_steps g s = g.h * (length s.top + total (λ (l : Level). length (records l)) s.levels)

-- "The first, if there is one, is out of level 0."
unfoldable pub merges_from : Geometry → Store → List Merge
merges_from g s = let m = merge_level g 0 s in m ∷ merges_below (enough_steps g s) g (after_merge m)
