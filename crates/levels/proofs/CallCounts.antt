-- The three counts of a call: they are the lengths of the lists of blocks written, and small enough for a word.
use Prim.Native.Nat.{ℕ, zero, suc, ◌+◌, ◌-◌, ◌*◌, ◌≤◌}
use mathlib.Core.Path.{◌≡◌, refl, sym, ◌∙◌, ap, subst}
use mathlib.Core.Bool.{Bool, true, false, ◌||◌}
use mathlib.Core.List.{List, [], ◌∷◌}
use native.Mathlib.Omega.{arith}
use native.Mathlib.Nat.{mul-le-mul}
use lib.Dec.{ltb, eqb}
use lib.ListN.{length, length-append}
use Rattle.geometry.specs.declared.Geometry.{Geometry}
use Rattle.geometry.specs.Geometry.{Valid, capacity_of, top_capacity_of, flash_capacity_of, capacity_sum}
use Rattle.geometry.proofs.Laws.{capacity_doubles, flash_capacity_below}
use Rattle.levels.specs.Basics.{if◌then◌otherwise◌, is_some, total}
use Rattle.levels.specs.Record.{Level, records}
use Rattle.levels.specs.Map.{find}
use Rattle.levels.specs.Waste.{needs_compact}
use Rattle.levels.specs.Store.{Store, blocks_of}
use Rattle.levels.specs.Call.{Compaction, Merge, compact_level, compact_if_needed, after_compactions, step_five, merge_run, merge_level, after_merge, deepest_over, merges_below, enough_steps}
use Rattle.levels.specs.Put.{merges_for}
use Rattle.levels.specs.Count.{blocks_merged, blocks_compacted, total_into, total_compacted, counts_of}
use Rattle.levels.specs.Every.{Every}
use Rattle.levels.specs.Sound.{Fits, Sound}
use Rattle.levels.specs.InCall.{CompactionFacts, MergeFacts}
use Rattle.levels.proofs.Fits.{within_records}
use Rattle.levels.proofs.Every.{every_turn}
use Rattle.levels.proofs.Entry.{entry_within}
use Rattle.levels.proofs.CompactInside.{compaction_newly}
use Rattle.levels.proofs.InCall.{below_stop, below_go, below_none}
use Rattle.levels.proofs.MergeBounds.{merge_written}
use Rattle.levels.proofs.CallMerges.{for_none, for_full, from_is, call_merges}

-- how much a sum over merges can be
into_most : (j c : ℕ) (f : Merge → ℕ) (ms : List Merge) → Every (λ m. f m ≤ c) ms → total_into j f ms ≤ c * length ms
into_most j c f [] h = omega arith
into_most j c f (m ∷ ms) h = pick (eqb (suc m.level) j) (into_most j c f ms h.1)
  where
    pick : (t : Bool) → total_into j f ms ≤ c * length ms → (if t then f m otherwise 0) + total_into j f ms ≤ c * suc (length ms)
    pick true q = omega (arith, h.0)
    pick false q = omega arith

total_most : (c : ℕ) (f : Merge → ℕ) (ms : List Merge) → Every (λ m. f m ≤ c) ms → total f ms ≤ c * length ms
total_most c f [] h = omega arith
total_most c f (m ∷ ms) h = omega (arith, h.0, total_most c f ms h.1)

pub compacted_most : (g : Geometry) (e : Store) (j : ℕ) (cs : List Compaction) → Valid g → Every (CompactionFacts g e) cs → total_compacted j cs ≤ 8191 * length cs
compacted_most g e j [] v f = omega arith
compacted_most g e j (c ∷ cs) v f = pick (eqb c.level j) (compacted_most g e j cs v f.1)
  where
    pick : (t : Bool) → total_compacted j cs ≤ 8191 * length cs → (if t then blocks_compacted c otherwise 0) + total_compacted j cs ≤ 8191 * suc (length cs)
    pick true q = omega (arith, compaction_newly g e c f.0, f.0.room, v.places_high)
    pick false q = omega arith

-- step 5 makes at most two compactions
needed_short : (g : Geometry) (i : ℕ) (s : Store) → length (compact_if_needed g i s) ≤ 1
unfolding compact_if_needed
needed_short g i s = go (needs_compact g.b (blocks_of g i s))
  where
    go : (t : Bool) → length {A = Compaction} (elim t [ true ↦ compact_level g i s ∷ [] | false ↦ [] ]) ≤ 1
    go true = omega arith
    go false = omega arith

five_short : (g : Geometry) (i : ℕ) (s : Store) → length (step_five g i s) ≤ 2
unfolding step_five
five_short g zero s = omega (arith, needed_short g 1 s)
five_short g (suc j) s =
    let cs : List Compaction = compact_if_needed g (suc j) s in
    let ds : List Compaction = compact_if_needed g (suc (suc j)) (after_compactions s cs) in
    omega (arith, length-append cs ds, needed_short g (suc j) s, needed_short g (suc (suc j)) (after_compactions s cs))

level_short : (g : Geometry) (i : ℕ) (s : Store) → length (merge_level g i s).compactions ≤ 2
unfolding merge_level merge_run
level_short g i s = five_short g i (merge_level g i s).finish

pub merge_short : (g : Geometry) (e : Store) (m : Merge) → MergeFacts g e m → length m.compactions ≤ 2
merge_short g e m f = subst (λ (x : Merge). length x.compactions ≤ 2) (sym f.is) (level_short g m.level m.start)

-- there are at most as many merges out of the listed levels as steps
below_length : (n : ℕ) (g : Geometry) (s : Store) → length (merges_below n g s) ≤ n
below_length zero g s = omega (arith, ap length (below_none g s))
below_length (suc n) g s = go (deepest_over g (g.h - 1) s) refl (λ x. below_length n g x)
  where
    go : (o : ℕ) → deepest_over g (g.h - 1) s ≡ o → ((x : Store) → length (merges_below n g x) ≤ n) → length (merges_below (suc n) g s) ≤ suc n
    go zero q ih = omega (arith, ap length (below_stop (suc n) g s q))
    go (suc j) q ih = omega (arith, ap length (below_go n g s j q), ih (after_merge (merge_level g (suc j) s)))

module _ (g : Geometry) (s : Store) (v : Valid g) (f : Fits g s) (o : Sound g s) where
  -- h × (number of records) is at most 3 × 16 × 2,048
  pub steps_high : enough_steps g s ≤ 98304
  unfolding top_capacity_of flash_capacity_of
  steps_high =
      let r = v.ranged in
      let w = within_records g 1 s.levels (entry_within g s v f o) in
      let k = ap (λ (n : ℕ). g.b * capacity_sum g 1 n) f.level_count in
      let q : capacity_of g 0 + capacity_sum g 1 g.h ≤ 2048 = omega (arith, capacity_doubles g r 0, flash_capacity_below g r, v.bottom_high) in
      let b = mul-le-mul r.b_high q in
      let t : length s.top + total (λ (l : Level). length (records l)) s.levels ≤ 32768 = omega (arith, f.top_fits, w, k, b) in
      mul-le-mul r.h_high t

  -- so a call makes at most 98,305 merges
  pub merges_high : (k : ℕ) → length (merges_for g s k) ≤ 98305
  merges_high k = go (is_some (find k s.top) || ltb (length s.top) (top_capacity_of g)) refl
    where
      go : (t : Bool) → (is_some (find k s.top) || ltb (length s.top) (top_capacity_of g)) ≡ t → length (merges_for g s k) ≤ 98305
      go true e = omega (arith, ap length (for_none g s k e))
      go false e = omega (arith, ap length (for_full g s k e ∙ from_is g s), below_length (enough_steps g s) g (after_merge (merge_level g 0 s)), steps_high)

  -- every count fits a word
  pub counts_high : (k j : ℕ) → let c = counts_of j (merges_for g s k) in (c.merges ≤ 98305) × (c.written ≤ 805216255) × (c.compacted ≤ 1610432510)
  unfolding counts_of
  counts_high k j =
      let ms : List Merge = merges_for g s k in
      let n = merges_high k in
      let a = call_merges g s v f o k in (
        omega (arith, n, into_most j 1 (λ m. 1) ms (every_turn (MergeFacts g s) (λ m. 1 ≤ 1) ms (λ m d. omega arith) a)),
        omega (arith, n, into_most j 8191 blocks_merged ms (every_turn (MergeFacts g s) (λ m. blocks_merged m ≤ 8191) ms (λ m d. omega (arith, merge_written g s m v d, d.room, v.places_high)) a)),
        omega (
          arith,
          n,
          total_most 16382 (λ m. total_compacted j m.compactions) ms
              (every_turn (MergeFacts g s) (λ m. total_compacted j m.compactions ≤ 16382) ms (λ m d. omega (arith, compacted_most g s j m.compactions v d.five.facts, merge_short g s m d)) a),
        ),
      )
