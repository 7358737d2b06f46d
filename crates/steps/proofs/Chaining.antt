-- Changes one after the other; a merge with its step 5.
use Prim.Native.Nat.{ℕ, zero, suc, ◌+◌, ◌≤◌, ◌<◌}
use mathlib.Core.Path.{◌≡◌, refl, sym, ap, ◌∙◌, subst}
use mathlib.Core.Bool.{Bool, true, false}
use mathlib.Core.List.{List, [], ◌∷◌, ◌++◌, append_assoc}
use native.Mathlib.Omega.{arith}
use lib.Dec.{eqb}
use lib.ListN.{length, get_or}
use Rattle.levels.specs.Basics.{if◌then◌otherwise◌}
use Rattle.levels.specs.Record.{Block}
use Rattle.levels.specs.Waste.{needs_compact}
use Rattle.levels.specs.Store.{Store}
use Rattle.levels.specs.Call.{Compaction, Merge, compact_level, compact_if_needed, after_compactions, step_five, merge_run, merge_level, after_merge}
use Rattle.levels.specs.Count.{blocks_merged, blocks_compacted, total_compacted, counts_of}
use Rattle.levels.specs.Count as levels
use Rattle.levels.specs.Every.{Every}
use Rattle.levels.specs.Inside.{Inside}
use Rattle.levels.specs.InCall.{CompactionFacts, MergeFacts}
use Rattle.levels.proofs.CompactInside.{compaction_newly, after_append, needed_stepped}
use Rattle.levels.proofs.MergeBounds.{merge_written}
use Rattle.pieces.specs.Pieces.{lay_all}
use Rattle.pieces.proofs.Pieces.{lay_all_length}
use Rattle.words.specs.Stores.{with_blocks}
use Rattle.words.specs.Halves.{top_part}
use Rattle.words.specs.Calls.{compacted_blocks}
use Rattle.words.proofs.Blocks.{blocks_append}
use Rattle.lists.proofs.Laws.{part_over}
use Rattle.lists.specs.Lists.{lists_of}
use Rattle.blocks.specs.Blocks.{Marks}
use Rattle.steps.specs.declared.Counts.{Counts}
use Rattle.steps.specs.declared.Run.{Run}
use Rattle.steps.specs.Running.{Tally, counts_in, named, store_of, Stands, Markable, Marking, numbers_of, plus, Few, Small, Grown, Leaving, Running, compacted_counts, merged_counts, StepReady, step_counts}
use Rattle.steps.proofs.Compacting.{needed_is, not_needed}
use Rattle.steps.proofs.Standing.{top_fits_lem, markable, marking}
use Rattle.steps.proofs.Merging.{start_inside, level_low, merged_few}
use Rattle.layout.specs.Layouts.{Proper}
use Rattle.layout.specs.declared.Layout.{Layout}

-- sums of counts
pub plus_assoc : (a b c : levels.Counts) → plus (plus a b) c ≡ plus a (plus b c)
plus_assoc a b c =
    let x : a.merges + b.merges + c.merges ≡ a.merges + (b.merges + c.merges) = omega arith in
    let y : a.written + b.written + c.written ≡ a.written + (b.written + c.written) = omega arith in
    let z : a.compacted + b.compacted + c.compacted ≡ a.compacted + (b.compacted + c.compacted) = omega arith in
    λ i. record { merges = x i; written = y i; compacted = z i }

pub grown_chain : (f h : ℕ → levels.Counts) (t u v : Tally) → Grown f t u → Grown h u v → Grown (λ j. plus (f j) (h j)) t v
grown_chain f h t u v a b = (b.0 ∙ a.0, λ j l. b.1 j l ∙ ap (λ (x : levels.Counts). plus x (h (suc j))) (a.1 j l) ∙ plus_assoc (numbers_of (counts_in t j)) (f (suc j)) (h (suc j)))

pub grown_same : (f h : ℕ → levels.Counts) (t u : Tally) → ((j : ℕ) → f j ≡ h j) → Grown f t u → Grown h t u
grown_same f h t u e a = (a.0, λ j l. a.1 j l ∙ ap (plus (numbers_of (counts_in t j))) (e (suc j)))

-- how much a tally grows
few_more : (n m b : ℕ) (c d : Counts) (f : levels.Counts) → Few n c → numbers_of d ≡ plus (numbers_of c) f → (f.merges ≤ b) × (f.written ≤ b) × (f.compacted ≤ b) → n + b ≤ m → Few m d
few_more n m b c d f k e h l = record {
  merges = omega (arith, ap (λ (x : levels.Counts). x.merges) e, k.merges, h.0);
  written = omega (arith, ap (λ (x : levels.Counts). x.written) e, k.written, h.1);
  compacted = omega (arith, ap (λ (x : levels.Counts). x.compacted) e, k.compacted, h.2);
}

pub grown_small : (f : ℕ → levels.Counts) (t u : Tally) (n m b : ℕ) → ((j : ℕ) → ((f j).merges ≤ b) × ((f j).written ≤ b) × ((f j).compacted ≤ b)) → n + b ≤ m → Small n t → Grown f t u → Small m u
grown_small f t u n m b h l k a = record { three = a.0 ∙ k.three; few = λ j i. few_more n m b (counts_in t j) (counts_in u j) (f (suc j)) (k.few j i) (a.1 j i) (h (suc j)) l }

pub small_more : (n m : ℕ) (t : Tally) → n ≤ m → Small n t → Small m t
small_more n m t l k =
    let few : (c : Counts) → Few n c → Few m c = λ c d. record { merges = omega (arith, d.merges); written = omega (arith, d.written); compacted = omega (arith, d.compacted) } in
    record { three = k.three; few = λ j i. few (counts_in t j) (k.few j i) }

-- one change after another
pub leaving_chain : (z : Layout) → Proper z → (t1 t2 : Store) (b1 b2 : List Block) (f1 f2 : ℕ → levels.Counts) (ws : List ℕ) (r : Run) (ws1 lists1 : List ℕ) (r1 : Run) (ws2 lists2 : List ℕ) (r2 : Run)
    → Leaving z t1 b1 f1 ws r ws1 lists1 r1 → Leaving z t2 b2 f2 ws1 r1 ws2 lists2 r2 → Leaving z t2 (b1 ++ b2) (λ j. plus (f1 j) (f2 j)) ws r ws2 lists2 r2
leaving_chain z v t1 t2 b1 b2 f1 f2 ws r ws1 lists1 r1 ws2 lists2 r2 a b = record {
  stands = b.stands;
  words =
      b.words ∙ ap (λ (x : List ℕ). lay_all (top_part z t2) (with_blocks z b2 x)) a.words
      ∙ part_over z t1 t2 b2 (with_blocks z b1 ws) v (sym (lay_all_length (top_part z t1) (with_blocks z b1 ws)) ∙ sym (ap length a.words) ∙ a.stands.held.long) (top_fits_lem z t1 ws1 lists1 r1 a.stands) (top_fits_lem z t2 ws2 lists2 r2 b.stands)
      ∙ ap (lay_all (top_part z t2)) (sym (blocks_append z b1 b2 ws));
  counts = grown_chain f1 f2 r.tally r1.tally r2.tally a.counts b.counts;
}

-- a moment after a change
pub running_after : (n : ℕ) (z : Layout) (e t : Store) (ws lists : List ℕ) (r : Run) → Proper z → Inside z.geo e t → Stands z t ws lists r → Small n r.tally → Running n z ws lists r
running_after n z e t ws lists r v i s k = record {
  proper = v;
  entry = e;
  inside = subst (Inside z.geo e) (sym s.store) i;
  stands = subst (λ (x : Store). Stands z x ws lists r) (sym s.store) s;
  small = k;
}

-- step 5 in two parts
blocks_both : (cs ds : List Compaction) → compacted_blocks (cs ++ ds) ≡ compacted_blocks cs ++ compacted_blocks ds
blocks_both [] ds = refl
blocks_both (c ∷ cs) ds = ap (λ (bs : List Block). c.written ++ bs) (blocks_both cs ds) ∙ sym (append_assoc c.written (compacted_blocks cs) (compacted_blocks ds))

total_both : (j : ℕ) (cs ds : List Compaction) → total_compacted j (cs ++ ds) ≡ total_compacted j cs + total_compacted j ds
total_both j [] ds = omega arith
total_both j (c ∷ cs) ds = omega (arith, total_both j cs ds)

-- the counts of a merge with its step 5
step_counts_lem : (m : Merge) (j : ℕ) → plus (merged_counts m j) (compacted_counts m.compactions j) ≡ step_counts m j
unfolding counts_of
step_counts_lem m j =
    let z : 0 + total_compacted j m.compactions ≡ total_compacted j m.compactions + 0 = omega arith in
    ap (λ (x : ℕ). record { merges = (if eqb (suc m.level) j then 1 otherwise 0) + 0; written = (if eqb (suc m.level) j then blocks_merged m otherwise 0) + 0; compacted = x }) z

compacted_both : (cs ds : List Compaction) (j : ℕ) → compacted_counts (cs ++ ds) j ≡ plus (compacted_counts cs j) (compacted_counts ds j)
compacted_both cs ds j = ap (λ (x : ℕ). record { merges = 0; written = 0; compacted = x }) (total_both j cs ds)

compactions_chain : (z : Layout) → Proper z → (t : Store) (cs ds : List Compaction) (ws : List ℕ) (r : Run) (ws1 lists1 : List ℕ) (r1 : Run) (ws2 lists2 : List ℕ) (r2 : Run)
    → Leaving z (after_compactions t cs) (compacted_blocks cs) (compacted_counts cs) ws r ws1 lists1 r1 → Leaving z (after_compactions (after_compactions t cs) ds) (compacted_blocks ds) (compacted_counts ds) ws1 r1 ws2 lists2 r2
    → Leaving z (after_compactions t (cs ++ ds)) (compacted_blocks (cs ++ ds)) (compacted_counts (cs ++ ds)) ws r ws2 lists2 r2
compactions_chain z v t cs ds ws r ws1 lists1 r1 ws2 lists2 r2 a b =
    let c = leaving_chain z v _ _ _ _ _ _ ws r ws1 lists1 r1 ws2 lists2 r2 a b in
    record {
      stands = subst (λ (x : Store). Stands z x ws2 lists2 r2) (sym (after_append t cs ds)) c.stands;
      words =
          c.words ∙ ap (λ (x : Store). lay_all (top_part z x) (with_blocks z (compacted_blocks cs ++ compacted_blocks ds) ws)) (sym (after_append t cs ds))
          ∙ ap (λ (bs : List Block). lay_all (top_part z (after_compactions t (cs ++ ds))) (with_blocks z bs ws)) (sym (blocks_both cs ds));
      counts = grown_same _ (compacted_counts (cs ++ ds)) r.tally r2.tally (λ j. sym (compacted_both cs ds j)) c.counts;
    }

-- no merge and no compaction counts more than 8,192 blocks
merged_low : (z : Layout) (e t : Store) (i : ℕ) → Proper z → MergeFacts z.geo e (merge_level z.geo i t) → (j : ℕ) → ((merged_counts (merge_level z.geo i t) j).merges ≤ 8192) × ((merged_counts (merge_level z.geo i t) j).written ≤ 8192) × ((merged_counts (merge_level z.geo i t) j).compacted ≤ 8192)
merged_low z e t i v f j = pick (eqb (suc (merge_level z.geo i t).level) j)
  where
    pick : (b : Bool) → ((if b then 1 otherwise 0) ≤ 8192) × ((if b then blocks_merged (merge_level z.geo i t) otherwise 0) ≤ 8192) × (0 ≤ 8192)
    pick true = (omega arith, omega (arith, merge_written z.geo e (merge_level z.geo i t) v.valid f, merged_few z e t i v f), omega arith)
    pick false = (omega arith, omega arith, omega arith)

needed_low : (z : Layout) (e t : Store) (i : ℕ) → Proper z → i < z.geo.h → Inside z.geo e t → (j : ℕ) → ((compacted_counts (compact_if_needed z.geo (suc i) t) j).merges ≤ 8192) × ((compacted_counts (compact_if_needed z.geo (suc i) t) j).written ≤ 8192) × ((compacted_counts (compact_if_needed z.geo (suc i) t) j).compacted ≤ 8192)
needed_low z e t i v low n j = go (needs_compact z.geo.b (get_or t.levels i [])) refl
  where
    go : (b : Bool) → needs_compact z.geo.b (get_or t.levels i []) ≡ b → (0 ≤ 8192) × (0 ≤ 8192) × (total_compacted j (compact_if_needed z.geo (suc i) t) ≤ 8192)
    go false q = (omega arith, omega arith, omega (arith, ap (total_compacted j) (not_needed z t i q)))
    go true q =
        let f : Every (CompactionFacts z.geo e) (compact_level z.geo (suc i) t ∷ []) = subst (Every (CompactionFacts z.geo e)) (needed_is z t i q) (needed_stepped z.geo e t i v.valid low n).0.facts in
        (omega arith, omega arith, omega (arith, ap (total_compacted j) (needed_is z t i q), one (compact_level z.geo (suc i) t) f.0 (eqb (compact_level z.geo (suc i) t).level j)))
      where
        one : (c : Compaction) → CompactionFacts z.geo e c → (b : Bool) → (if b then blocks_compacted c otherwise 0) + 0 ≤ 8192
        one c d true = omega (arith, compaction_newly z.geo e c d, d.room, v.valid.places_high)
        one c d false = omega arith

five_top : (z : Layout) (t : Store) (i : ℕ) → i ≡ 0 → (merge_level z.geo i t).compactions ≡ compact_if_needed z.geo 1 (merge_level z.geo i t).finish
unfolding merge_level merge_run step_five
five_top z t zero e = refl
five_top z t (suc i) e = absurd (omega arith)

five_below : (z : Layout) (t : Store) (i n : ℕ) → 1 ≤ i → n ≡ suc i → (merge_level z.geo i t).compactions
    ≡ compact_if_needed z.geo i (merge_level z.geo i t).finish ++ compact_if_needed z.geo n (after_compactions (merge_level z.geo i t).finish (compact_if_needed z.geo i (merge_level z.geo i t).finish))
unfolding merge_level merge_run step_five
five_below z t zero n h e = absurd (omega arith)
five_below z t (suc i) n h e = rw e

-- step 5 for a level keeps what holds inside a call
needed_inside : (z : Layout) (e x : Store) (i : ℕ) → Proper z → 1 ≤ i → i ≤ z.geo.h → Inside z.geo e x → Inside z.geo e (after_compactions x (compact_if_needed z.geo i x))
needed_inside z e x zero v l h n = absurd (omega arith)
needed_inside z e x (suc i) v l h n = (needed_stepped z.geo e x i v.valid h n).0.inside

needed_few : (z : Layout) (e x : Store) (i : ℕ) → Proper z → 1 ≤ i → i ≤ z.geo.h → Inside z.geo e x → (j : ℕ) → ((compacted_counts (compact_if_needed z.geo i x) j).merges ≤ 8192) × ((compacted_counts (compact_if_needed z.geo i x) j).written ≤ 8192) × ((compacted_counts (compact_if_needed z.geo i x) j).compacted ≤ 8192)
needed_few z e x zero v l h n = absurd (omega arith)
needed_few z e x (suc i) v l h n = needed_low z e x i v h n

-- The parts of a merge with its step 5.
module _ (z : Layout) (ws lists : List ℕ) (level : ℕ) (r : Run) (k : StepReady 1900000000 z ws lists level r) where
  stands_inside : Inside z.geo k.entry (store_of z ws lists r)
  stands_inside = start_inside z k.entry (store_of z ws lists r) level k.proper k.facts

  -- what `marks` asks, and what it gives
  pub step_markable : Markable z.geo.h lists r.ns
  step_markable = markable z k.entry (store_of z ws lists r) ws lists r k.proper stands_inside k.stands

  pub step_marks : (used : List Bool) (x : ℕ) → x ≡ z.geo.h → Marks used (named (lists_of x lists r.ns)) × (length used ≡ 8192) → Marking used (store_of z ws lists r)
  step_marks used x e m = marking z k.entry (store_of z ws lists r) ws lists r k.proper stands_inside k.stands used (rw e at m)

  -- what the merge asks
  pub step_asks : StepReady 2000000000 z ws lists level r
  step_asks = record {
    proper = k.proper;
    entry = k.entry;
    stands = k.stands;
    facts = k.facts;
    full = k.full;
    small = small_more 1900000000 2000000000 r.tally (omega arith) k.small;
  }

  module _ (t : Store) (et : t ≡ store_of z ws lists r) (ws1 lists1 : List ℕ) (r1 : Run)
      (a : Leaving z (merge_level z.geo level t).finish (merge_level z.geo level t).written (merged_counts (merge_level z.geo level t)) ws r ws1 lists1 r1) where
    abbrev pub merged : Merge
    merged = merge_level z.geo level t

    -- what step 5 makes of the upper level
    abbrev pub first : List Compaction
    first = compact_if_needed z.geo level (merge_level z.geo level t).finish

    facts : MergeFacts z.geo k.entry merged
    facts = subst (λ (x : Store). MergeFacts z.geo k.entry (merge_level z.geo level x)) (sym et) k.facts

    small_1 : Small 1900008192 r1.tally
    small_1 = grown_small (merged_counts merged) r.tally r1.tally 1900000000 1900008192 8192 (merged_low z k.entry t level k.proper facts) (omega arith) k.small a.counts

    -- what the first compaction asks
    pub first_asks : Running 2000000000 z ws1 lists1 r1
    first_asks = running_after 2000000000 z k.entry merged.finish ws1 lists1 r1 k.proper facts.finish_inside a.stands (small_more 1900008192 2000000000 r1.tally (omega arith) small_1)

    -- the merge and what step 5 compacts
    step_five_lem : (cs : List Compaction) → merged.compactions ≡ cs → (ws2 lists2 : List ℕ) (r2 : Run)
        → Leaving z (after_compactions merged.finish cs) (compacted_blocks cs) (compacted_counts cs) ws1 r1 ws2 lists2 r2
        → Leaving z (after_merge merged) (merged.written ++ compacted_blocks merged.compactions) (step_counts merged) ws r ws2 lists2 r2
    step_five_lem cs q ws2 lists2 r2 b =
        let b' = subst (λ (ds : List Compaction). Leaving z (after_compactions merged.finish ds) (compacted_blocks ds) (compacted_counts ds) ws1 r1 ws2 lists2 r2) (sym q) b in
        let c = leaving_chain z k.proper _ _ _ _ _ _ ws r ws1 lists1 r1 ws2 lists2 r2 a b' in
        record { stands = c.stands; words = c.words; counts = grown_same _ (step_counts merged) r.tally r2.tally (step_counts_lem merged) c.counts }

    -- out of level 0
    pub step_top : (ws2 lists2 : List ℕ) (r2 : Run) → level ≡ 0
        → Leaving z (after_compactions merged.finish (compact_if_needed z.geo 1 merged.finish)) (compacted_blocks (compact_if_needed z.geo 1 merged.finish)) (compacted_counts (compact_if_needed z.geo 1 merged.finish)) ws1 r1 ws2 lists2 r2
        → Leaving z (after_merge merged) (merged.written ++ compacted_blocks merged.compactions) (step_counts merged) ws r ws2 lists2 r2
    step_top ws2 lists2 r2 e = step_five_lem (compact_if_needed z.geo 1 merged.finish) (five_top z t level e) ws2 lists2 r2

    -- out of another level
    module _ (low : 1 ≤ level) (ws2 lists2 : List ℕ) (r2 : Run)
        (b : Leaving z (after_compactions merged.finish first) (compacted_blocks first) (compacted_counts first) ws1 r1 ws2 lists2 r2) where
      high : level < z.geo.h
      high = level_low z k.entry t level k.proper facts

      -- what the second compaction asks
      pub second_asks : Running 2000000000 z ws2 lists2 r2
      unfolding high
      second_asks =
          let x : Store = merged.finish in
          let h = high in
          running_after 2000000000 z k.entry (after_compactions x (compact_if_needed z.geo level x)) ws2 lists2 r2 k.proper (needed_inside z k.entry x level k.proper low (omega arith) facts.finish_inside) b.stands
          (grown_small (compacted_counts (compact_if_needed z.geo level x)) r1.tally r2.tally 1900008192 2000000000 8192 (needed_few z k.entry x level k.proper low (omega arith) facts.finish_inside) (omega arith) small_1 b.counts)

      pub step_below : (i : ℕ) (ws3 lists3 : List ℕ) (r3 : Run) → i ≡ suc level
          → Leaving z (after_compactions (after_compactions merged.finish first) (compact_if_needed z.geo i (after_compactions merged.finish first))) (compacted_blocks (compact_if_needed z.geo i (after_compactions merged.finish first))) (compacted_counts (compact_if_needed z.geo i (after_compactions merged.finish first))) ws2 r2 ws3 lists3 r3
          → Leaving z (after_merge merged) (merged.written ++ compacted_blocks merged.compactions) (step_counts merged) ws r ws3 lists3 r3
      step_below i ws3 lists3 r3 e c =
          let ds : List Compaction = compact_if_needed z.geo i (after_compactions merged.finish first) in
          step_five_lem (first ++ ds) (five_below z t level i low e) ws3 lists3 r3 (compactions_chain z k.proper merged.finish first ds ws1 r1 ws2 lists2 r2 ws3 lists3 r3 b c)
