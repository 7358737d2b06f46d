-- The counts of a put or delete, each over all levels, are words.
use Prim.Native.Nat.{ℕ, ◌+◌, ◌*◌, ◌≤◌}
use mathlib.Core.Path.{◌≡◌, refl, sym, subst}
use mathlib.Core.Bool.{Bool, true, false}
use mathlib.Core.List.{List, [], ◌∷◌}
use native.Mathlib.Omega.{arith}
use lib.Dec.{eqb}
use lib.ListN.{length}
use borrow.Author.Tests.{eqb-true, ne_eqb}
use native.Mathlib.Decide.{ℕ_discrete}
use Rattle.levels.specs.Basics.{if◌then◌otherwise◌, total}
use Rattle.levels.specs.Store.{Store}
use Rattle.levels.specs.Call.{Compaction, Merge}
use Rattle.levels.specs.Put.{Change, refused, absent, entered, merges_for, put, delete}
use Rattle.levels.specs.Count.{blocks_compacted, total_compacted, counts_of}
use Rattle.levels.specs.Every.{Every}
use Rattle.levels.specs.InCall.{CompactionFacts, MergeFacts}
use Rattle.levels.proofs.CompactInside.{compaction_newly}
use Rattle.levels.proofs.CallMerges.{call_merges}
use Rattle.levels.proofs.CallCounts.{merge_short, merges_high, counts_high}
use Rattle.levels.proofs.PutDelete.{PutSays, DeleteSays, put_says, delete_says}
use Rattle.words.specs.Stores.{store_at, layout_at}
use Rattle.words.specs.Form.{reason_of}
use Rattle.words.specs.Calls.{Outcome, ChangeAnswer, change_answer, change_outcome, put_of, delete_of}
use Rattle.words.specs.Passed.{Passed}
use Rattle.words.proofs.Reason.{reason_passed}
use Rattle.words.proofs.Steps.{put_of_lem, delete_of_lem}
use Rattle.std.specs.Prelude.{Result}
use Rattle.geometry.specs.declared.Refusal.{Refusal}
use Rattle.writer.specs.declared.Change as writer
use Rattle.writer.specs.Answers.{changed_answer}
use Rattle.store.specs.Change.{SumsFit, PutDone, DeleteDone}
use Rattle.layout.specs.Layouts.{Proper}
use Rattle.layout.specs.declared.Layout.{Layout}

-- a compaction is of one level
one_level : (i x : ℕ) → (if eqb i 1 then x otherwise 0) + (if eqb i 2 then x otherwise 0) + (if eqb i 3 then x otherwise 0) ≤ x
one_level i x = go (eqb i 1) (eqb i 2) (eqb i 3) refl refl refl
  where
    go : (a b c : Bool) → eqb i 1 ≡ a → eqb i 2 ≡ b → eqb i 3 ≡ c → (if a then x otherwise 0) + (if b then x otherwise 0) + (if c then x otherwise 0) ≤ x
    go true true c p q r = absurd (omega (arith, eqb-true i 1 p, eqb-true i 2 q))
    go true false true p q r = absurd (omega (arith, eqb-true i 1 p, eqb-true i 3 r))
    go true false false p q r = omega arith
    go false true true p q r = absurd (omega (arith, eqb-true i 2 q, eqb-true i 3 r))
    go false true false p q r = omega arith
    go false false true p q r = omega arith
    go false false false p q r = omega arith

compacted_levels : (cs : List Compaction) → total_compacted 1 cs + total_compacted 2 cs + total_compacted 3 cs ≤ total blocks_compacted cs
compacted_levels [] = omega arith
compacted_levels (c ∷ cs) = omega (arith, one_level c.level (blocks_compacted c), compacted_levels cs)

compacted_most : (z : Layout) (e : Store) (cs : List Compaction) → Proper z → Every (CompactionFacts z.geo e) cs → total blocks_compacted cs ≤ 8191 * length cs
compacted_most z e [] v f = omega arith
compacted_most z e (c ∷ cs) v f = omega (arith, compaction_newly z.geo e c f.0, f.0.room, v.valid.places_high, compacted_most z e cs v f.1)

abbrev compacted_at : ℕ → List Merge → ℕ
compacted_at i ms = total (λ (m : Merge). total_compacted i m.compactions) ms

merges_compacted : (z : Layout) (e : Store) (ms : List Merge) → Proper z → Every (MergeFacts z.geo e) ms → compacted_at 1 ms + compacted_at 2 ms + compacted_at 3 ms ≤ 16382 * length ms
merges_compacted z e [] v f = omega arith
merges_compacted z e (m ∷ ms) v f =
    omega (arith, compacted_levels m.compactions, compacted_most z e m.compactions v f.0.five.facts, merge_short z.geo e m f.0, merges_compacted z e ms v f.1)

-- the answer of a change that makes the merges of a call
made_fit : (z : Layout) (ws : List ℕ) (k : ℕ) (was : Bool) (ms : List Merge) → Passed z ws → ms ≡ merges_for z.geo (store_at z ws) k → SumsFit (change_answer 0 was ms)
unfolding counts_of
made_fit z ws k was ms p e =
    let a = counts_high z.geo (store_at z ws) p.proper.valid p.fits p.sound k 1 in
    let b = counts_high z.geo (store_at z ws) p.proper.valid p.fits p.sound k 2 in
    let c = counts_high z.geo (store_at z ws) p.proper.valid p.fits p.sound k 3 in
    subst (λ (l : List Merge). SumsFit (change_answer 0 was l)) (sym e) (record {
      merges = omega (arith, a.0, b.0, c.0);
      merged = omega (arith, a.1, b.1, c.1);
      compacted = omega (
        arith,
        merges_high z.geo (store_at z ws) p.proper.valid p.fits p.sound k,
        merges_compacted z (store_at z ws) (merges_for z.geo (store_at z ws) k) p.proper (call_merges z.geo (store_at z ws) p.proper.valid p.fits p.sound k),
      );
    })

none_fit : (n : ℕ) → SumsFit (change_answer n false [])
unfolding counts_of
none_fit n = record { merges = omega arith; merged = omega arith; compacted = omega arith }

module _ (ws : List ℕ) where
  put_case : (k v : ℕ) → Passed (layout_at ws) ws → (c : Change) → PutSays (layout_at ws).geo (store_at (layout_at ws) ws) k v c → SumsFit (change_outcome (layout_at ws) ws c).answer
  unfolding change_outcome
  put_case k v p (refused n) h = none_fit n
  put_case k v p absent h = none_fit 0
  put_case k v p (entered was ms t) h = made_fit (layout_at ws) ws k was ms p h.merges

  delete_case : (k : ℕ) → Passed (layout_at ws) ws → (c : Change) → DeleteSays (layout_at ws).geo (store_at (layout_at ws) ws) k c → SumsFit (change_outcome (layout_at ws) ws c).answer
  unfolding change_outcome
  delete_case k p (refused n) h = none_fit n
  delete_case k p absent h = none_fit 0
  delete_case k p (entered was ms t) h = made_fit (layout_at ws) ws k was ms p h.1.merges

  put_sums : (k v : ℕ) → SumsFit (put_of ws k v).answer
  unfolding put_of change_outcome
  put_sums k v = go (ℕ_discrete (reason_of ws) 0)
    where
      go : Dec (reason_of ws ≡ 0) → SumsFit (put_of ws k v).answer
      go (yes e) =
          let p = reason_passed ws e in
          subst (λ (x : Outcome ChangeAnswer). SumsFit x.answer) (sym (put_of_lem ws k v e))
          (put_case k v p (put (layout_at ws).geo (store_at (layout_at ws) ws) k v) (put_says (layout_at ws).geo (store_at (layout_at ws) ws) p.proper.valid p.fits p.sound k v))
      go (no n) = rw (ne_eqb (reason_of ws) 0 n, put_of) (none_fit (reason_of ws))

  delete_sums : (k : ℕ) → SumsFit (delete_of ws k).answer
  unfolding delete_of change_outcome
  delete_sums k = go (ℕ_discrete (reason_of ws) 0)
    where
      go : Dec (reason_of ws ≡ 0) → SumsFit (delete_of ws k).answer
      go (yes e) =
          let p = reason_passed ws e in
          subst (λ (x : Outcome ChangeAnswer). SumsFit x.answer) (sym (delete_of_lem ws k e))
          (delete_case k p (delete (layout_at ws).geo (store_at (layout_at ws) ws) k) (delete_says (layout_at ws).geo (store_at (layout_at ws) ws) p.proper.valid p.fits p.sound k))
      go (no n) = rw (ne_eqb (reason_of ws) 0 n, delete_of) (none_fit (reason_of ws))

-- the sums of what put and delete have answered
pub put_fit : (ws : List ℕ) (k v : ℕ) (r : Result writer.Change Refusal) (out : List ℕ) → PutDone ws k v r out → SumsFit (changed_answer r)
put_fit ws k v r out d = subst (λ (x : Outcome ChangeAnswer). SumsFit x.answer) (sym d.outcome) (put_sums ws k v)

pub delete_fit : (ws : List ℕ) (k : ℕ) (r : Result writer.Change Refusal) (out : List ℕ) → DeleteDone ws k r out → SumsFit (changed_answer r)
delete_fit ws k r out d = subst (λ (x : Outcome ChangeAnswer). SumsFit x.answer) (sym d.outcome) (delete_sums ws k)
