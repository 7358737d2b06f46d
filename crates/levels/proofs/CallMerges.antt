-- The merges that a put or delete makes on a store that passes the form check: all about each, and about the store after them.
use Prim.Native.Nat.{ℕ, zero, suc, ◌-◌, ◌<◌, ◌≤◌}
use mathlib.Core.Path.{◌≡◌, refl, sym, ◌∙◌, ap, subst}
use mathlib.Core.Bool.{Bool, true, false, ◌||◌}
use mathlib.Core.List.{List, [], ◌∷◌}
use native.Mathlib.Omega.{arith}
use native.Mathlib.Decide.{ℕ_discrete}
use lib.Dec.{ltb}
use lib.ListN.{length, get_or}
use borrow.Author.Tests.{ltb-false}
use Rattle.geometry.specs.declared.Geometry.{Geometry}
use Rattle.geometry.specs.Geometry.{Valid, capacity_of, top_capacity_of, window_of}
use Rattle.levels.specs.Basics.{is_some}
use Rattle.levels.specs.Record.{Rec}
use Rattle.levels.specs.Map.{find}
use Rattle.levels.specs.Store.{Store, rows, blocks_of}
use Rattle.levels.specs.Call.{Merge, merge_run, merge_level, after_merge, after_merges, deepest_over, merges_below, merges_from, enough_steps}
use Rattle.levels.specs.Put.{merges_for}
use Rattle.levels.specs.InCall.{Due, MergeFacts, Deepest}
use Rattle.levels.specs.Every.{Every, First, Later}
use Rattle.levels.specs.Sound.{Fits, Sound}
use Rattle.levels.specs.Inside.{load, Inside, Entry, Ruled}
use Rattle.levels.proofs.Basics.{or_false}
use Rattle.levels.proofs.Compaction.{pages_well, pages_length, pages_full, pages_records}
use Rattle.levels.proofs.Merged.{upper_fewer}
use Rattle.levels.proofs.Overlap.{ceil_most}
use Rattle.levels.proofs.Chosen.{due_mergeable}
use Rattle.levels.proofs.StoreRows.{load_enough}
use Rattle.levels.proofs.MergeRun.{run_rows}
use Rattle.levels.proofs.Inside.{inside_sorted, inside_bottom}
use Rattle.levels.proofs.MergeInside.{chosen_at}
use Rattle.levels.proofs.Entry.{entry_ruled, entry_of, entry_inside}
use Rattle.levels.proofs.InCall.{merge_facts, deepest_says, next_facts, ListFacts, merge_start, merge_level_lem, below_stop, below_go, below_none, below_facts, below_ends}

merge_top : (g : Geometry) (j : ℕ) (s : Store) → (merge_level g (suc j) s).finish.top ≡ s.top
unfolding merge_level merge_run
merge_top g j s = refl

-- the merges out of the listed levels leave level 0
pub below_top : (n : ℕ) (g : Geometry) (e s : Store) → Valid g → Entry g e → Inside g e s → Ruled g s → (after_merges s (merges_below n g s)).top ≡ s.top
below_top zero g e s v t i r = ap (λ (ms : List Merge). (after_merges s ms).top) (below_none g s)
below_top (suc n) g e s v t i r = go (deepest_over g (g.h - 1) s) refl (λ x y z. below_top n g e x v t y z)
  where
    go : (o : ℕ) → deepest_over g (g.h - 1) s ≡ o → ((x : Store) → Inside g e x → Ruled g x → (after_merges x (merges_below n g x)).top ≡ x.top) → (after_merges s (merges_below (suc n) g s)).top ≡ s.top
    go zero q ih = ap (λ (ms : List Merge). (after_merges s ms).top) (below_stop (suc n) g s q)
    go (suc j) q ih =
        let m : Merge = merge_level g (suc j) s in
        let f = next_facts g e s j v t i r q in
        ap (λ (ms : List Merge). (after_merges s ms).top) (below_go n g s j q) ∙ ih (after_merge m) f.five.inside f.after_ruled
        ∙ ap (λ (ls : List (List Rec)). get_or ls 0 []) f.five.same_rows ∙ merge_top g j s

-- the next merge, out of the deepest level over its capacity
next_deepest : (g : Geometry) (e s : Store) (j : ℕ) → deepest_over g (g.h - 1) s ≡ suc j → MergeFacts g e (merge_level g (suc j) s) → Deepest g (merge_level g (suc j) s)
unfolding merge_level merge_run
next_deepest g e s j q f = record { listed = omega arith; over = (deepest_says g s (g.h - 1) (suc j) q).2 (omega arith); deepest = f.below_within }

-- so is each of them
pub below_deepest : (n : ℕ) (g : Geometry) (e s : Store) → Valid g → Entry g e → Inside g e s → Ruled g s → Every (Deepest g) (merges_below n g s)
below_deepest zero g e s v t i r = subst (Every (Deepest g)) (sym (below_none g s)) tt
below_deepest (suc n) g e s v t i r = go (deepest_over g (g.h - 1) s) refl (λ x y z. below_deepest n g e x v t y z)
  where
    go : (o : ℕ) → deepest_over g (g.h - 1) s ≡ o → ((x : Store) → Inside g e x → Ruled g x → Every (Deepest g) (merges_below n g x)) → Every (Deepest g) (merges_below (suc n) g s)
    go zero q ih = subst (Every (Deepest g)) (sym (below_stop (suc n) g s q)) tt
    go (suc j) q ih =
        let f = next_facts g e s j v t i r q in
        subst (Every (Deepest g)) (sym (below_go n g s j q)) (next_deepest g e s j q f, ih (after_merge (merge_level g (suc j) s)) f.five.inside f.after_ruled)

-- the clauses of merges_for, as laws: "a key found in level 0 is overwritten there; otherwise, if c = K(0)×B, level 0 is merged first"
pub for_none : (g : Geometry) (s : Store) (k : ℕ) → (is_some (find k s.top) || ltb (length s.top) (top_capacity_of g)) ≡ true → merges_for g s k ≡ []
unfolding merges_for
for_none g s k e = rw (e, merges_for)

pub for_full : (g : Geometry) (s : Store) (k : ℕ) → (is_some (find k s.top) || ltb (length s.top) (top_capacity_of g)) ≡ false → merges_for g s k ≡ merges_from g s
unfolding merges_for
for_full g s k e = rw (e, merges_for)

pub from_is : (g : Geometry) (s : Store) → merges_from g s ≡ merge_level g 0 s ∷ merges_below (enough_steps g s) g (after_merge (merge_level g 0 s))
unfolding merges_from
from_is g s = refl

-- level 0 is within its capacity in pages where it is in records
top_pages : (g : Geometry) (s : Store) → Valid g → length s.top ≤ top_capacity_of g → length (blocks_of g 0 s) ≤ capacity_of g 0
unfolding top_capacity_of
top_pages g s v h =
    let b = v.ranged.b_low in
    omega (arith, pages_length g.b s.top (omega arith), ceil_most (length s.top) g.b (capacity_of g 0) (omega arith) (omega arith))

-- in a store that passes no level holds more than K blocks
pub fits_within : (g : Geometry) (s : Store) → Valid g → Fits g s → (i : ℕ) → i ≤ g.h → length (blocks_of g i s) ≤ capacity_of g i
fits_within g s v f zero h = top_pages g s v f.top_fits
fits_within g s v f (suc j) h = f.level_fits j (omega arith)

module _ (g : Geometry) (s : Store) (v : Valid g) (f : Fits g s) (o : Sound g s) where
  module _ (full : length s.top ≡ top_capacity_of g) where
    -- level 0 is due: K(0) pages, and level 1 within K(1)
    pub first_due : Due g 0 (blocks_of g 0 s) (blocks_of g 1 s)
    unfolding top_capacity_of
    first_due =
        let n = entry_inside g s v f o in
        let b = v.ranged.b_low in
        let h = v.ranged.h_low in
        record {
          above_well = pages_well g.b s.top (omega arith);
          under_well = n.wells 0;
          above_sorted = inside_sorted g s s n 0;
          under_sorted = inside_sorted g s s n 1;
          full = omega (arith, pages_full g.b (capacity_of g 0) s.top (omega arith) full);
          roomy = f.level_fits 0 (omega arith);
        }

    -- the first merge, out of a full level 0
    pub first_facts : MergeFacts g s (merge_level g 0 s)
    first_facts = let h = v.ranged.h_low in merge_facts g s s 0 v (omega arith) (entry_inside g s v f o) (entry_ruled g s v f o) first_due (λ i l. fits_within g s v f i)

    -- the whole list
    pub from_facts : ListFacts g s s (merges_from g s)
    from_facts =
        let m : Merge = merge_level g 0 s in
        let d = first_facts in
        let l = below_facts (enough_steps g s) g s (after_merge m) v (entry_of g s v f o) d.five.inside d.after_ruled in
        subst (ListFacts g s s) (sym (from_is g s)) (record { facts = (d, l.facts); chained = (merge_start g 0 s, l.chained); inside = l.inside; ruled = l.ruled })

    -- "While a level holds more than K blocks, the deepest such merges next": the list goes on until no level above h is over its capacity
    pub from_ends : deepest_over g (g.h - 1) (after_merges s (merges_from g s)) ≡ 0
    from_ends =
        let m : Merge = merge_level g 0 s in
        let d = first_facts in
        ap (λ (ms : List Merge). deepest_over g (g.h - 1) (after_merges s ms)) (from_is g s)
        ∙ below_ends (enough_steps g s) g s (after_merge m) v (entry_of g s v f o) d.five.inside d.after_ruled
        (omega (arith, d.falls, ap (λ (x : Store). load (rows x)) (merge_start g 0 s), load_enough g s f.level_count))

    -- the first merge makes room in level 0, and the later ones leave it
    pub from_top : length (after_merges s (merges_from g s)).top < length s.top
    unfolding merge_level
    from_top =
        let m : Merge = merge_level g 0 s in
        let d = first_facts in
        let e = ap (λ (ms : List Merge). length (after_merges s ms).top) (from_is g s) in
        let q = ap length (below_top (enough_steps g s) g s (after_merge m) v (entry_of g s v f o) d.five.inside d.after_ruled) in
        let p = ap (λ (ls : List (List Rec)). length (get_or ls 0 [])) (d.five.same_rows ∙ run_rows g 0 (window_of g 0) (chosen_at g 0 s) s) in
        let u = upper_fewer g.b (window_of g 0) (chosen_at g 0 s) (blocks_of g 0 s) (blocks_of g 1 s) (due_mergeable g 0 (blocks_of g 0 s) (blocks_of g 1 s) v.ranged first_due) 0 in
        omega (arith, e, q, p, u, ap length (pages_records g.b s.top))

  -- level 0 is full where a call merges
  pub full_top : (k : ℕ) → (is_some (find k s.top) || ltb (length s.top) (top_capacity_of g)) ≡ false → length s.top ≡ top_capacity_of g
  full_top k e = omega (arith, f.top_fits, ltb-false (length s.top) (top_capacity_of g) (or_false (is_some (find k s.top)) _ e).1)

  -- All about the merges of a put or delete of k.
  pub call_facts : (k : ℕ) → ListFacts g s s (merges_for g s k)
  call_facts k = go (is_some (find k s.top) || ltb (length s.top) (top_capacity_of g)) refl
    where
      go : (t : Bool) → (is_some (find k s.top) || ltb (length s.top) (top_capacity_of g)) ≡ t → ListFacts g s s (merges_for g s k)
      go true e = subst (ListFacts g s s) (sym (for_none g s k e)) (record { facts = tt; chained = tt; inside = entry_inside g s v f o; ruled = entry_ruled g s v f o })
      go false e = subst (ListFacts g s s) (sym (for_full g s k e)) (from_facts (full_top k e))

  -- all about each of them, and about each compaction of their step 5
  pub call_merges : (k : ℕ) → Every (MergeFacts g s) (merges_for g s k)
  call_merges k = (call_facts k).facts

  -- "at the call's end each fits its K(i) words again"
  pub call_within : (k i : ℕ) → 1 ≤ i → i ≤ g.h → length (blocks_of g i (after_merges s (merges_for g s k))) ≤ capacity_of g i
  call_within k i l h = go (is_some (find k s.top) || ltb (length s.top) (top_capacity_of g)) refl
    where
      go : (t : Bool) → (is_some (find k s.top) || ltb (length s.top) (top_capacity_of g)) ≡ t → length (blocks_of g i (after_merges s (merges_for g s k))) ≤ capacity_of g i
      go true e = subst (λ (ms : List Merge). length (blocks_of g i (after_merges s ms)) ≤ capacity_of g i) (sym (for_none g s k e)) (fits_within g s v f i h)
      go false e = subst (λ (ms : List Merge). length (blocks_of g i (after_merges s ms)) ≤ capacity_of g i) (sym (for_full g s k e)) (last (ℕ_discrete i g.h))
        where
          last : Dec (i ≡ g.h) → length (blocks_of g i (after_merges s (merges_from g s))) ≤ capacity_of g i
          last (yes z) =
              let d = from_facts (full_top k e) in
              subst (λ (m : ℕ). length (blocks_of g m (after_merges s (merges_from g s))) ≤ capacity_of g m) (sym z) (inside_bottom g s (after_merges s (merges_from g s)) d.inside v (entry_of g s v f o) d.ruled)
          last (no z) = (deepest_says g (after_merges s (merges_from g s)) (g.h - 1) 0 (from_ends (full_top k e))).0 i (omega arith) (omega arith)

  -- where a call merges, level 0 then has room for a record
  pub call_top : (k : ℕ) → (is_some (find k s.top) || ltb (length s.top) (top_capacity_of g)) ≡ false → length (after_merges s (merges_for g s k)).top < top_capacity_of g
  call_top k e =
      let q = full_top k e in
      omega (arith, ap (λ (ms : List Merge). length (after_merges s ms).top) (for_full g s k e), from_top q, q)

  -- "While a level holds more than K blocks, the deepest such merges next": at the end none does, level 0 with its pages included
  pub call_ends : (k i : ℕ) → i ≤ g.h → length (blocks_of g i (after_merges s (merges_for g s k))) ≤ capacity_of g i
  call_ends k (suc j) h = call_within k (suc j) (omega arith) h
  call_ends k zero h = go (is_some (find k s.top) || ltb (length s.top) (top_capacity_of g)) refl
    where
      go : (t : Bool) → (is_some (find k s.top) || ltb (length s.top) (top_capacity_of g)) ≡ t → length (blocks_of g 0 (after_merges s (merges_for g s k))) ≤ capacity_of g 0
      go true e = subst (λ (ms : List Merge). length (blocks_of g 0 (after_merges s ms)) ≤ capacity_of g 0) (sym (for_none g s k e)) (fits_within g s v f 0 h)
      go false e = top_pages g (after_merges s (merges_for g s k)) v (omega (arith, call_top k e))

  -- "The first, if there is one, is out of level 0."
  pub first_out : (k : ℕ) → First (λ m. m.level ≡ 0) (merges_for g s k)
  first_out k = go (is_some (find k s.top) || ltb (length s.top) (top_capacity_of g)) refl
    where
      go : (t : Bool) → (is_some (find k s.top) || ltb (length s.top) (top_capacity_of g)) ≡ t → First (λ m. m.level ≡ 0) (merges_for g s k)
      go true e = subst (First (λ (m : Merge). m.level ≡ 0)) (sym (for_none g s k e)) tt
      go false e = subst (First (λ (m : Merge). m.level ≡ 0)) (sym (for_full g s k e ∙ from_is g s)) (merge_level_lem g 0 s)

  -- each later one is out of the deepest level above its capacity
  pub later_deepest : (k : ℕ) → Later (Deepest g) (merges_for g s k)
  later_deepest k = go (is_some (find k s.top) || ltb (length s.top) (top_capacity_of g)) refl
    where
      go : (t : Bool) → (is_some (find k s.top) || ltb (length s.top) (top_capacity_of g)) ≡ t → Later (Deepest g) (merges_for g s k)
      go true e = subst (Later (Deepest g)) (sym (for_none g s k e)) tt
      go false e =
          let d = first_facts (full_top k e) in
          subst (Later (Deepest g)) (sym (for_full g s k e ∙ from_is g s))
          (below_deepest (enough_steps g s) g s (after_merge (merge_level g 0 s)) v (entry_of g s v f o) d.five.inside d.after_ruled)
