-- A merge of the chosen run keeps what holds inside a call, out of level 0 as out of a listed level; and the sum over all records of the levels below falls.
use Prim.Native.Nat.{ℕ, zero, suc, ◌+◌, ◌*◌, ◌<◌, ◌≤◌}
use mathlib.Core.Path.{◌≡◌, refl, sym, ◌∙◌, ap, subst}
use mathlib.Core.Bool.{Bool, true, false, not, ◌||◌}
use mathlib.Core.List.{List, []}
use native.Mathlib.Omega.{arith}
use lib.Dec.{eqb}
use lib.ListN.{length, get_or, set, take, drop}
use borrow.Author.Tests.{eqb-true, eq-eqb}
use Rattle.geometry.specs.declared.Geometry.{Geometry}
use Rattle.geometry.specs.Geometry.{Valid, capacity_of, window_of}
use Rattle.levels.specs.Basics.{all, or_else}
use Rattle.levels.specs.Record.{Rec, Level, records, has_tombstone, clean_tombstones}
use Rattle.levels.specs.Map.{find, present, look_up}
use Rattle.levels.specs.Choose.{overlap, choose}
use Rattle.levels.specs.Place.{places_of}
use Rattle.levels.specs.Store.{Store, rows, blocks_of, used_in, allocation_of}
use Rattle.levels.specs.Call.{merge_level}
use Rattle.levels.specs.Well.{Well}
use Rattle.levels.specs.Rising.{Risings}
use Rattle.levels.specs.Taking.{fresh, Changed}
use Rattle.levels.specs.InCall.{Mergeable, Due}
use Rattle.levels.specs.Inside.{records_above, load, Inside}
use Rattle.levels.proofs.Levels.{sized_filled, rising_ordered}
use Rattle.levels.proofs.Cut.{over_length}
use Rattle.levels.proofs.Rows.{risings_set, look_up_pair, look_up_last}
use Rattle.levels.proofs.Merged.{lower_of, lower_well, upper_rising, lower_rising, upper_all, lower_all, lower_clean, pair_find, pair_present, upper_count, upper_fewer, lower_count, upper_writes, lower_writes}
use Rattle.levels.proofs.Settling.{settle_length, settle_placed, settle_well}
use Rattle.levels.proofs.Places.{changed_distinct, changed_inside}
use Rattle.levels.proofs.Chosen.{due_mergeable, due_over, due_double}
use Rattle.levels.proofs.Room.{merge_room_numbers}
use Rattle.levels.proofs.StoreRows.{set_at, row_blocks, rows_count, all_row, all_set, above_pair, load_pair}
use Rattle.levels.proofs.MergeRun.{upper_well_at, upper_length_at, cut_of, upper_left, lower_made, new_above, new_blocks, run_rows, run_many, run_level, run_live, run_changed, run_cursor}
use Rattle.levels.proofs.Inside.{inside_used}

-- the number of the chosen run's first block
abbrev pub chosen_at : Geometry → ℕ → Store → ℕ
chosen_at g i s = (choose (window_of g i) (blocks_of g i s) (blocks_of g (suc i) s)).at

-- the record's own test of "the payloads of marks are 0"
abbrev clean_rec : Rec → Bool
clean_rec r = not r.tombstone || eqb r.pay 0

module _ (g : Geometry) (e s : Store) (i : ℕ) (v : Valid g) (low : i < g.h) (n : Inside g e s) (d : Due g i (blocks_of g i s) (blocks_of g (suc i) s)) where
  -- the chosen run can be merged
  pub chosen_can : Mergeable g.b (window_of g i) (chosen_at g i s) (blocks_of g i s) (blocks_of g (suc i) s)
  chosen_can = due_mergeable g i (blocks_of g i s) (blocks_of g (suc i) s) v.ranged d

  -- it writes at most w + q + 1 blocks; out of level 0 at most w + q
  pub chosen_writes : new_blocks g i (window_of g i) (chosen_at g i s) s ≤ window_of g i + length (cut_of g i (window_of g i) (chosen_at g i s) s).over + 1
  chosen_writes =
      let l = lower_writes g.b (window_of g i) (chosen_at g i s) (blocks_of g i s) (blocks_of g (suc i) s) chosen_can (eqb (suc i) g.h) (n.placed i) in
      omega (arith, l, up i chosen_can)
    where
      up : (i : ℕ) → Mergeable g.b (window_of g i) (chosen_at g i s) (blocks_of g i s) (blocks_of g (suc i) s) → new_above i (upper_left g i (window_of g i) (chosen_at g i s) s) ≤ 1
      up zero h = omega arith
      up (suc j) h = upper_writes g.b (window_of g (suc j)) (chosen_at g (suc j) s) (blocks_of g (suc j) s) (blocks_of g (suc (suc j)) s) h j (n.placed j)

  pub chosen_writes_top : i ≡ 0 → new_blocks g i (window_of g i) (chosen_at g i s) s ≤ window_of g i + length (cut_of g i (window_of g i) (chosen_at g i s) s).over
  chosen_writes_top q =
      let l = lower_writes g.b (window_of g i) (chosen_at g i s) (blocks_of g i s) (blocks_of g (suc i) s) chosen_can (eqb (suc i) g.h) (n.placed i) in
      omega (arith, l, none i q)
    where
      none : (i : ℕ) → i ≡ 0 → new_above i (upper_left g i (window_of g i) (chosen_at g i s) s) ≡ 0
      none zero q = refl
      none (suc j) q = absurd (omega (arith, q))

  -- q, the overlap of the chosen run, is the length of Y
  pub chosen_overlap : length (cut_of g i (window_of g i) (chosen_at g i s) s).over ≡ overlap (blocks_of g (suc i) s) (take (window_of g i) (drop (chosen_at g i s) (blocks_of g i s)))
  chosen_overlap =
      over_length (window_of g i) (chosen_at g i s) 0 (blocks_of g i s) (blocks_of g (suc i) s)
      (rising_ordered 0 (blocks_of g (suc i) s) (sized_filled g.b (blocks_of g (suc i) s) d.under_well.sized) d.under_sorted)

  -- a free place is left at each taking: the places in use and those taken are together below P
  pub chosen_room : length (used_in s) + new_blocks g i (window_of g i) (chosen_at g i s) s < g.p
  chosen_room =
      let q = due_over g i (blocks_of g i s) (blocks_of g (suc i) s) v.ranged d in
      merge_room_numbers g i (length (used_in s)) (new_blocks g i (window_of g i) (chosen_at g i s) s) v low (inside_used g e s n) (omega (arith, chosen_writes, q))

  -- the places at its end: part of those at its start, and those taken, each the first free one after the cursor
  pub chosen_changed : Changed g.p (allocation_of s) (used_in (merge_level g i s).finish) (places_of (merge_level g i s).written)
  unfolding merge_level
  chosen_changed = run_changed g (window_of g i) (chosen_at g i s) s n.cursor i chosen_can (omega (arith, n.many)) (omega (arith, chosen_room))

  row_clean : (k : ℕ) → all clean_rec (records (blocks_of g k s)) ≡ true
  row_clean k = rw (row_blocks g k s) (all_row clean_tombstones (rows s) k refl n.clean)

  -- in the two levels the same is found for every key, or, into level h, the same is present
  chosen_looks : (k : ℕ) → look_up k (set (set (rows s) i (records (upper_left g i (window_of g i) (chosen_at g i s) s))) (suc i) (records (lower_made g i (window_of g i) (chosen_at g i s) s))) ≡ look_up k (rows s)
  chosen_looks k = go (eqb (suc i) g.h) refl
    where
      a : records (blocks_of g i s) ≡ get_or (rows s) i []
      a = row_blocks g i s

      b : records (blocks_of g (suc i) s) ≡ get_or (rows s) (suc i) []
      b = row_blocks g (suc i) s

      pair : or_else (find k (records (blocks_of g i s))) (find k (records (blocks_of g (suc i) s))) ≡ or_else (find k (get_or (rows s) i [])) (find k (get_or (rows s) (suc i) []))
      pair = ap (λ (r : List Rec). or_else (find k r) (find k (records (blocks_of g (suc i) s)))) a ∙ ap (λ (r : List Rec). or_else (find k (get_or (rows s) i [])) (find k r)) b

      go : (t : Bool) → eqb (suc i) g.h ≡ t → look_up k (set (set (rows s) i (records (upper_left g i (window_of g i) (chosen_at g i s) s))) (suc i) (records (lower_of g.b t (cut_of g i (window_of g i) (chosen_at g i s) s)))) ≡ look_up k (rows s)
      go true q = look_up_last k (rows s) i _ _ (omega (arith, eqb-true (suc i) g.h q, rows_count s, n.many))
          (pair_present g.b (window_of g i) (chosen_at g i s) (blocks_of g i s) (blocks_of g (suc i) s) chosen_can true i k ∙ ap present pair)
      go false q = look_up_pair k (rows s) i _ _ (omega (arith, rows_count s, n.many))
          (pair_find g.b (window_of g i) (chosen_at g i s) (blocks_of g i s) (blocks_of g (suc i) s) chosen_can i k ∙ pair)

  chosen_bottom : has_tombstone (get_or (set (set (rows s) i (records (upper_left g i (window_of g i) (chosen_at g i s) s))) (suc i) (records (lower_made g i (window_of g i) (chosen_at g i s) s))) g.h []) ≡ false
  chosen_bottom =
      set_at [] (λ r. has_tombstone r ≡ false) (set (rows s) i _) (suc i) _ g.h (λ q. lower (eqb (suc i) g.h) (eq-eqb (suc i) g.h (sym q)) q)
      (set_at [] (λ r. has_tombstone r ≡ false) (rows s) i _ g.h (λ q. absurd (omega (arith, q))) n.bottom)
    where
      lower : (t : Bool) → t ≡ true → g.h ≡ suc i → has_tombstone (records (lower_of g.b t (cut_of g i (window_of g i) (chosen_at g i s) s))) ≡ false
      lower true z q =
          lower_clean g.b (window_of g i) (chosen_at g i s) (blocks_of g i s) (blocks_of g (suc i) s) chosen_can
          (ap has_tombstone (row_blocks g (suc i) s ∙ ap (λ (k : ℕ). get_or (rows s) k []) (sym q)) ∙ n.bottom)
      lower false z q = cc

  -- X's records leave row i, and row i + 1 gets at most so many
  upper_row : length (records (upper_left g i (window_of g i) (chosen_at g i s) s)) + length (records (cut_of g i (window_of g i) (chosen_at g i s) s).run) ≡ length (get_or (rows s) i [])
  upper_row = upper_count g.b (window_of g i) (chosen_at g i s) (blocks_of g i s) (blocks_of g (suc i) s) chosen_can i ∙ ap length (row_blocks g i s)

  lower_row : length (records (lower_made g i (window_of g i) (chosen_at g i s) s)) ≤ length (get_or (rows s) (suc i) []) + length (records (cut_of g i (window_of g i) (chosen_at g i s) s).run)
  lower_row = omega (arith, lower_count g.b (window_of g i) (chosen_at g i s) (blocks_of g i s) (blocks_of g (suc i) s) chosen_can (eqb (suc i) g.h), ap length (row_blocks g (suc i) s))

  -- the sum over all records of the levels below theirs falls by X's records
  pub chosen_falls : load (rows (merge_level g i s).finish) + length (records (cut_of g i (window_of g i) (chosen_at g i s) s).run) ≤ load (rows s)
  unfolding merge_level
  chosen_falls =
      let x : ℕ = length (records (cut_of g i (window_of g i) (chosen_at g i s) s).run) in
      subst (λ (y : List (List Rec)). load y + x ≤ load (rows s)) (sym (run_rows g i (window_of g i) (chosen_at g i s) s))
      (load_pair (rows s) i x (records (upper_left g i (window_of g i) (chosen_at g i s) s)) (records (lower_made g i (window_of g i) (chosen_at g i s) s)) (omega (arith, rows_count s, n.many)) upper_row lower_row)

  -- so it falls
  pub chosen_load : load (rows (merge_level g i s).finish) < load (rows s)
  chosen_load =
      let f = upper_fewer g.b (window_of g i) (chosen_at g i s) (blocks_of g i s) (blocks_of g (suc i) s) chosen_can i in
      omega (arith, f, ap length (row_blocks g i s), upper_row, chosen_falls)

  -- the merge, steps 1 to 4
  pub merge_inside : Inside g e (merge_level g i s).finish
  unfolding merge_level
  merge_inside =
      let w : ℕ = window_of g i in
      let f : ℕ = chosen_at g i s in
      let a : Level = blocks_of g i s in
      let u : Level = blocks_of g (suc i) s in
      let h = chosen_can in
      let r = run_rows g i w f s in
      record {
        many = run_many g i w f s ∙ n.many;
        wells = λ j. run_level g i w f s (Well g.b) j
            (λ q c. settle_well g.p g.b c (upper_left g i w f s) (upper_well_at g.b w f a u h i j q))
            (λ q c. settle_well g.p g.b c (lower_made g i w f s) (lower_well g.b w f a u h (eqb (suc i) g.h)))
            (n.wells j);
        placed = λ j. run_level g i w f s (λ l. fresh l ≡ 0) j (λ q c. settle_placed g.p c (upper_left g i w f s)) (λ q c. settle_placed g.p c (lower_made g i w f s)) (n.placed j);
        doubled = λ j. run_level g i w f s (λ l. length l ≤ 2 * capacity_of g (suc j)) j
            (λ q c. omega (arith, settle_length g.p c (upper_left g i w f s), upper_length_at g.b w f a u h i j q, ap (λ (k : ℕ). length (blocks_of g k s)) q, n.doubled j))
            (λ q c. omega (arith, settle_length g.p c (lower_made g i w f s), due_double g i a u v.ranged d (eqb (suc i) g.h), ap (λ (k : ℕ). capacity_of g (suc k)) q))
            (n.doubled j);
        sorted = subst Risings (sym r) (risings_set (set (rows s) i _) (suc i) _ (lower_rising g.b w f a u h (eqb (suc i) g.h)) (risings_set (rows s) i _ (upper_rising g.b w f a u h i) n.sorted));
        clean = subst (λ (x : List (List Rec)). all clean_tombstones x ≡ true) (sym r) (all_set clean_tombstones (set (rows s) i _) (suc i) _ (lower_all g.b w f a u h clean_rec (eqb (suc i) g.h) (row_clean i) (row_clean (suc i)))
            (all_set clean_tombstones (rows s) i _ (upper_all g.b w f a u h clean_rec i (row_clean i)) n.clean));
        bottom = subst (λ (x : List (List Rec)). has_tombstone (get_or x g.h []) ≡ false) (sym r) chosen_bottom;
        once = changed_distinct g.p (allocation_of s) (used_in (merge_level g i s).finish) (places_of (merge_level g i s).written) chosen_changed n.once;
        within = changed_inside g.p (allocation_of s) (used_in (merge_level g i s).finish) (places_of (merge_level g i s).written) chosen_changed n.within;
        cursor = run_cursor g w f s n.cursor i (omega (arith, chosen_room));
        looks = λ k. ap (look_up k) r ∙ chosen_looks k ∙ n.looks k;
        above = subst (λ (x : List (List Rec)). records_above g.h x ≤ records_above g.h (rows e)) (sym r)
            (omega (arith, above_pair g.h (rows s) i (length (records (cut_of g i w f s).run)) (records (upper_left g i w f s)) (records (lower_made g i w f s)) upper_row lower_row, n.above));
        live = run_live g i w f s ∙ n.live;
      }
