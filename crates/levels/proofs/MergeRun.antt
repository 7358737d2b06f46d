-- A merge of any run out of level i, level 0 or a listed level, on the whole store: its rows, its levels and its places at the end.
use Prim.Native.Nat.{ℕ, zero, suc, ◌+◌, ◌<◌, ◌≤◌}
use mathlib.Core.Path.{◌≡◌, refl, sym, ◌∙◌, ap}
use mathlib.Core.List.Memᴰ
use mathlib.Core.List.{List, [], ◌∷◌, ◌++◌, Memᴰ}
use mathlib.Core.Logic.{◌⊎◌, inl, inr, ⊎_elim}
use native.Mathlib.Omega.{arith}
use lib.Dec.{eqb}
use lib.ListN.{length, length-append, get_or, set}
use Rattle.geometry.specs.declared.Geometry.{Geometry}
use Rattle.levels.specs.Record.{Rec, Level, records}
use Rattle.levels.specs.Choose.{Cut, cut_at}
use Rattle.levels.specs.Place.{Allocation, Settled, settle, places_of}
use Rattle.levels.specs.Store.{Store, rows, blocks_of, with_blocks, used_in, allocation_of}
use Rattle.levels.specs.Call.{settle_upper, merge_cut, merge_run}
use Rattle.levels.specs.Well.{Well, Sized}
use Rattle.levels.specs.Taking.{fresh, hand_after, Changed}
use Rattle.levels.specs.InCall.{Mergeable}
use Rattle.levels.specs.Every.{Every, all_blocks}
use Rattle.levels.proofs.Merged.{upper_of, lower_of, upper_length, upper_well, lower_well}
use Rattle.levels.proofs.Compaction.{pages_fresh}
use Rattle.levels.proofs.Settling.{settle_records, written_length, written_places, settle_hand, hand_append, settle_cursor, settle_used}
use Rattle.levels.proofs.Places.{places_append}
use Rattle.levels.proofs.Written.{merge_changed, top_changed}
use Rattle.levels.proofs.Every.{every_make, every_turn}
use Rattle.levels.proofs.Stays.{Old, old_of_every, old_fresh, upper_old, lower_old, settled_old, level_mem, every_set, written_sized}
use Rattle.levels.proofs.StoreRows.{rows_with, levels_with, level_with}

-- the cut of levels i and i + 1 of a store
abbrev pub cut_of : Geometry → ℕ → ℕ → ℕ → Store → Cut
cut_of g i w first s = cut_at w first (blocks_of g i s) (blocks_of g (suc i) s)

-- what step 2 leaves of level i, and what steps 3 and 4 make of level i + 1, before new blocks take their places
abbrev pub upper_left : Geometry → ℕ → ℕ → ℕ → Store → Level
upper_left g i w first s = upper_of g.b i (cut_of g i w first s)

abbrev pub lower_made : Geometry → ℕ → ℕ → ℕ → Store → Level
lower_made g i w first s = lower_of g.b (eqb (suc i) g.h) (cut_of g i w first s)

-- the blocks that step 2 writes: none in level 0, whose pages have no places
abbrev pub new_above : ℕ → Level → ℕ
new_above zero l = 0
new_above (suc j) l = fresh l

-- the blocks that the merge writes
abbrev pub new_blocks : Geometry → ℕ → ℕ → ℕ → Store → ℕ
new_blocks g i w first s = new_above i (upper_left g i w first s) + fresh (lower_made g i w first s)

-- places change no record of level i
upper_kept : (g : Geometry) (i : ℕ) (a : Allocation) (l : Level) → records (settle_upper g i a l).level ≡ records l
upper_kept g zero a l = refl
upper_kept g (suc j) a l = settle_records g.p a l

-- what holds of a level with places, whatever they are, holds of level i from 1 on
upper_turns : (P : Level → Type 0) (g : Geometry) (i j : ℕ) (a : Allocation) (l : Level) → suc j ≡ i → P (settle g.p a l).level → P (settle_upper g i a l).level
upper_turns P g zero j a l e h = absurd (omega (arith, e))
upper_turns P g (suc i) j a l e h = h

sized_append : (B : ℕ) (k l : Level) → Sized B k → Sized B l → Sized B (k ++ l)
sized_append B [] l h i = i
sized_append B (b ∷ bs) l h i = (h.0, h.1, sized_append B bs l h.2 i)

-- what step 2 leaves of a listed level: the sizes and the pair rule, and at least w blocks fewer
module _ (B w first : ℕ) (above under : Level) (h : Mergeable B w first above under) where
  pub upper_well_at : (i j : ℕ) → suc j ≡ i → Well B (upper_of B i (cut_at w first above under))
  upper_well_at zero j e = absurd (omega (arith, e))
  upper_well_at (suc i) j e = upper_well B w first above under h i

  pub upper_length_at : (i j : ℕ) → suc j ≡ i → length (upper_of B i (cut_at w first above under)) + w ≤ length above
  upper_length_at zero j e = absurd (omega (arith, e))
  upper_length_at (suc i) j e = upper_length B w first above under h i

module _ (g : Geometry) (i w first : ℕ) (s : Store) where
  -- the rows at the end
  pub run_rows : rows (merge_run g i w first s).finish ≡ set (set (rows s) i (records (upper_left g i w first s))) (suc i) (records (lower_made g i w first s))
  unfolding merge_run merge_cut
  run_rows =
      let u : Settled = settle_upper g i (allocation_of s) (upper_left g i w first s) in
      let l : Settled = settle g.p u.allocation (lower_made g i w first s) in
      rows_with (suc i) l.level (with_blocks i u.level s)
      ∙ ap (λ (ls : List (List Rec)). set ls (suc i) (records l.level)) (rows_with i u.level s)
      ∙ ap (λ (r : List Rec). set (set (rows s) i r) (suc i) (records l.level)) (upper_kept g i (allocation_of s) (upper_left g i w first s))
      ∙ ap (λ (r : List Rec). set (set (rows s) i (records (upper_left g i w first s))) (suc i) r) (settle_records g.p u.allocation (lower_made g i w first s))

  -- as many levels as before
  pub run_many : length (merge_run g i w first s).finish.levels ≡ length s.levels
  unfolding merge_run merge_cut
  run_many =
      let u : Settled = settle_upper g i (allocation_of s) (upper_left g i w first s) in
      let l : Settled = settle g.p u.allocation (lower_made g i w first s) in
      levels_with (suc i) l.level (with_blocks i u.level s) ∙ levels_with i u.level s

  -- what holds of each listed level at the end: of levels i and i + 1 with their places, and of the others as before
  pub run_level : (P : Level → Type 0) (j : ℕ) → (suc j ≡ i → (a : Allocation) → P (settle g.p a (upper_left g i w first s)).level) → (j ≡ i → (a : Allocation) → P (settle g.p a (lower_made g i w first s)).level)
      → P (get_or s.levels j []) → P (get_or (merge_run g i w first s).finish.levels j [])
  unfolding merge_run merge_cut
  run_level P j up down other =
      let u : Settled = settle_upper g i (allocation_of s) (upper_left g i w first s) in
      let l : Settled = settle g.p u.allocation (lower_made g i w first s) in
      level_with P (suc i) l.level (with_blocks i u.level s) j (λ e. down (omega (arith, e)) u.allocation)
      (level_with P i u.level s j (λ e. upper_turns P g i j (allocation_of s) (upper_left g i w first s) e (up e (allocation_of s))) other)

  -- live is not touched
  pub run_live : (merge_run g i w first s).finish.live ≡ s.live
  unfolding merge_run
  run_live = go i
    where
      go : (i : ℕ) → (merge_run g i w first s).finish.live ≡ s.live
      go zero = refl
      go (suc j) = refl

  -- the blocks written, counted
  pub run_written : length (merge_run g i w first s).written ≡ new_blocks g i w first s
  unfolding merge_run merge_cut
  run_written = go i
    where
      go : (i : ℕ) → length (merge_run g i w first s).written ≡ new_blocks g i w first s
      go zero = written_length g.p (allocation_of s) (lower_made g 0 w first s) ∙ omega arith
      go (suc j) =
          let u : Settled = settle g.p (allocation_of s) (upper_left g (suc j) w first s) in
          let l : Settled = settle g.p u.allocation (lower_made g (suc j) w first s) in
          omega (
            arith,
            length-append u.written l.written,
            written_length g.p (allocation_of s) (upper_left g (suc j) w first s),
            written_length g.p u.allocation (lower_made g (suc j) w first s),
          )

  -- and each has a place
  pub run_places : length (places_of (merge_run g i w first s).written) ≡ new_blocks g i w first s
  unfolding merge_run merge_cut
  run_places = go i
    where
      go : (i : ℕ) → length (places_of (merge_run g i w first s).written) ≡ new_blocks g i w first s
      go zero = written_places g.p (allocation_of s) (lower_made g 0 w first s) ∙ omega arith
      go (suc j) =
          let u : Settled = settle g.p (allocation_of s) (upper_left g (suc j) w first s) in
          let l : Settled = settle g.p u.allocation (lower_made g (suc j) w first s) in
          omega (
            arith,
            ap length (places_append u.written l.written),
            length-append (places_of u.written) (places_of l.written),
            written_places g.p (allocation_of s) (upper_left g (suc j) w first s),
            written_places g.p u.allocation (lower_made g (suc j) w first s),
          )

  -- each block at the end is one that was there, or is written
  pub run_stays : Every (λ b. Memᴰ b (all_blocks s.levels) ⊎ Memᴰ b (merge_run g i w first s).written) (all_blocks (merge_run g i w first s).finish.levels)
  unfolding merge_run merge_cut
  run_stays = go i
    where
      here : (j : ℕ) → Old (λ b. Memᴰ b (all_blocks s.levels)) (get_or s.levels j [])
      here j = old_of_every (λ b. Memᴰ b (all_blocks s.levels)) (get_or s.levels j []) (level_mem s.levels j)

      go : (i : ℕ) → Every (λ b. Memᴰ b (all_blocks s.levels) ⊎ Memᴰ b (merge_run g i w first s).written) (all_blocks (merge_run g i w first s).finish.levels)
      go zero =
          let l : Settled = settle g.p (allocation_of s) (lower_made g 0 w first s) in
          every_set (λ b. Memᴰ b (all_blocks s.levels) ⊎ Memᴰ b l.written) s.levels 0 l.level
          (every_make _ (all_blocks s.levels) (λ b m. inl m))
          (settled_old (λ b. Memᴰ b (all_blocks s.levels)) g.p (allocation_of s) (lower_made g 0 w first s)
          (lower_old (λ b. Memᴰ b (all_blocks s.levels)) g.b w first (eqb 1 g.h) (blocks_of g 0 s) (blocks_of g 1 s) (old_fresh (λ b. Memᴰ b (all_blocks s.levels)) (blocks_of g 0 s) (pages_fresh g.b s.top)) (here 0)))
      go (suc j) =
          let u : Settled = settle g.p (allocation_of s) (upper_left g (suc j) w first s) in
          let l : Settled = settle g.p u.allocation (lower_made g (suc j) w first s) in
          every_set (λ b. Memᴰ b (all_blocks s.levels) ⊎ Memᴰ b (u.written ++ l.written)) (set s.levels j u.level) (suc j) l.level
          (every_set (λ b. Memᴰ b (all_blocks s.levels) ⊎ Memᴰ b (u.written ++ l.written)) s.levels j u.level
          (every_make _ (all_blocks s.levels) (λ b m. inl m))
          (every_turn (λ b. Memᴰ b (all_blocks s.levels) ⊎ Memᴰ b u.written) _ u.level (λ b m. ⊎_elim inl (λ x. inr (Memᴰ.append_left l.written x)) m)
          (settled_old (λ b. Memᴰ b (all_blocks s.levels)) g.p (allocation_of s) (upper_left g (suc j) w first s)
          (upper_old (λ b. Memᴰ b (all_blocks s.levels)) g.b (suc j) w first (blocks_of g (suc j) s) (blocks_of g (suc (suc j)) s) (here j)))))
          (every_turn (λ b. Memᴰ b (all_blocks s.levels) ⊎ Memᴰ b l.written) _ l.level (λ b m. ⊎_elim inl (λ x. inr (Memᴰ.append_right u.written x)) m)
          (settled_old (λ b. Memᴰ b (all_blocks s.levels)) g.p u.allocation (lower_made g (suc j) w first s)
          (lower_old (λ b. Memᴰ b (all_blocks s.levels)) g.b w first (eqb (suc (suc j)) g.h) (blocks_of g (suc j) s) (blocks_of g (suc (suc j)) s) (here j) (here (suc j)))))

  -- the blocks written hold 1 to B records
  pub run_sized : Mergeable g.b w first (blocks_of g i s) (blocks_of g (suc i) s) → Sized g.b (merge_run g i w first s).written
  unfolding merge_run merge_cut
  run_sized h = go i (λ j q. (upper_well_at g.b w first (blocks_of g i s) (blocks_of g (suc i) s) h i j q).sized) (lower_well g.b w first (blocks_of g i s) (blocks_of g (suc i) s) h (eqb (suc i) g.h)).sized
    where
      go : (i : ℕ) → ((j : ℕ) → suc j ≡ i → Sized g.b (upper_left g i w first s)) → Sized g.b (lower_made g i w first s) → Sized g.b (merge_run g i w first s).written
      go zero a b = written_sized g.b g.p (allocation_of s) (lower_made g 0 w first s) b
      go (suc j) a b =
          let u : Settled = settle g.p (allocation_of s) (upper_left g (suc j) w first s) in
          sized_append g.b u.written _ (written_sized g.b g.p (allocation_of s) (upper_left g (suc j) w first s) (a j refl))
          (written_sized g.b g.p u.allocation (lower_made g (suc j) w first s) b)

-- What is in use at the end is part of what was and the places taken, each the first free one after the cursor; the cursor stays below P.
module _ (g : Geometry) (w first : ℕ) (s : Store) (low : s.cursor < g.p) where
  pub run_changed : (i : ℕ) → Mergeable g.b w first (blocks_of g i s) (blocks_of g (suc i) s) → i < length s.levels → length (used_in s) + new_blocks g i w first s ≤ g.p
      → Changed g.p (allocation_of s) (used_in (merge_run g i w first s).finish) (places_of (merge_run g i w first s).written)
  unfolding merge_run merge_cut
  run_changed zero h inside room =
      top_changed g.p g.b w first s.cursor (eqb 1 g.h) (blocks_of g 0 s) s.levels (pages_fresh g.b s.top) h inside low (omega arith)
  run_changed (suc j) h inside room =
      let u : Settled = settle g.p (allocation_of s) (upper_left g (suc j) w first s) in
      let l : Settled = settle g.p u.allocation (lower_made g (suc j) w first s) in
      rw (places_append u.written l.written)
      (merge_changed g.p g.b w first s.cursor (eqb (suc (suc j)) g.h) s.levels j h inside low room)

  pub run_cursor : (i : ℕ) → length (used_in s) + new_blocks g i w first s ≤ g.p → (merge_run g i w first s).finish.cursor < g.p
  unfolding merge_run merge_cut
  run_cursor zero room = settle_cursor g.p (allocation_of s) (lower_made g 0 w first s) low (omega arith)
  run_cursor (suc j) room =
      let u : Settled = settle g.p (allocation_of s) (upper_left g (suc j) w first s) in
      settle_cursor g.p u.allocation (lower_made g (suc j) w first s) (settle_cursor g.p (allocation_of s) (upper_left g (suc j) w first s) low (omega arith))
      (omega (arith, settle_used g.p (allocation_of s) (upper_left g (suc j) w first s)))

-- "hand moves there": at the end it is the place last taken
pub run_hand : (g : Geometry) (i w first : ℕ) (s : Store) → (merge_run g i w first s).finish.cursor ≡ hand_after s.cursor (places_of (merge_run g i w first s).written)
unfolding merge_run merge_cut
run_hand g zero w first s = settle_hand g.p (allocation_of s) (lower_made g 0 w first s)
run_hand g (suc j) w first s =
    let u : Settled = settle g.p (allocation_of s) (upper_left g (suc j) w first s) in
    let l : Settled = settle g.p u.allocation (lower_made g (suc j) w first s) in
    settle_hand g.p u.allocation (lower_made g (suc j) w first s)
    ∙ ap (λ (hand : ℕ). hand_after hand (places_of l.written)) (settle_hand g.p (allocation_of s) (upper_left g (suc j) w first s))
    ∙ sym (ap (hand_after s.cursor) (places_append u.written l.written) ∙ hand_append s.cursor (places_of u.written) (places_of l.written))
