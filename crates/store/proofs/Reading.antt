-- Laws of the reading calls, for whoever uses them: a store that passes reads as a finite map, and one that does not is turned down for the first reason there is.
use Prim.Native.Nat.{ℕ, ◌≤◌, ◌<◌}
use mathlib.Core.Path.{◌≡◌, refl, sym, ap, ◌∙◌, subst}
use mathlib.Core.Bool.{Bool, true, false, and-eq-true_iff}
use mathlib.Core.List.{List, [], ◌∷◌}
use mathlib.Core.Option.{none, some}
use native.Mathlib.Omega.{arith}
use lib.Dec.{leb, eqb}
use lib.ListN.{length, take, drop}
use borrow.Author.Tests.{eq-eqb, ne_eqb, leb-true, leb-false, le-leb, lt-leb}
use Rattle.geometry.specs.declared.Geometry.{Geometry}
use Rattle.geometry.specs.Geometry.{within, is_legal, block_width}
use Rattle.geometry.proofs.Laws.{legal_valid}
use Rattle.levels.specs.Basics.{if◌then◌otherwise◌}
use Rattle.levels.specs.Record.{Block, Level, first_key, last_key}
use Rattle.words.specs.Stores.{part, geometry_at, level_at, place_of, layout_at}
use Rattle.words.specs.Form.{formed, reason_of}
use Rattle.words.specs.Calls.{check_of, look_up_of, next_of, enclosing, part_of, show_in, show_of}
use Rattle.layout.specs.declared.Layout.{Layout}
use Rattle.layout.specs.Layouts.{place_start, size_reason}
use Rattle.layout.proofs.Opening.{size_short, size_broken, size_other, sized_opened}
use Rattle.words.proofs.Reason.{layout_geometry}
use Rattle.form.proofs.Ready.{ready_reason}
-- Demand 2: a store that passes reads as one finite map. With the contract of look up, `look_up_map` is what the map has for the key; with
-- that of next, `next_map` is the map's first record at or above the key, which is the smallest there is (`next_smallest_map`).
-- The map's keys rise (`map_rises`), none of its records is a mark (`map_unmarked`), their number is live (`live_map`) and at most N (`map_within`).
pub use Rattle.words.proofs.MapAfter.{look_up_map, next_map, next_smallest_map, map_rises, map_unmarked, live_map, map_within}
-- Card 1: with the contract of stretch, `stretch_map` is the map's stretch cut at the shorter array. Its records are those of the map within its keys
-- (`find_stretch`), and rise (`stretch_first`); none if the first key is above the last (`stretch_none`). Arrays: `filled_keys` to `filled_full`. Resumed: `stretch_below_last`, `stretch_goes_on`; walked to its end:
-- `walk_keys`, `walk_pays`. A store that is turned down: `stretch_turned_down`.
pub use Rattle.levels.proofs.Stretch.{stretch_first, stretch_none, find_stretch}
pub use Rattle.words.proofs.Stretch.{stretch_map, stretch_turned_down, filled_keys, filled_pays, filled_keys_behind, filled_pays_behind, filled_lengths, filled_ends, filled_full, stretch_below_last, stretch_goes_on, walk_keys, walk_pays}

-- Show: levels that there are not, and those that there are.
show_low : (z : Layout) (ws : List ℕ) (i k : ℕ) → i < 1 → [] ≡ show_in z ws i k
unfolding show_in
show_low z ws i k h = rw (lt-leb 1 i h, show_in)

show_high : (z : Layout) (ws : List ℕ) (i k : ℕ) → 1 ≤ i → z.geo.h < i → [] ≡ show_in z ws i k
unfolding show_in
show_high z ws i k a b = rw (le-leb 1 i a, lt-leb i z.geo.h b, show_in)

show_inside : (z : Layout) (ws : List ℕ) (i k : ℕ) → 1 ≤ i → i ≤ z.geo.h → show_in z ws i k ≡ part_of z ws (enclosing k (level_at z ws i))
unfolding show_in
show_inside z ws i k a b = rw (le-leb 1 i a, le-leb i z.geo.h b, show_in)

module _ (ws : List ℕ) (e : reason_of ws ≡ 0) where
  none_test : eqb (reason_of ws) 0 ≡ true
  none_test = eq-eqb (reason_of ws) 0 e

  -- Show, of a level that there is
  pub show_level : (i k : ℕ) → 1 ≤ i → i ≤ (geometry_at ws).h → show_of ws i k ≡ part_of (layout_at ws) ws (enclosing k (level_at (layout_at ws) ws i))
  unfolding show_of
  show_level i k a b = rw (none_test, show_of) (show_inside (layout_at ws) ws i k a (subst (λ (g : Geometry). i ≤ g.h) (sym (layout_geometry ws)) b))

  -- "an empty part if .. i is another number"
  pub show_no_level : (i k : ℕ) → (1 ≤ i → (geometry_at ws).h < i) → show_of ws i k ≡ []
  unfolding show_of
  show_no_level i k h = rw (none_test, show_of) (sym (go (leb 1 i) refl))
    where
      go : (t : Bool) → leb 1 i ≡ t → [] ≡ show_in (layout_at ws) ws i k
      go true q = show_high (layout_at ws) ws i k (leb-true 1 i q) (subst (λ (g : Geometry). g.h < i) (sym (layout_geometry ws)) (h (leb-true 1 i q)))
      go false q = show_low (layout_at ws) ws i k (leb-false 1 i q)

-- what Show's block is: "the block whose first to last key encloses k"
pub enclosing_encloses : (k : ℕ) (l : Level) (b : Block) → enclosing k l ≡ some b → (first_key b.recs ≤ k) × (k ≤ last_key b.recs)
unfolding enclosing
enclosing_encloses k [] b e = absurd (let w : ◌≡◌ {A = ℕ} 0 1 = cc in omega arith)
enclosing_encloses k (x ∷ xs) b e = go (within (first_key x.recs) (last_key x.recs) k) refl e (λ q. enclosing_encloses k xs b q)
  where
    go : (t : Bool) → within (first_key x.recs) (last_key x.recs) k ≡ t → elim t [ true ↦ some x | false ↦ enclosing k xs ] ≡ some b
        → (enclosing k xs ≡ some b → (first_key b.recs ≤ k) × (k ≤ last_key b.recs)) → (first_key b.recs ≤ k) × (k ≤ last_key b.recs)
    go true q z ih =
        let w : x ≡ b = cc in
        let t = simp and-eq-true_iff at q in
        rw (← w) (leb-true (first_key x.recs) k t.0, leb-true k (last_key x.recs) t.1)
    go false q z ih = ih z

-- "given back as that part of the lent store": the 2 + 2B words of the block's place
pub show_block_words : (ws : List ℕ) (e : reason_of ws ≡ 0) (i k : ℕ) (b : Block) → 1 ≤ i → i ≤ (geometry_at ws).h → enclosing k (level_at (layout_at ws) ws i) ≡ some b
    → show_of ws i k ≡ take (block_width (layout_at ws).geo) (drop (place_start (layout_at ws) (place_of b)) ws)
unfolding part
show_block_words ws e i k b a h q = show_level ws e i k a h ∙ ap (part_of (layout_at ws) ws) q

-- "an empty part if there is none"
pub show_no_block : (ws : List ℕ) (e : reason_of ws ≡ 0) (i k : ℕ) → 1 ≤ i → i ≤ (geometry_at ws).h → enclosing k (level_at (layout_at ws) ws i) ≡ none → show_of ws i k ≡ []
show_no_block ws e i k a h q = show_level ws e i k a h ∙ ap (part_of (layout_at ws) ws) q

-- "Why a call is turned down. In this order".
reason_size : (ws : List ℕ) (n : ℕ) → 1 ≤ n → size_reason (length ws) (geometry_at ws) ≡ n → check_of ws ≡ n
unfolding check_of reason_of
reason_size ws n h e = rw (ne_eqb (size_reason (length ws) (geometry_at ws)) 0 (λ z. omega arith), reason_of) e

-- "1. The store has fewer than 12 words."
pub check_short : (ws : List ℕ) → length ws < 12 → check_of ws ≡ 1
check_short ws h = reason_size ws 1 (omega arith) (size_short (length ws) (geometry_at ws) (omega arith))

-- "2. The geometry .. breaks a limit above."
pub check_geometry : (ws : List ℕ) → 12 ≤ length ws → is_legal (geometry_at ws) ≡ false → check_of ws ≡ 2
check_geometry ws h l = reason_size ws 2 (omega arith) (size_broken (length ws) (geometry_at ws) h l)

-- "3. The length differs from the layout's."
pub check_length : (ws : List ℕ) → 12 ≤ length ws → is_legal (geometry_at ws) ≡ true → (length ws ≡ (layout_at ws).length → ⊥) → check_of ws ≡ 3
unfolding layout_at
check_length ws h l k = reason_size ws 3 (omega arith) (size_other (length ws) (geometry_at ws) h l k)

-- "4. The form check finds a breach."
pub check_form : (ws : List ℕ) → is_legal (geometry_at ws) ≡ true → length ws ≡ (layout_at ws).length → check_of ws ≡ (if formed (layout_at ws) ws then 0 otherwise 4)
unfolding check_of
check_form ws l k = ready_reason ws (layout_at ws) (sized_opened ws (legal_valid (geometry_at ws) l) k)

-- a call that is turned down: "the answer has only the number and zeros"
module _ (ws : List ℕ) (h : reason_of ws ≡ 0 → ⊥) where
  pub look_up_turned_down : (k : ℕ) → look_up_of ws k ≡ record { reason = check_of ws; found = false; pay = 0 }
  unfolding look_up_of check_of
  look_up_turned_down k = rw (ne_eqb (reason_of ws) 0 h, look_up_of)

  pub next_turned_down : (k : ℕ) → next_of ws k ≡ record { reason = check_of ws; found = false; key = 0; pay = 0 }
  unfolding next_of check_of
  next_turned_down k = rw (ne_eqb (reason_of ws) 0 h, next_of)

  -- "an empty part if .. the store is turned down"
  pub show_turned_down : (i k : ℕ) → show_of ws i k ≡ []
  unfolding show_of
  show_turned_down i k = rw (ne_eqb (reason_of ws) 0 h, show_of)
