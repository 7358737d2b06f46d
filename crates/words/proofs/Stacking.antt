-- The pieces of a store that fits a proper layout: none meets another, and all lie before the places.
use Prim.Native.Nat.{ℕ, suc, ◌+◌, ◌≤◌, ◌<◌}
use mathlib.Core.Path.{◌≡◌, sym, subst}
use mathlib.Core.List.{List, [], ◌∷◌, ◌++◌, map}
use mathlib.Core.Logic.{◌⊎◌, inl, inr}
use native.Mathlib.Nat.{add-zero, suc-add, add-suc}
use native.Mathlib.Numerals.{one-add}
use native.Mathlib.Omega.{arith}
use lib.ListN.{length, get_or, length-map}
use Rattle.geometry.specs.declared.Geometry.{Geometry}
use Rattle.geometry.specs.Geometry.{capacity_of, top_capacity_of}
use Rattle.layout.specs.declared.Layout.{Layout}
use Rattle.layout.specs.Layouts.{list_start, Proper}
use Rattle.layout.proofs.Laws.{lists_first, list_next, list_mono, count_before, hand_before, live_before}
use Rattle.levels.specs.Record.{Rec, Level}
use Rattle.levels.specs.Store.{Store}
use Rattle.levels.specs.Every.{Every}
use Rattle.levels.specs.Sound.{Fits}
use Rattle.pieces.specs.Pieces.{Piece, piece, Clear, Apart, Stacked, Within}
use Rattle.pieces.proofs.Pieces.{stacked_apart, stacked_clear, stacked_lower, stacked_append, within_most, within_append, within_clear}
use Rattle.words.specs.Stores.{pad, keys_of, pays_of, place_of, top_pieces, list_pieces, pieces}
use Rattle.words.proofs.Parts.{pad_length}
use Rattle.words.proofs.Top.{marks_long}

-- the levels from i on have room in their lists
abbrev pub Room : Geometry → ℕ → List Level → Type 0
Room g i [] = Unit {0}
Room g i (l ∷ ls) = (length l ≤ capacity_of g i) × Room g (suc i) ls

pub room_of_lem : (g : Geometry) (ls : List Level) (i : ℕ) → ((j : ℕ) → j < length ls → length (get_or ls j []) ≤ capacity_of g (i + j)) → Room g i ls
room_of_lem g [] i f = tt
room_of_lem g (l ∷ ls) i f = (rw add-zero at (f 0 (omega arith)), room_of_lem g ls (suc i) (λ j h. rw suc-add (rw add-suc at (f (suc j) (omega arith)))))

pub room_fits : (g : Geometry) (s : Store) → Fits g s → Room g 1 s.levels
room_fits g s f =
    room_of_lem g s.levels 1 (λ j h. rw one-add (f.level_fits j (omega (arith, f.level_count))))

-- the lists of all levels
pub lists_stacked : (z : Layout) (ls : List Level) (i : ℕ) → 1 ≤ i → Room z.geo i ls → Stacked (list_start z i) (list_pieces z i ls) × Within (list_start z (i + length ls)) (list_pieces z i ls)
unfolding list_pieces
lists_stacked z [] i o r = (tt, tt)
lists_stacked z (l ∷ ls) i o r =
    let K = capacity_of z.geo i in
    let a : length (pad K (map place_of l)) ≡ K = pad_length K (map place_of l) (rw length-map r.0) in
    let b = lists_stacked z ls (suc i) (omega arith) r.1 in
    let e : i + suc (length ls) ≡ suc i + length ls = omega arith in
    let n = list_next z i o in
    let m = list_mono z (length ls) (suc i) (omega arith) in
    ((omega arith, stacked_lower (list_pieces z (suc i) ls) (list_start z i + length (pad K (map place_of l))) (list_start z (suc i)) (omega (arith, a, n)) b.0), subst (λ (n : ℕ). Within (list_start z n) (list_pieces z i (l ∷ ls))) (sym e) (omega (arith, a, n, m), b.1))

-- level 0
pub top_stacked : (z : Layout) (rs : List Rec) → Proper z → length rs ≤ top_capacity_of z.geo → Stacked z.marks (top_pieces z rs) × Within z.lists (top_pieces z rs)
unfolding top_capacity_of
top_stacked z rs k h =
    let T = top_capacity_of z.geo in
    let a = marks_long z.geo.b (capacity_of z.geo 0) rs (omega (arith, k.valid.ranged.b_low)) h in
    let b : length (pad T (keys_of rs)) ≡ T = pad_length T (keys_of rs) (rw length-map h) in
    let c : length (pad T (pays_of rs)) ≡ T = pad_length T (pays_of rs) (rw length-map h) in
    ((omega arith, (omega (arith, a, k.marks_keys), (omega (arith, b, k.keys_pays), tt))), (omega (arith, a, k.marks_keys, k.keys_pays, k.pays_lists), (omega (arith, b, k.keys_pays, k.pays_lists), (omega (arith, c, k.pays_lists), tt))))

-- the three block counts
pub counts_length : (s : Store) → length s.levels ≤ 3 → length (pad 3 (map (λ (l : Level). length l) s.levels)) ≡ 3
counts_length s h = pad_length 3 (map (λ (l : Level). length l) s.levels) (rw length-map h)

-- All pieces.
module _ (z : Layout) (s : Store) (k : Proper z) (f : Fits z.geo s) where
  pub counts_long : length (pad 3 (map (λ (l : Level). length l) s.levels)) ≡ 3
  counts_long = counts_length s (omega (arith, f.level_count, k.valid.ranged.h_high))

  lower : List Piece
  lower = top_pieces z s.top ++ list_pieces z 1 s.levels

  lower_stacked : Stacked z.marks lower × Within (list_start z (suc z.geo.h)) lower
  unfolding lower
  lower_stacked =
      let t = top_stacked z s.top k f.top_fits in
      let l = lists_stacked z s.levels 1 (omega arith) (room_fits z.geo s f) in
      let e : 1 + length s.levels ≡ suc z.geo.h = omega (arith, f.level_count) in
      let i : Within (list_start z (suc z.geo.h)) (list_pieces z 1 s.levels) = rw e at l.1 in
      let m : z.lists ≤ list_start z (suc z.geo.h) = rw (lists_first z, one-add) at (list_mono z z.geo.h 1 (omega arith)) in
      (stacked_append (top_pieces z s.top) (list_pieces z 1 s.levels) z.marks z.lists (omega (arith, k.marks_keys, k.keys_pays, k.pays_lists)) t.0 t.1 (rw (lists_first z) at l.0), within_append (top_pieces z s.top) (list_pieces z 1 s.levels) (list_start z (suc z.geo.h)) (within_most (top_pieces z s.top) z.lists (list_start z (suc z.geo.h)) m t.1) i)

  pub pieces_within : Within z.places (pieces z s)
  unfolding pieces lower
  pieces_within =
      (omega (arith, live_before z k), (omega (arith, hand_before z k), (omega (arith, count_before z k), (omega (arith, counts_long, count_before z k), within_most lower (list_start z (suc z.geo.h)) z.places k.lists_places lower_stacked.1))))

  tail_stacked : Stacked z.count (piece z.count (length s.top ∷ []) ∷ piece (z.count + 1) (pad 3 (map (λ (l : Level). length l) s.levels)) ∷ lower)
  tail_stacked = (omega arith, (omega arith, stacked_lower lower (z.count + 1 + length (pad 3 (map (λ (l : Level). length l) s.levels))) z.marks (omega (arith, counts_long, k.count_marks)) lower_stacked.0))

  pub pieces_apart : Apart (pieces z s)
  unfolding pieces lower
  pieces_apart =
      let t = tail_stacked in
      let T = piece z.count (length s.top ∷ []) ∷ piece (z.count + 1) (pad 3 (map (λ (l : Level). length l) s.levels)) ∷ lower in
      ((hand_apart k.hand_live, stacked_clear T z.count z.live 1 (omega (arith, k.live_count)) t), (stacked_clear T z.count z.hand 1 (omega (arith, k.hand_count)) t, stacked_apart T z.count t))
    where
      hand_apart : (z.hand < z.live) ⊎ (z.live < z.hand) → Clear z.live 1 (piece z.hand (s.cursor ∷ []))
      hand_apart (inl h) = inr (omega arith)
      hand_apart (inr h) = inl (omega arith)

  -- words that are neither size words nor in level 0 or the lists are clear of the pieces
  pub pieces_clear : (a n : ℕ) → (a + n ≤ z.live) ⊎ (z.live < a) → (a + n ≤ z.hand) ⊎ (z.hand < a) → (a + n ≤ z.count) ⊎ (z.count + 4 ≤ a) → (a + n ≤ z.marks) ⊎ (list_start z (suc z.geo.h) ≤ a) → Every (Clear a n) (pieces z s)
  unfolding pieces lower
  pieces_clear a n l h c m = (one_clear z.live s.live l, (one_clear z.hand s.cursor h, (count_clear c, (counts_clear c, lower_clear m))))
    where
      one_clear : (at x : ℕ) → (a + n ≤ at) ⊎ (at < a) → Clear a n (piece at (x ∷ []))
      one_clear at x (inl p) = inl p
      one_clear at x (inr p) = inr (omega arith)

      count_clear : (a + n ≤ z.count) ⊎ (z.count + 4 ≤ a) → Clear a n (piece z.count (length s.top ∷ []))
      count_clear (inl p) = inl p
      count_clear (inr p) = inr (omega arith)

      counts_clear : (a + n ≤ z.count) ⊎ (z.count + 4 ≤ a) → Clear a n (piece (z.count + 1) (pad 3 (map (λ (l : Level). length l) s.levels)))
      counts_clear (inl p) = inl (omega arith)
      counts_clear (inr p) = inr (omega (arith, counts_long))

      lower_clear : (a + n ≤ z.marks) ⊎ (list_start z (suc z.geo.h) ≤ a) → Every (Clear a n) lower
      lower_clear (inl p) = stacked_clear lower z.marks a n p lower_stacked.0
      lower_clear (inr p) = within_clear lower a n (within_most lower (list_start z (suc z.geo.h)) a p lower_stacked.1)
