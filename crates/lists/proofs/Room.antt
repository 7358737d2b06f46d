-- The words of the lists: that they lie in the store, what `load` finds in them, and what `store_back` lays there list by list.
use Prim.Native.Nat.{ℕ, suc, ◌+◌, ◌-◌, ◌*◌, ◌≤◌, ◌<◌}
use mathlib.Core.Path.{◌≡◌, refl, sym, ap, ◌∙◌}
use mathlib.Core.Logic.{dite}
use mathlib.Core.List.{List, [], ◌∷◌, ◌++◌}
use native.Mathlib.Nat.{mul-le-mul}
use native.Mathlib.Decide.{dec_lt}
use native.Mathlib.Omega.{arith}
use lib.ListN.{length, take, drop, get_or, set, replicate, length-drop}
use lib.Seq.{length-take-le, take-take, take_all}
use Rattle.slices.specs.Slices.{put_at}
use Rattle.slices.proofs.Put.{put_join}
use Rattle.geometry.specs.Geometry.{capacity_of, block_width}
use Rattle.geometry.specs.Room.{list_room}
use Rattle.geometry.proofs.Laws.{level_high}
use Rattle.layout.specs.declared.Layout.{Layout}
use Rattle.layout.specs.Layouts.{list_start, Proper}
use Rattle.layout.proofs.Laws.{list_inside}
use Rattle.levels.specs.Basics.{each}
use Rattle.levels.proofs.Each.{each_more, each_get_d}
use Rattle.pieces.specs.Pieces.{Piece, piece, part, lay, lay_all}
use Rattle.pieces.proofs.Pieces.{put_lay, lay_all_append}
use Rattle.words.specs.Stores.{count_at, list_at, listed_at, pad}
use Rattle.words.proofs.Parts.{pad_length}
use Rattle.lists.specs.Flat.{part_start, part_of}
use Rattle.lists.specs.Lists.{list_piece, Fitting, with_counts, with_lists}
use Rattle.lists.proofs.Flat.{part_fits, part_entries, part_of_length}

-- the words of a list lie in the store, and those of the places follow them
pub list_in_store : (z : Layout) (n i : ℕ) → Proper z → n ≡ z.length → 1 ≤ i → i ≤ z.geo.h → list_start z i + capacity_of z.geo i < n
unfolding block_width
list_in_store z n i v e l h =
    let a : 1 ≤ z.geo.p = omega (arith, v.valid.places_low) in
    let b : 2 ≤ block_width z.geo = omega arith in
    let w : 1 * 2 ≤ z.geo.p * block_width z.geo = mul-le-mul a b in
    omega (arith, list_inside z v l h, v.long)

-- the words that `load` copies are those that the level lists
pub listed_is : (z : Layout) (ws : List ℕ) (i n : ℕ) → n ≡ count_at z ws i → n ≤ capacity_of z.geo i → take n (drop (list_start z i) ws) ≡ listed_at z ws i
unfolding listed_at list_at part
listed_is z ws i n e c = rw (← e) (sym (take-take n (capacity_of z.geo i) (drop (list_start z i) ws) c))

pub listed_length : (z : Layout) (ws : List ℕ) (i n : ℕ) → n ≡ count_at z ws i → n ≤ capacity_of z.geo i → list_start z i + capacity_of z.geo i ≤ length ws → length (listed_at z ws i) ≡ n
listed_length z ws i n e c l = ap length (sym (listed_is z ws i n e c)) ∙ length-take-le n (drop (list_start z i) ws) (rw length-drop (omega arith))

-- lists that fit their words are short
pub fit_high : (z : Layout) (lists ns : List ℕ) → Proper z → Fitting z lists ns → (j : ℕ) → get_or ns j 0 ≤ 8192
fit_high z lists ns v k j =
    dite (dec_lt j z.geo.h)
    (λ y. omega (arith, k.fit j y, level_high z.geo v.valid {i = suc j} y))
    (λ n. omega (arith, k.none j (omega arith)))

-- hand and the three counts, word by word
pub counts_laid : (z : Layout) (ws ns : List ℕ) (c : ℕ) → length ns ≡ 3 → set (set (set (set ws z.hand c) (z.count + 1) (get_or ns 0 0)) (z.count + 2) (get_or ns 1 0)) (z.count + 3) (get_or ns 2 0) ≡ with_counts z c ns ws
unfolding with_counts lay_all lay
counts_laid z ws ns c e =
    let a : suc (z.count + 1) ≡ z.count + 2 = omega arith in
    let b : suc (z.count + 2) ≡ z.count + 3 = omega arith in
    let e3 : get_or ns 0 0 ∷ get_or ns 1 0 ∷ get_or ns 2 0 ∷ [] ≡ ns = each_get_d 0 ns 3 (omega arith) ∙ take_all 3 ns (omega arith) in
    ap (λ (i : ℕ). set (set (set (set ws z.hand c) (z.count + 1) (get_or ns 0 0)) (z.count + 2) (get_or ns 1 0)) i (get_or ns 2 0)) (sym b)
    ∙ ap (λ (i : ℕ). set (set (set (set ws z.hand c) (z.count + 1) (get_or ns 0 0)) i (get_or ns 1 0)) (suc i) (get_or ns 2 0)) (sym a)
    ∙ ap (λ (xs : List ℕ). lay (piece (z.count + 1) xs) (set ws z.hand c)) e3

-- one list from its part of the work array, and zeros behind it
pub list_padded : (z : Layout) (ws lists : List ℕ) (i n : ℕ) → Proper z → i ≤ z.geo.h → n ≤ capacity_of z.geo i → length lists ≡ list_room → list_start z i + capacity_of z.geo i < length ws
    → put_at (list_start z i + n) (replicate (capacity_of z.geo i - n) 0) (put_at (list_start z i) (take n (drop (part_start z.geo.h i) lists)) ws) ≡ lay (piece (list_start z i) (pad (capacity_of z.geo i) (take n (part_of z.geo.h lists i)))) ws
unfolding part
list_padded z ws lists i n v l h e r =
    let K = capacity_of z.geo i in
    let f = (part_fits z v i n l (omega arith)).0 in
    let xs : List ℕ = take n (part_of z.geo.h lists i) in
    let q : take n (drop (part_start z.geo.h i) lists) ≡ xs = sym (part_entries z.geo.h i n lists f) in
    let m : length xs ≡ n = length-take-le n (part_of z.geo.h lists i) (omega (arith, part_of_length z.geo.h i lists e)) in
    let p : length (pad K xs) ≡ K = pad_length K xs (omega (arith, m)) in
    rw q (rw m at (put_join (list_start z i) xs (replicate (K - n) 0) ws (rw m (omega arith))) ∙ ap (λ (k : ℕ). put_at (list_start z i) (xs ++ replicate (K - k) 0) ws) (sym m)) ∙ put_lay (list_start z i) (pad K xs) ws (rw p (omega arith))

-- The lists of the first i levels, and that of the next behind them.
pub lists_none : (ws : List ℕ) → ws ≡ lay_all [] ws
unfolding lay_all
lists_none ws = refl

module _ (z : Layout) (lists ns : List ℕ) where
  pub lists_more : (i level : ℕ) (ws us : List ℕ) → level ≡ suc i → us ≡ lay_all (each (list_piece z lists ns) 0 i) ws
      → lay (piece (list_start z level) (pad (capacity_of z.geo level) (take (get_or ns i 0) (part_of z.geo.h lists level)))) us ≡ lay_all (each (list_piece z lists ns) 0 level) ws
  unfolding lay_all list_piece
  lists_more i level ws us el e =
      rw el
      (ap (lay (list_piece z lists ns i)) e ∙ sym (lay_all_append (each (list_piece z lists ns) 0 i) (list_piece z lists ns i ∷ []) ws)
      ∙ ap (λ (ps : List Piece). lay_all ps ws) (sym (each_more (list_piece z lists ns) i)))

  -- hand and counts first, then the lists
  pub lists_laid : (ws vs us : List ℕ) (cursor i : ℕ) → i ≡ z.geo.h → vs ≡ with_counts z cursor ns ws → us ≡ lay_all (each (list_piece z lists ns) 0 i) vs → us ≡ with_lists z ws cursor ns lists
  unfolding with_lists
  lists_laid ws vs us cursor i e a b = b ∙ ap (lay_all (each (list_piece z lists ns) 0 i)) a ∙ ap (λ (n : ℕ). lay_all (each (list_piece z lists ns) 0 n) (with_counts z cursor ns ws)) e
