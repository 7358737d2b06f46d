-- Where a part of a store stands in the words already, the rest alone need be laid.
use Prim.Native.Nat.{ℕ, ◌+◌, ◌≤◌, ◌<◌}
use mathlib.Core.Path.{◌≡◌, sym, ap, ◌∙◌}
use mathlib.Core.List.{List, [], ◌∷◌, ◌++◌, map, append-nil}
use mathlib.Core.Logic.{◌⊎◌, inl, inr}
use native.Mathlib.Numerals.{one-add}
use native.Mathlib.Omega.{arith}
use lib.ListN.{length}
use Rattle.layout.specs.declared.Layout.{Layout}
use Rattle.layout.specs.Layouts.{list_start, Proper}
use Rattle.layout.proofs.Laws.{lists_first, lists_before, live_before, hand_before, count_before, places_before}
use Rattle.levels.specs.Record.{Level}
use Rattle.levels.specs.Store.{Store}
use Rattle.levels.specs.Every.{Every}
use Rattle.levels.specs.Sound.{Fits}
use Rattle.pieces.specs.Pieces.{Piece, piece, lay_all, Held, Clear, Within}
use Rattle.pieces.proofs.Pieces.{lay_all_skip, within_most, stacked_behind}
use Rattle.words.specs.Stores.{pad, top_pieces, list_pieces, pieces, with_store}
use Rattle.words.specs.Halves.{top_part, list_part}
use Rattle.words.proofs.Stacking.{room_fits, counts_long, top_stacked, lists_stacked}

module _ (z : Layout) (s : Store) (ws : List ℕ) (k : Proper z) (f : Fits z.geo s) (l : length ws ≡ z.length) where
  L : Piece
  L = piece z.live (s.live ∷ [])

  H : Piece
  H = piece z.hand (s.cursor ∷ [])

  C : Piece
  C = piece z.count (length s.top ∷ [])

  N : Piece
  N = piece (z.count + 1) (pad 3 (map (λ (x : Level). length x) s.levels))

  lists_in : Within (length ws) (list_pieces z 1 s.levels)
  lists_in =
      let w = (lists_stacked z s.levels 1 (omega arith) (room_fits z.geo s f)).1 in
      let e : 1 + length s.levels ≡ 1 + z.geo.h = ap (λ (n : ℕ). 1 + n) f.level_count in
      within_most (list_pieces z 1 s.levels) (list_start z (1 + length s.levels)) (length ws) (omega (arith, ap (list_start z) e, end_in, places_before z k)) w
    where
      end_in : list_start z (1 + z.geo.h) ≤ z.places
      end_in = rw one-add k.lists_places

  front : Within z.lists (L ∷ C ∷ top_pieces z s.top)
  unfolding L C
  front =
      let t = top_stacked z s.top k f.top_fits in
      let m = k.marks_keys in
      (omega (arith, k.live_count, k.count_marks, m, k.keys_pays, k.pays_lists), (omega (arith, k.count_marks, m, k.keys_pays, k.pays_lists), t.1))

  -- hand, counts and lists stand: live, c and level 0 need be laid
  pub top_store : Every (Held ws) (list_part z s) → lay_all (top_part z s) ws ≡ with_store z s ws
  unfolding with_store pieces L H C N
  top_store e =
      let T = top_pieces z s.top in
      let G = list_pieces z 1 s.levels in
      let g = (lists_stacked z s.levels 1 (omega arith) (room_fits z.geo s f)).0 in
      let b = places_before z k in
      sym
      (lay_all_skip (L ∷ []) (H ∷ []) (C ∷ N ∷ (T ++ G)) ws (omega (arith, hand_before z k), tt) ((hand_apart k.hand_live, tt), tt) (e.0, tt)
      ∙ lay_all_skip (L ∷ C ∷ []) (N ∷ []) (T ++ G) ws (omega (arith, counts_long z s k f, count_before z k), tt) ((inr (omega (arith, k.live_count)), (inr (omega arith), tt)), tt) (e.1.0, tt)
      ∙ ap (λ (ps : List Piece). lay_all (L ∷ C ∷ (T ++ ps)) ws) (sym (append-nil G))
      ∙ lay_all_skip (L ∷ C ∷ T) G [] ws lists_in (stacked_behind (L ∷ C ∷ T) G z.lists front (rw (lists_first z) at g)) e.1.1)
    where
      hand_apart : (z.hand < z.live) ⊎ (z.live < z.hand) → Clear z.hand 1 (piece z.live (s.live ∷ []))
      hand_apart (inl h) = inl (omega arith)
      hand_apart (inr h) = inr (omega arith)

  -- live, c and level 0 stand: hand, counts and lists need be laid
  pub list_store : Every (Held ws) (top_part z s) → lay_all (list_part z s) ws ≡ with_store z s ws
  unfolding with_store pieces L H C N
  list_store e =
      let T = top_pieces z s.top in
      let G = list_pieces z 1 s.levels in
      let t = top_stacked z s.top k f.top_fits in
      let b = places_before z k in
      sym
      (lay_all_skip [] (L ∷ []) (H ∷ C ∷ N ∷ (T ++ G)) ws (omega (arith, live_before z k), tt) (tt, tt) (e.0, tt)
      ∙ lay_all_skip (H ∷ []) (C ∷ []) (N ∷ (T ++ G)) ws (omega (arith, count_before z k), tt) ((inr (omega (arith, k.hand_count)), tt), tt) (e.1.0, tt)
      ∙ lay_all_skip (H ∷ N ∷ []) T G ws (within_most T z.lists (length ws) (omega (arith, lists_before z k)) t.1) (stacked_behind (H ∷ N ∷ []) T z.marks (omega (arith, k.hand_count, k.count_marks), (omega (arith, counts_long z s k f, k.count_marks), tt)) t.0) e.1.1)
