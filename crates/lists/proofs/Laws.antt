-- For the caller: words that hold all of a store but its cursor, block counts and place lists are, with those laid over them, the store's words.
use Prim.Native.Nat.{ℕ, suc, ◌+◌, ◌≤◌, ◌<◌}
use mathlib.Core.Path.{◌≡◌, refl, sym, ap, ◌∙◌, subst}
use mathlib.Core.List.{List, [], ◌∷◌, map}
use mathlib.Core.Logic.{◌⊎◌, inl}
use native.Mathlib.Nat.{add-zero, zero-add, add-suc, suc-add}
use native.Mathlib.Numerals.{one-add}
use native.Mathlib.Omega.{arith}
use lib.ListN.{length, get_or, length-map}
use Rattle.geometry.specs.Geometry.{capacity_of, top_capacity_of}
use Rattle.layout.specs.declared.Layout.{Layout}
use Rattle.layout.specs.Layouts.{list_start, Proper}
use Rattle.layout.proofs.Laws.{lists_before, places_before, place_behind, place_inside, six_before, live_before, count_before}
use Rattle.levels.specs.Basics.{each}
use Rattle.levels.specs.Record.{Block, Level}
use Rattle.levels.specs.Store.{Store}
use Rattle.levels.specs.Every.{Every, all_blocks}
use Rattle.levels.specs.Sound.{BlockFits, Fits}
use Rattle.levels.proofs.Every.{every_both}
use Rattle.pieces.specs.Pieces.{Piece, piece, part, lay_all, Held, Clear, Apart, Within}
use Rattle.pieces.proofs.Pieces.{lay_all_append, lay_all_length, lay_all_kept, lay_all_here, stacked_apart, stacked_clear, stacked_lower, within_most, within_clear, lay_over}
use Rattle.words.specs.Stores.{geometry_from, place_of, pad, keys_of, pays_of, top_pieces, list_pieces, pieces, with_store, block_piece, with_blocks}
use Rattle.words.specs.Halves.{top_part}
use Rattle.words.specs.Passed.{Standing}
use Rattle.words.proofs.Blocks.{place_below, blocks_before, blocks_length}
use Rattle.words.proofs.Parts.{pad_length}
use Rattle.words.proofs.Top.{marks_long}
use Rattle.words.proofs.Stacking.{top_stacked, pieces_apart}
use Rattle.words.proofs.State.{six_same, pieces_in}
use Rattle.words.proofs.Resting.{list_store}
use Rattle.lists.specs.Lists.{list_piece, Listed, places_at, with_counts, with_lists}
use Rattle.lists.specs.Holds.{HoldsBut}
use Rattle.lists.proofs.Arrays.{counts_are}

-- pieces by number are the pieces of the levels from level i on
pieces_each : (z : Layout) (ls : List Level) (i a : ℕ) (f : ℕ → Piece) → ((j : ℕ) → j < length ls → f (a + j) ≡ piece (list_start z (i + j)) (pad (capacity_of z.geo (i + j)) (map place_of (get_or ls j [])))) → each f a (length ls) ≡ list_pieces z i ls
unfolding list_pieces
pieces_each z [] i a f e = refl
pieces_each z (l ∷ ls) i a f e =
    let p : f a ≡ piece (list_start z i) (pad (capacity_of z.geo i) (map place_of l)) = rw (add-zero, add-zero) at (e 0 (omega arith)) in
    rw (p, pieces_each z ls (suc i) (suc a) f (λ j h. rw (suc-add, suc-add) (rw (add-suc, add-suc) at (e (suc j) (omega arith)))))

-- The words with the lists back are the store's.
pub lists_back : (z : Layout) (ws : List ℕ) (t : Store) → Proper z → Fits z.geo t → HoldsBut z ws t → (work ns : List ℕ) → Listed z.geo.h z.geo.h work ns (places_at t) → with_lists z ws t.cursor ns work ≡ with_store z t ws
unfolding with_lists with_counts list_piece
lists_back z ws t v f k work ns l =
    let H : Piece = piece z.hand (t.cursor ∷ []) in
    let g : Level → ℕ = λ (x : Level). length x in
    let c : ns ≡ pad 3 (map g t.levels) = counts_are z.geo.h work ns t f.level_count l v.valid.ranged.h_high in
    let p : each (list_piece z work ns) 0 z.geo.h ≡ list_pieces z 1 t.levels = subst (λ (n : ℕ). each (list_piece z work ns) 0 n ≡ list_pieces z 1 t.levels) f.level_count (pieces_each z t.levels 1 0 (list_piece z work ns) (λ j h. rw (zero-add, one-add) (ap (λ (xs : List ℕ). piece (list_start z (suc j)) (pad (capacity_of z.geo (suc j)) xs)) (l.places j (omega (arith, f.level_count)))))) in
    sym (lay_all_append (H ∷ piece (z.count + 1) ns ∷ []) (each (list_piece z work ns) 0 z.geo.h) ws)
    ∙ (λ i. lay_all (H ∷ piece (z.count + 1) (c i) ∷ p i) ws)
    ∙ list_store z t ws v f k.long k.held

-- words that pass
pub but_held : (z : Layout) (ws : List ℕ) (t : Store) → length ws ≡ z.length → geometry_from ws z.six ≡ z.geo → Every (Held ws) (pieces z t) → Standing z ws t.levels → HoldsBut z ws t
unfolding pieces
but_held z ws t l g o d = record { long = l; six = g; held = (o.0, (o.1.1.0, (o.1.1.1.1.0, (o.1.1.1.1.1.0, (o.1.1.1.1.1.1.0, tt))))); standing = d }

-- live, c and level 0 stand before the places, and apart
pub part_in : (z : Layout) (t : Store) → Proper z → length t.top ≤ top_capacity_of z.geo → Within z.places (top_part z t)
part_in z t v h =
    (omega (arith, live_before z v), (omega (arith, count_before z v), within_most (top_pieces z t.top) z.lists z.places (lists_before z v) (top_stacked z t.top v h).1))

pub part_apart : (z : Layout) (t : Store) → Proper z → length t.top ≤ top_capacity_of z.geo → Apart (top_part z t)
part_apart z t v h =
    let g = (top_stacked z t.top v h).0 in
    stacked_apart (top_part z t) z.live (omega arith, (omega (arith, v.live_count), stacked_lower (top_pieces z t.top) (z.count + 1) z.marks (omega (arith, v.count_marks)) g))

-- the words beside level 0's parts are the same for every level 0 that fits
part_clear : (z : Layout) (s t : Store) (i : ℕ) → Proper z → length s.top ≤ top_capacity_of z.geo → length t.top ≤ top_capacity_of z.geo → Every (Clear i 1) (top_part z t) → Every (Clear i 1) (top_part z s)
unfolding top_capacity_of
part_clear z s t i v hs ht o =
    let b = v.valid.ranged.b_low in
    let same : (a n m : ℕ) → n ≡ m → (i + 1 ≤ a) ⊎ (a + n ≤ i) → (i + 1 ≤ a) ⊎ (a + m ≤ i) = λ a n m e x. rw e at x in
    let K = top_capacity_of z.geo in (
      o.0,
      (
        o.1.0,
        (
          same z.marks _ _ (marks_long z.geo.b (capacity_of z.geo 0) t.top (omega arith) ht ∙ sym (marks_long z.geo.b (capacity_of z.geo 0) s.top (omega arith) hs)) o.1.1.0,
          (
            same z.keys _ _ (pad_length K (keys_of t.top) (rw length-map ht) ∙ sym (pad_length K (keys_of s.top) (rw length-map hs))) o.1.1.1.0,
            (same z.pays _ _ (pad_length K (pays_of t.top) (rw length-map ht) ∙ sym (pad_length K (pays_of s.top) (rw length-map hs))) o.1.1.1.1.0, tt),
          ),
        ),
      ),
    )

-- live, c and level 0 laid, blocks written, and the first laid anew: the old ones are gone
pub part_over : (z : Layout) (s t : Store) (bs : List Block) (ws : List ℕ) → Proper z → length ws ≡ z.length → length s.top ≤ top_capacity_of z.geo → length t.top ≤ top_capacity_of z.geo
    → lay_all (top_part z t) (with_blocks z bs (lay_all (top_part z s) ws)) ≡ lay_all (top_part z t) (with_blocks z bs ws)
unfolding with_blocks
part_over z s t bs ws v l hs ht =
    lay_over (top_part z t) (map (block_piece z) bs) (top_part z s) ws (within_most (top_part z t) z.places (length ws) (omega (arith, l, places_before z v)) (part_in z t v ht)) (part_apart z t v ht) (λ i o. part_clear z s t i v hs ht o)

-- and so are they beneath a store that is laid
pub store_over : (z : Layout) (t : Store) (ws : List ℕ) → Proper z → Fits z.geo t → length ws ≡ z.length → with_store z t (lay_all (top_part z t) ws) ≡ with_store z t ws
unfolding with_store pieces lay_all
store_over z t ws v f l = lay_over (pieces z t) [] (top_part z t) ws (pieces_in z t ws v f l) (pieces_apart z t v f) (λ i o. (o.0, (o.1.1.0, (o.1.1.1.1.0, (o.1.1.1.1.1.0, (o.1.1.1.1.1.1.0, tt))))))

kept_pieces : (us ws : List ℕ) (n : ℕ) (ps : List Piece) → ((a m : ℕ) → a + m ≤ n → part us a m ≡ part ws a m) → Within n ps → Every (Held ws) ps → Every (Held us) ps
kept_pieces us ws n [] e i h = tt
kept_pieces us ws n (p ∷ ps) e i h = (e p.at (length p.words) i.0 ∙ h.0, kept_pieces us ws n ps e i.1 h.1)

-- Blocks written: the words before the places stay.
pub but_blocks : (z : Layout) (ws : List ℕ) (bs : List Block) (s t : Store) → Proper z → HoldsBut z ws s → t.live ≡ s.live → t.top ≡ s.top → length s.top ≤ top_capacity_of z.geo → Standing z (with_blocks z bs ws) t.levels → HoldsBut z (with_blocks z bs ws) t
but_blocks z ws bs s t v k l e r d =
    let us : List ℕ = with_blocks z bs ws in
    let same : (a m : ℕ) → a + m ≤ z.places → part us a m ≡ part ws a m = λ a m h. blocks_before z v a m bs ws k.long h in
    record {
      long = blocks_length z bs ws ∙ k.long;
      six = six_same us ws z.six (same z.six 6 (six_before z v)) ∙ k.six;
      held = kept_pieces us ws z.places (top_part z t) same (part_in z t v (rw e r)) (rw (l, e) k.held);
      standing = d;
    }

-- Another level 0: its record count and its three parts laid anew.
pub but_top : (z : Layout) (ws : List ℕ) (s t : Store) → Proper z → HoldsBut z ws s → t.live ≡ s.live → t.levels ≡ s.levels → length t.top ≤ top_capacity_of z.geo → Every (BlockFits z.geo) (all_blocks t.levels)
    → HoldsBut z (lay_all (piece z.count (length t.top ∷ []) ∷ top_pieces z t.top) ws) t
but_top z ws s t v k l e r f =
    let T = top_pieces z t.top in
    let ps : List Piece = piece z.count (length t.top ∷ []) ∷ T in
    let us : List ℕ = lay_all ps ws in
    let g = top_stacked z t.top v r in
    let w : Within z.places ps = (part_in z t v r).1 in
    let m = places_before z v in
    let live : part us z.live 1 ≡ t.live ∷ [] = lay_all_kept ps ws z.live 1 (omega (arith, k.long, live_before z v)) (inl (omega (arith, v.live_count)), stacked_clear T z.marks z.live 1 (omega (arith, v.live_count, v.count_marks)) g.0) ∙ k.held.0 ∙ ap (λ (n : ℕ). n ∷ []) (sym l) in
    record {
      long = lay_all_length ps ws ∙ k.long;
      six = six_same us ws z.six (lay_all_kept ps ws z.six 6 (omega (arith, k.long, six_before z v)) (inl (omega (arith, v.six_live, v.live_count)), stacked_clear T z.marks z.six 6 (omega (arith, v.six_live, v.live_count, v.count_marks)) g.0)) ∙ k.six;
      held = (live, lay_all_here ps ws (within_most ps z.places (length ws) (omega (arith, k.long)) w) (stacked_apart ps z.count (omega arith, stacked_lower T (z.count + 1) z.marks (omega (arith, v.count_marks)) g.0)));
      standing = every_both (BlockFits z.geo) _ _ (all_blocks t.levels) (λ b h q. lay_all_kept ps ws _ _ (rw k.long (place_inside z v (place_below b h))) (within_clear ps _ _ (within_most ps z.places _ (place_behind z (place_of b)) w)) ∙ q) f (rw e k.standing);
    }
