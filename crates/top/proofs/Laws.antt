-- Level 0's edits against the words of a store, for the calls.
use Prim.Native.Nat.{ℕ, zero, suc, ◌+◌, ◌*◌, ◌^◌, ◌≤◌, ◌<◌}
use mathlib.Core.Path.{◌≡◌, sym, ap, ◌∙◌, subst}
use mathlib.Core.Bool.{true}
use mathlib.Core.List.{List, [], ◌∷◌, ◌++◌, map}
use native.Mathlib.Nat.{add-zero}
use native.Mathlib.Omega.{arith}
use lib.Dec.{ltb}
use lib.ListN.{length, take, drop, set, length-map}
use lib.Seq.{take-nil, drop-nil, take-add, drop-drop, take-append_seam}
use Rattle.geometry.specs.Geometry.{capacity_of, top_capacity_of}
use Rattle.layout.specs.declared.Layout.{Layout}
use Rattle.layout.specs.Layouts.{list_start, Proper}
use Rattle.layout.proofs.Laws.{lists_first}
use Rattle.levels.specs.Basics.{all, each}
use Rattle.levels.specs.Record.{Rec, Level, records, rising, pages}
use Rattle.levels.specs.Store.{Store}
use Rattle.levels.specs.Every.{Every}
use Rattle.levels.specs.Sound.{Fits, Sound}
use Rattle.levels.proofs.Basics.{and_left}
use Rattle.levels.proofs.Every.{every_turn}
use Rattle.levels.proofs.Compaction.{pages_records}
use Rattle.levels.proofs.Levels.{records_append}
use Rattle.levels.proofs.Pages.{pages_step}
use Rattle.pieces.specs.Pieces.{word, pad, Piece, piece, ending, lay, lay_all, Clear}
use Rattle.pieces.proofs.Pieces.{lay_all_length, lay_all_append, lay_all_across, lay_all_beside, laid_is, stacked_over}
use Rattle.words.specs.Stores.{top_count_at, top_slots, top_recs, keys_of, pays_of, top_pieces, list_pieces, pieces, with_store}
use Rattle.words.specs.Form.{top_unused_zero}
use Rattle.words.proofs.Parts.{pad_length}
use Rattle.words.proofs.Slots.{pad_recs, pad_blank}
use Rattle.words.proofs.Top.{TopHeld, marks_long, top_inside, top_marks, top_read}
use Rattle.words.proofs.Stacking.{room_fits, lists_stacked, top_stacked, pieces_apart}
use Rattle.words.proofs.State.{with_length, with_held, top_count_held, top_parts_held, top_held, pieces_in}
use Rattle.words.proofs.Form.{all_part, marks_small}
use Rattle.top.specs.Top.{TopReady, with_slots, with_top}
use Rattle.top.proofs.Moves.{set_piece}
use Rattle.top.proofs.Words.{top_within, top_here}

-- Words in which level 0 holds rs, and no more, are ready for its edits.
pub held_ready : (z : Layout) (ws : List ℕ) (rs : List Rec) → Proper z → length ws ≡ z.length → length rs ≤ top_capacity_of z.geo → TopHeld z ws rs → top_count_at z ws ≡ length rs → rising 0 rs ≡ true → TopReady z ws
unfolding top_unused_zero top_recs
held_ready z ws rs k n l o c r =
    let b : 1 ≤ z.geo.b = omega (arith, k.valid.ranged.b_low) in
    let i = top_inside z ws k n in
    let s : top_slots z ws ≡ pad_recs (top_capacity_of z.geo) rs = top_read z ws rs b l o i in
    let m : all (λ (i : ℕ). ltb (word ws (z.marks + i)) (2 ^ z.geo.b)) (each (λ (i : ℕ). i) 0 (capacity_of z.geo 0)) ≡ true = all_part (λ (m : ℕ). ltb m (2 ^ z.geo.b)) ws z.marks (capacity_of z.geo 0) 0 (omega (arith, i.marks)) ∙ rw (add-zero, top_marks z ws rs b l o) (marks_small z.geo.b (capacity_of z.geo 0) (pad_recs (top_capacity_of z.geo) rs)) in
    record {
      proper = k;
      words = n;
      fits = rw c l;
      unused = rw (c, s, pad_blank (top_capacity_of z.geo) rs) m;
      rises = rw (c, s, take-append_seam rs) r;
    }

-- the first word of a piece that nothing is laid over
set_front : (ps : List Piece) (p : Piece) (qs : List Piece) (ws : List ℕ) (x : ℕ) → 0 < length p.words → Every (Clear p.at 1) qs → set (lay_all (ps ++ (p ∷ qs)) ws) p.at x ≡ lay_all (ps ++ (piece p.at (set p.words 0 x) ∷ qs)) ws
set_front ps p qs ws x h o =
    subst (λ (a : ℕ). set (lay_all (ps ++ (p ∷ qs)) ws) a x ≡ lay_all (ps ++ (piece p.at (set p.words 0 x) ∷ qs)) ws) (add-zero p.at)
    (set_piece ps p qs ws 0 x h (subst (λ (a : ℕ). Every (Clear a 1) qs) (sym (add-zero p.at)) o))

-- level 0's pieces laid over others of level 0
top_over : (z : Layout) (ws : List ℕ) (rs ss : List Rec) → Proper z → length ws ≡ z.length → length rs ≤ top_capacity_of z.geo → length ss ≤ top_capacity_of z.geo → lay_all (top_pieces z rs) (lay_all (top_pieces z ss) ws) ≡ lay_all (top_pieces z rs) ws
unfolding top_capacity_of with_slots
top_over z ws rs ss k n l m =
    let us = lay_all (top_pieces z ss) ws in
    let e = lay_all_length (top_pieces z ss) ws in
    sym (laid_is (top_pieces z rs) (lay_all (top_pieces z rs) us) ws (lay_all_length (top_pieces z rs) us ∙ e) (top_within z k ws rs n l) (top_here z k us rs (e ∙ n) l)
    (λ j h o. lay_all_beside (top_pieces z rs) us j o ∙ lay_all_beside (top_pieces z ss) ws j (turn j o)))
  where
    turn : (j : ℕ) → Every (Clear j 1) (top_pieces z rs) → Every (Clear j 1) (top_pieces z ss)
    turn j o =
        let T = top_capacity_of z.geo in
        let b : 1 ≤ z.geo.b = omega (arith, k.valid.ranged.b_low) in
        rw (marks_long z.geo.b (capacity_of z.geo 0) ss b m, pad_length T (keys_of ss) (rw length-map m), pad_length T (pays_of ss) (rw length-map m))
        (rw (marks_long z.geo.b (capacity_of z.geo 0) rs b l, pad_length T (keys_of rs) (rw length-map l), pad_length T (pays_of rs) (rw length-map l)) at o)

-- Words with a store t in them.
module _ (z : Layout) (t : Store) (ws : List ℕ) (k : Proper z) (f : Fits z.geo t) (n : length ws ≡ z.length) where
  abbrev us : List ℕ
  us = with_store z t ws

  us_long : length us ≡ z.length
  us_long = with_length z t ws ∙ n

  pub top_count_back : top_count_at z us ≡ length t.top
  top_count_back = top_count_held z us t k f us_long (with_held z t ws k f n)

  -- level 0's records read back
  pub top_back : top_recs z us ≡ t.top
  unfolding top_recs
  top_back = rw (top_count_back, top_held z us t k f us_long (with_held z t ws k f n)) (take-append_seam t.top _)

  -- they are ready for level 0's edits
  pub words_ready : rising 0 t.top ≡ true → TopReady z us
  words_ready r = held_ready z us t.top k us_long f.top_fits (top_parts_held z us t k f us_long (with_held z t ws k f n)) top_count_back r

  abbrev hand : Piece
  hand = piece z.hand (t.cursor ∷ [])

  abbrev sizes : ℕ → Piece
  sizes c = piece z.count (c ∷ [])

  abbrev counts : Piece
  counts = piece (z.count + 1) (pad 3 (map (λ (l : Level). length l) t.levels))

  abbrev lists : List Piece
  lists = list_pieces z 1 t.levels

  -- live, and nothing else
  pub set_live : (x : ℕ) → set us z.live x ≡ with_store z (record { live = x; cursor = t.cursor; top = t.top; levels = t.levels }) ws
  unfolding with_store pieces
  set_live x = set_front [] (piece z.live (t.live ∷ [])) (hand ∷ sizes (length t.top) ∷ counts ∷ (top_pieces z t.top ++ lists)) ws x (omega arith) (pieces_apart z t k f).0

  -- other records in level 0's words are the words with the store that has these records
  pub with_top_words : (rs : List Rec) → length rs ≤ top_capacity_of z.geo → with_top z us rs ≡ with_store z (record { live = t.live; cursor = t.cursor; top = rs; levels = t.levels }) ws
  unfolding with_top with_store pieces lay_all lay
  with_top_words rs l =
      let head : List Piece = piece z.live (t.live ∷ []) ∷ hand ∷ [] in
      let tops : List Piece = top_pieces z t.top in
      let new : List Piece = top_pieces z rs in
      let xs : List ℕ = lay_all (head ++ (sizes (length rs) ∷ counts ∷ [])) ws in
      let m : length (lay_all tops xs) ≡ length ws = lay_all_length tops xs ∙ lay_all_length (head ++ (sizes (length rs) ∷ counts ∷ [])) ws in
      let d = (lists_stacked z t.levels 1 (omega arith) (room_fits z.geo t f)).0 in
      let e = (top_stacked z rs k l).1 in
      ap (lay_all new) (set_front head (sizes (length t.top)) (counts ∷ (tops ++ lists)) ws (length rs) (omega arith) (pieces_apart z t k f).1.1.0)
      ∙ ap (lay_all new) (lay_all_append tops lists xs)
      ∙ lay_all_across lists new (lay_all tops xs) (rw m (pieces_in z t ws k f n).1.1.1.1.1.1.1) (top_within z k (lay_all tops xs) rs (m ∙ n) l)
      (every_turn (λ q. ending q ≤ z.lists) (λ q. Every (λ p. Clear p.at (length p.words) q) lists) new (λ q h. stacked_over lists (list_start z 1) q (omega (arith, lists_first z, h)) d) e)
      ∙ ap (lay_all lists) (top_over z xs rs t.top k (lay_all_length (head ++ (sizes (length rs) ∷ counts ∷ [])) ws ∙ n) l f.top_fits)
      ∙ sym (lay_all_append new lists xs)

-- "keys rise strictly in each level", and so in level 0
pub top_rises : (z : Layout) (t : Store) → Sound z.geo t → rising 0 t.top ≡ true
top_rises z t o = and_left (rising 0 t.top) _ o.keys_rise

-- "Level 0 counts as pages of B records from its start": the first n pages, and those after them
pub pages_take : (B n : ℕ) (rs : List Rec) → 1 ≤ B → records (take n (pages B rs)) ≡ take (n * B) rs
pages_take B zero rs h = let z : 0 * B ≡ 0 = omega arith in rw z
pages_take B (suc n) [] h = sym (take-nil (suc n * B))
pages_take B (suc n) (r ∷ rs) h =
    let z : suc n * B ≡ B + n * B = omega arith in
    ap (λ (l : Level). records (take (suc n) l)) (pages_step B (r ∷ rs) h (omega arith))
    ∙ rw (pages_take B n (drop B (r ∷ rs)) h, z) (sym (take-add B (n * B) (r ∷ rs)))

pub pages_drop : (B n : ℕ) (rs : List Rec) → 1 ≤ B → records (drop n (pages B rs)) ≡ drop (n * B) rs
pages_drop B zero rs h = let z : 0 * B ≡ 0 = omega arith in rw z (pages_records B rs)
pages_drop B (suc n) [] h = sym (drop-nil (suc n * B))
pages_drop B (suc n) (r ∷ rs) h =
    let z : suc n * B ≡ B + n * B = omega arith in
    ap (λ (l : Level). records (drop (suc n) l)) (pages_step B (r ∷ rs) h (omega arith))
    ∙ pages_drop B n (drop B (r ∷ rs)) h ∙ rw (z) (drop-drop (n * B) B (r ∷ rs))

-- "X leaves; in level 0 the later records move up and close the gap"
pub pages_close : (B first w : ℕ) (rs : List Rec) → 1 ≤ B → records (take first (pages B rs) ++ drop (first + w) (pages B rs)) ≡ take (first * B) rs ++ drop ((first + w) * B) rs
pages_close B first w rs h =
    records_append (take first (pages B rs)) (drop (first + w) (pages B rs)) ∙ rw (pages_take B first rs h, pages_drop B (first + w) rs h)
