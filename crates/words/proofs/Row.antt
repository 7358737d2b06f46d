-- Document 01's row of words, as one concatenation, and that the pieces of Stores are this row in the old form: a store, blocks, and what format,
-- a put and a delete leave. No contract speaks of the row.
use Prim.Native.Nat.{ℕ, suc, ◌+◌, ◌-◌, ◌*◌, ◌≤◌}
use mathlib.Core.Path.{◌≡◌, refl, sym, ap, ◌∙◌, subst}
use mathlib.Core.Bool.{Bool}
use mathlib.Core.List.{List, [], ◌∷◌, ◌++◌, map, foldl, append_assoc, append-nil}
use native.Mathlib.Nat.{add-zero}
use native.Mathlib.Omega.{arith}
use lib.ListN.{length, take, drop, replicate, length-map, take-append-drop}
use lib.Seq.{take-add, drop-drop, take_at, drop_at, length-take-le}
use Rattle.geometry.specs.declared.Geometry.{Geometry}
use Rattle.geometry.specs.Geometry.{Valid, capacity_of, top_capacity_of, block_width}
use Rattle.layout.specs.declared.Layout.{Layout}
use Rattle.layout.specs.Layouts.{old, list_start, place_start, Proper}
use Rattle.layout.proofs.Laws.{lists_first, list_next, places_before, place_inside}
use Rattle.layout.proofs.Old.{lists_end, old_proper, store_length_low}
use Rattle.levels.specs.Record.{Rec, Block, Level, pages}
use Rattle.levels.specs.Store.{Store}
use Rattle.levels.specs.Call.{Compaction, Merge}
use Rattle.levels.specs.Put.{entered, put, delete}
use Rattle.levels.specs.Every.{Every}
use Rattle.levels.specs.Sound.{BlockFits, Fits}
use Rattle.levels.specs.InCall.{CompactionFacts, MergeFacts}
use Rattle.levels.proofs.Every.{every_append}
use Rattle.levels.proofs.CallMerges.{call_facts}
use Rattle.levels.proofs.PutDelete.{EnterFacts, put_facts, delete_facts}
use Rattle.slices.specs.Slices.{put_at}
use Rattle.pieces.specs.Pieces.{piece, lay, lay_all}
use Rattle.pieces.proofs.Pieces.{lay_length, put_lay}
use Rattle.pieces.proofs.Joined.{Joined, row_of, row_append, lay_joined}
use Rattle.words.specs.Stores.{pad, part, mark_word, geometry_from, geometry_at, layout_at, keys_of, pays_of, place_of, store_at, top_pieces, list_pieces, pieces, with_store, block_words, block_piece, with_blocks}
use Rattle.words.specs.Form.{reason_of}
use Rattle.words.specs.Calls.{Outcome, ChangeAnswer, six_of, format_words, compacted_blocks, written_blocks, left_words, change_outcome, put_of, delete_of}
use Rattle.words.specs.Passed.{Passed}
use Rattle.words.proofs.Parts.{part_cons, pad_length}
use Rattle.words.proofs.Blocks.{block_words_length, place_below, blocks_none, blocks_more, blocks_length}
use Rattle.words.proofs.Top.{marks_long}
use Rattle.words.proofs.Stacking.{Room, room_fits, counts_length}
use Rattle.words.proofs.Reason.{reason_passed, blocks_geometry}
use Rattle.words.proofs.Steps.{put_of_lem, delete_of_lem}

-- "1. Twelve words: B, w, d, G, h, P, live (number of keys in the map), hand (place last written), c (records in level 0), then the block counts
-- of levels 1, 2, 3 (zero above h)."
unfoldable pub header_words : Geometry → Store → List ℕ
header_words g s =
    g.b ∷ g.w ∷ g.d ∷ g.g ∷ g.h ∷ g.p ∷ s.live ∷ s.cursor ∷ length s.top
    ∷ pad 3 (map (λ (l : Level). length l) s.levels)

-- "2. Level 0: K(0) mark words, K(0)×B keys, K(0)×B payloads." "Unused slots, bits and list entries are 0."
unfoldable pub top_words : Geometry → List Rec → List ℕ
top_words g rs =
    pad (capacity_of g 0) (map (λ (b : Block). mark_word b.recs) (pages g.b rs))
    ++ (pad (top_capacity_of g) (keys_of rs) ++ pad (top_capacity_of g) (pays_of rs))

-- "3. For each level 1 to h, K(i) place numbers in key order.", of the levels from i on
unfoldable pub list_words : Geometry → ℕ → List Level → List ℕ
list_words g i [] = []
list_words g i (l ∷ ls) = pad (capacity_of g i) (map place_of l) ++ list_words g (suc i) ls

-- "4. P places of 2 + 2B words each": the words of all places; "Free places keep old words."
abbrev pub area_of : Geometry → List ℕ → List ℕ
area_of g ws = drop (old g).places ws

-- a block written at its place fills all 2 + 2B words
unfoldable pub write_block : Geometry → List ℕ → Block → List ℕ
write_block g area b = take (place_of b * block_width g) area ++ (block_words g b.recs ++ drop (suc (place_of b) * block_width g) area)

unfoldable pub write_blocks : Geometry → List ℕ → List Block → List ℕ
write_blocks g area bs = foldl (write_block g) area bs

-- the words of a store over the words of its places
unfoldable pub store_words : Geometry → Store → List ℕ → List ℕ
store_words g s area = header_words g s ++ (top_words g s.top ++ (list_words g 1 s.levels ++ area))

-- A store. "For each level 1 to h, K(i) place numbers": the lists lie one behind the other, in every form.
lists_joined : (z : Layout) (ls : List Level) (i : ℕ) → 1 ≤ i → Room z.geo i ls → Joined (list_start z i) (list_pieces z i ls) (list_start z (i + length ls))
unfolding list_pieces
lists_joined z [] i o r = ap (list_start z) (sym (add-zero i))
lists_joined z (l ∷ ls) i o r =
    let K = capacity_of z.geo i in
    let a : list_start z (suc i) ≡ list_start z i + length (pad K (map place_of l)) = omega (arith, list_next z i o, pad_length K (map place_of l) (rw length-map r.0)) in
    let e : i + suc (length ls) ≡ suc i + length ls = omega arith in
    (refl, rw e (subst (λ (n : ℕ). Joined n (list_pieces z (suc i) ls) (list_start z (suc i + length ls))) a (lists_joined z ls (suc i) (omega arith) r.1)))

-- the words of level 0 and of the lists
top_row : (g : Geometry) (rs : List Rec) → row_of (top_pieces (old g) rs) ≡ top_words g rs
unfolding old top_words
top_row g rs = rw append-nil

lists_row : (g : Geometry) (ls : List Level) (i : ℕ) → row_of (list_pieces (old g) i ls) ≡ list_words g i ls
unfolding old list_pieces list_words
lists_row g [] i = refl
lists_row g (l ∷ ls) i = ap (λ (xs : List ℕ). pad (capacity_of g i) (map place_of l) ++ xs) (lists_row g ls (suc i))

-- In the old form there is no gap between live and the places.
pieces_joined : (g : Geometry) (s : Store) → Valid g → Fits g s → Joined 6 (pieces (old g) s) (old g).places
unfolding old pieces top_capacity_of
pieces_joined g s v f =
    let T = top_capacity_of g in
    let c = counts_length s (omega (arith, f.level_count, v.ranged.h_high)) in
    let m = marks_long g.b (capacity_of g 0) s.top (omega (arith, v.ranged.b_low)) f.top_fits in
    let k = pad_length T (keys_of s.top) (rw length-map f.top_fits) in
    let p = pad_length T (pays_of s.top) (rw length-map f.top_fits) in
    let L = list_pieces (old g) 1 s.levels in
    let a : list_start (old g) 1 ≡ (old g).pays + length (pad T (pays_of s.top)) = omega (arith, lists_first (old g), p) in
    let n : 1 + length s.levels ≡ suc g.h = omega (arith, f.level_count) in
    let l = subst (Joined (list_start (old g) 1) L) (ap (list_start (old g)) n ∙ lists_end g) (lists_joined (old g) s.levels 1 (omega arith) (room_fits g s f)) in
    (refl, (refl, (refl, (refl, (omega (arith, c), (omega (arith, m), (omega (arith, k), subst (λ (i : ℕ). Joined i L (old g).places) a l)))))))

-- the six words of the geometry
six_words : (ws : List ℕ) → 6 ≤ length ws → take 6 ws ≡ six_of (geometry_from ws 0)
unfolding part
six_words ws h =
    part_cons ws 0 5 (omega arith)
    ∙ rw (part_cons ws 1 4 (omega arith), part_cons ws 2 3 (omega arith), part_cons ws 3 2 (omega arith), part_cons ws 4 1 (omega arith), part_cons ws 5 0 (omega arith))

-- the words of the pieces behind them are all words before the places
pieces_row : (g : Geometry) (s : Store) → six_of g ++ row_of (pieces (old g) s) ≡ header_words g s ++ (top_words g s.top ++ list_words g 1 s.levels)
unfolding old pieces header_words top_words
pieces_row g s = ap (λ (xs : List ℕ). header_words g s ++ xs) (row_append (top_pieces (old g) s.top) (list_pieces (old g) 1 s.levels) ∙ rw (top_row g s.top, lists_row g s.levels 1))

pub store_row : (g : Geometry) (s : Store) (ws : List ℕ) → Valid g → Fits g s → length ws ≡ (old g).length → geometry_from ws 0 ≡ g → with_store (old g) s ws ≡ store_words g s (area_of g ws)
unfolding with_store store_words
store_row g s ws v f l e =
    lay_joined (pieces (old g) s) 6 (old g).places ws (pieces_joined g s v f) (omega (arith, places_before (old g) (old_proper g v)))
    ∙ ap (λ (xs : List ℕ). xs ++ (row_of (pieces (old g) s) ++ area_of g ws)) (six_words ws (omega (arith, store_length_low g v)) ∙ ap six_of e)
    ∙ sym (append_assoc (six_of g) (row_of (pieces (old g) s)) (area_of g ws)) ∙ ap (λ (xs : List ℕ). xs ++ area_of g ws) (pieces_row g s)
    ∙ append_assoc (header_words g s) (top_words g s.top ++ list_words g 1 s.levels) (area_of g ws)
    ∙ ap (λ (xs : List ℕ). header_words g s ++ xs) (append_assoc (top_words g s.top) (list_words g 1 s.levels) (area_of g ws))

-- Blocks. One that is written changes the words of all places as `write_block` says, and no word before them; in every form.
block_laid : (z : Layout) (b : Block) (ws : List ℕ) → Proper z → BlockFits z.geo b → length ws ≡ z.length → lay (block_piece z b) ws ≡ take z.places ws ++ write_block z.geo (drop z.places ws) b
unfolding put_at block_piece place_start write_block
block_laid z b ws k f l =
    let P = z.places in
    let W = block_width z.geo in
    let q = place_of b in
    let xs = block_words z.geo b.recs in
    let n : length xs ≡ W = block_words_length z.geo b.recs f.fits in
    let i : P + q * W + W ≤ z.length = place_inside z k (place_below b f) in
    let e : P + q * W + length xs ≡ P + suc q * W = omega (arith, n) in
    sym (put_lay (P + q * W) xs ws (omega (arith, n)))
    ∙ rw (e, ← drop-drop (suc q * W) P ws, take-add P (q * W) ws) (append_assoc (take P ws) (take (q * W) (drop P ws)) (xs ++ drop (suc q * W) (drop P ws)))

blocks_laid : (z : Layout) (bs : List Block) (ws : List ℕ) → Proper z → Every (BlockFits z.geo) bs → length ws ≡ z.length → with_blocks z bs ws ≡ take z.places ws ++ write_blocks z.geo (drop z.places ws) bs
unfolding write_blocks
blocks_laid z [] ws k f l = blocks_none z ws ∙ sym (take-append-drop z.places ws)
blocks_laid z (b ∷ bs) ws k f l =
    let P = z.places in
    let n : length (take P ws) ≡ P = length-take-le P ws (omega (arith, places_before z k)) in
    let us = write_block z.geo (drop P ws) b in
    blocks_more z b bs ws ∙ blocks_laid z bs (lay (block_piece z b) ws) k f.1 (lay_length (block_piece z b) ws ∙ l)
    ∙ rw (block_laid z b ws k f.0 l, take_at (take P ws) us P n, drop_at (take P ws) us P n)

pub blocks_row : (g : Geometry) (bs : List Block) (ws : List ℕ) → Valid g → Every (BlockFits g) bs → length ws ≡ (old g).length → with_blocks (old g) bs ws ≡ take (old g).places ws ++ write_blocks g (area_of g ws) bs
unfolding old
blocks_row g bs ws v f l = blocks_laid (old g) bs ws (old_proper g v) f l

-- What format leaves: B, w, d, G, h, P, live = 0, hand = P − 1, and zeros.
abbrev eight_more : ℕ → ℕ
eight_more m = suc (suc (suc (suc (suc (suc (suc (suc m)))))))

pub format_row : (g : Geometry) → Valid g → format_words (old g) ≡ g.b ∷ g.w ∷ g.d ∷ g.g ∷ g.h ∷ g.p ∷ 0 ∷ (g.p - 1) ∷ replicate ((old g).length - 8) 0
unfolding old format_words lay_all lay
format_row g v =
    let n = (old g).length in
    let e : eight_more (n - 8) ≡ n = omega (arith, store_length_low g v) in
    subst (λ (m : ℕ). lay_all (piece 0 (six_of g) ∷ piece 7 ((g.p - 1) ∷ []) ∷ []) (replicate m 0) ≡ six_of g ++ (0 ∷ (g.p - 1) ∷ replicate (n - 8) 0)) e (laid (n - 8))
  where
    laid : (m : ℕ) → lay_all (piece 0 (six_of g) ∷ piece 7 ((g.p - 1) ∷ []) ∷ []) (replicate (eight_more m) 0) ≡ six_of g ++ (0 ∷ (g.p - 1) ∷ replicate m 0)
    laid m = refl

-- What a put or delete leaves. The blocks that its merges write have places and fit them.
module _ (g : Geometry) (s : Store) where
  compacted_fit : (cs : List Compaction) → Every (CompactionFacts g s) cs → Every (BlockFits g) (compacted_blocks cs)
  compacted_fit [] f = tt
  compacted_fit (c ∷ cs) f = every_append (BlockFits g) c.written (compacted_blocks cs) f.0.written_fit (compacted_fit cs f.1)

  written_fit : (ms : List Merge) → Every (MergeFacts g s) ms → Every (BlockFits g) (written_blocks ms)
  written_fit [] f = tt
  written_fit (m ∷ ms) f =
      every_append (BlockFits g) m.written (compacted_blocks m.compactions ++ written_blocks ms) f.0.written_fit
      (every_append (BlockFits g) (compacted_blocks m.compactions) (written_blocks ms) (compacted_fit m.compactions f.0.five.facts) (written_fit ms f.1))

left_row : (ws : List ℕ) (r : Rec) (was : Bool) (live : ℕ) (ms : List Merge) (t : Store) → Passed (layout_at ws) ws → EnterFacts (geometry_at ws) (store_at (layout_at ws) ws) r was live ms t
    → left_words (layout_at ws) ws ms t ≡ store_words (geometry_at ws) t (write_blocks (geometry_at ws) (area_of (geometry_at ws) ws) (written_blocks ms))
unfolding layout_at old left_words
left_row ws r was live ms t p f =
    let g = geometry_at ws in
    let s = store_at (layout_at ws) ws in
    let bs = written_blocks ms in
    let us = with_blocks (old g) bs ws in
    let v = p.proper.valid in
    let a = subst (λ (x : List Merge). Every (MergeFacts g s) x) (sym f.merges) (call_facts g s v p.fits p.sound r.key).facts in
    let n : length (take (old g).places ws) ≡ (old g).places = length-take-le (old g).places ws (omega (arith, p.long, places_before (old g) p.proper)) in
    store_row g t us v f.fits (blocks_length (old g) bs ws ∙ p.long) (blocks_geometry ws bs p.proper p.long)
    ∙ ap (λ (x : List ℕ). store_words g t (area_of g x)) (blocks_row g bs ws v (written_fit g s ms a) p.long)
    ∙ ap (store_words g t) (drop_at (take (old g).places ws) (write_blocks g (area_of g ws) bs) (old g).places n)

pub put_row : (ws : List ℕ) (k v : ℕ) (was : Bool) (ms : List Merge) (t : Store) → reason_of ws ≡ 0 → put (geometry_at ws) (store_at (layout_at ws) ws) k v ≡ entered was ms t
    → (put_of ws k v).words ≡ store_words (geometry_at ws) t (write_blocks (geometry_at ws) (area_of (geometry_at ws) ws) (written_blocks ms))
unfolding layout_at old change_outcome
put_row ws k v was ms t e q =
    let p = reason_passed ws e in
    ap (λ (x : Outcome ChangeAnswer). x.words) (put_of_lem ws k v e ∙ ap (change_outcome (layout_at ws) ws) q)
    ∙ left_row ws _ was _ ms t p (put_facts (geometry_at ws) (store_at (layout_at ws) ws) p.proper.valid p.fits p.sound k v was ms t q)

pub delete_row : (ws : List ℕ) (k : ℕ) (was : Bool) (ms : List Merge) (t : Store) → reason_of ws ≡ 0 → delete (geometry_at ws) (store_at (layout_at ws) ws) k ≡ entered was ms t
    → (delete_of ws k).words ≡ store_words (geometry_at ws) t (write_blocks (geometry_at ws) (area_of (geometry_at ws) ws) (written_blocks ms))
unfolding layout_at old change_outcome
delete_row ws k was ms t e q =
    let p = reason_passed ws e in
    ap (λ (x : Outcome ChangeAnswer). x.words) (delete_of_lem ws k e ∙ ap (change_outcome (layout_at ws) ws) q)
    ∙ left_row ws _ was _ ms t p (delete_facts (geometry_at ws) (store_at (layout_at ws) ws) p.proper.valid p.fits p.sound k was ms t q).1
