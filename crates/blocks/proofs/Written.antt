-- What writing a buffer at a place leaves, as levels' and words' definitions say it.
use Prim.Native.Nat.{ℕ, ◌+◌, ◌-◌, ◌*◌, ◌≤◌}
use mathlib.Core.Path.{◌≡◌, ap, ◌∙◌}
use mathlib.Core.List.{List, [], ◌∷◌, ◌++◌}
use native.Mathlib.Omega.{arith}
use lib.ListN.{length, set, take, replicate, length-append, length-map}
use lib.Seq.{length-take-le, take-append-add}
use Rattle.slices.specs.Slices.{put_at}
use Rattle.slices.proofs.Put.{set_put, put_more, put_join, put_sets}
use Rattle.levels.specs.Record.{Rec}
use Rattle.words.specs.Stores.{pad, keys_of, pays_of, block_words, block_piece}
use Rattle.layout.specs.declared.Layout.{Layout}
use Rattle.pieces.specs.Pieces.{lay}
use Rattle.levels.proofs.Lists.{take_replicate}
use Rattle.blocks.specs.declared.Offsets.{Offsets}
use Rattle.blocks.specs.declared.Buffer.{Buffer}
use Rattle.blocks.specs.Blocks.{Sized, offsets_of, start_of, buffer_of, written, with_block, WritesRecords}
use Rattle.blocks.proofs.Laws.{start_place}

-- the code's writes, one behind the other, are the words of the buffer put over those of the place
pub written_is : (z : Offsets) (xs : List ℕ) (q : ℕ) (buf : Buffer) → z.b ≤ length buf.keys → z.b ≤ length buf.pays → start_of z q + (2 + 2 * z.b) ≤ length xs
    → put_at (start_of z q + 2 + z.b) (take z.b buf.pays) (put_at (start_of z q + 2) (take z.b buf.keys) (set (set xs (start_of z q) buf.n) (start_of z q + 1) buf.marks)) ≡ written z xs q buf
unfolding written
written_is z xs q buf k v h =
    let at = start_of z q in
    let ks = take z.b buf.keys in
    let vs = take z.b buf.pays in
    let head : List ℕ = buf.n ∷ buf.marks ∷ [] in
    let kl : length ks ≡ z.b = length-take-le z.b buf.keys k in
    let vl : length vs ≡ z.b = length-take-le z.b buf.pays v in
    let a : set (set xs at buf.n) (at + 1) buf.marks ≡ put_at at head xs = rw (set_put at buf.n xs (omega arith)) (put_more at buf.marks (buf.n ∷ []) xs (omega arith)) in
    let n : at + length (head ++ ks) ≡ at + 2 + z.b = rw kl (omega arith) in
    let b : put_at (at + 2 + z.b) vs (put_at at (head ++ ks) xs) ≡ put_at at (head ++ ks ++ vs) xs = rw n at (put_join at (head ++ ks) vs xs (omega arith)) in
    rw (a, put_join at head ks xs (omega arith)) (b ∙ put_sets at (head ++ ks ++ vs) xs (rw (length-append, kl, vl) (omega arith)))

take_pad : (b : ℕ) (xs : List ℕ) → length xs ≤ b → b ≤ 16 → take b (pad 16 xs) ≡ pad b xs
take_pad b xs h l =
    let e : b ≡ length xs + (b - length xs) = omega arith in
    let f : 16 - length xs ≡ b - length xs + (16 - b) = omega arith in
    ap (λ (n : ℕ). take n (pad 16 xs)) e ∙ take-append-add xs (replicate (16 - length xs) 0) (b - length xs) ∙ ap (λ (ys : List ℕ). xs ++ ys) (ap (λ (m : ℕ). take (b - length xs) (replicate m 0)) f ∙ take_replicate (b - length xs) (16 - b) 0)

-- a buffer that holds rs writes a block of rs
pub written_block : (z : Layout) (xs : List ℕ) (q : ℕ) (rs : List Rec) → z.geo.b ≤ 16 → length rs ≤ z.geo.b → written (offsets_of z) xs q (buffer_of rs) ≡ with_block z xs q rs
unfolding written buffer_of lay block_piece block_words
written_block z xs q rs b h =
    rw (start_place z q, take_pad z.geo.b (keys_of rs) (rw length-map h) b, take_pad z.geo.b (pays_of rs) (rw length-map h) b)

pub written_records : (o : Offsets) (xs : List ℕ) (q : ℕ) (buf : Buffer) → Sized o xs → WritesRecords o xs q buf (written o xs q buf)
written_records o xs q buf s z e rs f h = rw (f, e) (written_block z xs q rs (rw e at s.b_high) h)
