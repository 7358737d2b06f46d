-- The blocks that the simulation reads are those that words' layout says.
use Prim.Native.Nat.{ℕ, zero, suc, ◌+◌, ◌/◌, ◌^◌, ◌≤◌, ◌<◌}
use mathlib.Core.Path.{◌≡◌, sym, ap, ◌∙◌, refl}
use mathlib.Core.Bool.{Bool, true, false}
use mathlib.Core.List.{List}
use mathlib.Core.Option.{some}
use native.Mathlib.Numerals.{add-one}
use native.Mathlib.Omega.{arith}
use lib.Pow.{shr-shr}
use lib.ListN.{length, get_or}
use lib.Seq.{drop-cons}
use Rattle.levels.specs.Basics.{each}
use Rattle.levels.specs.Record.{Rec, new}
use Rattle.words.specs.Stores.{slots_at, record_count, mark_word_at, block_slots, block_at}
use Rattle.blocks.specs.Blocks.{offsets_of}
use Rattle.blocks.proofs.Laws.{start_place}
use Rattle.sides.specs.declared.Chunk.{Chunk}
use Rattle.sides.specs.Sides.{block_chunk, page_chunk, chunk_of}
use Rattle.merging.proofs.Blocks.{recs_from, block_of, stored_at, blocks}
use Rattle.merging.specs.Contract.{page_at, blocks_of, run_of}
use Rattle.words.proofs.Slots.{slots_take}
use Rattle.layout.specs.Layouts.{place_start}
use Rattle.layout.specs.declared.Layout.{Layout}

halved : (m j : ℕ) → m / 2 ^ j / 2 ≡ m / 2 ^ suc j
halved m j = shr-shr m j 1 ∙ ap (λ (k : ℕ). m / 2 ^ k) (add-one j)

-- slots in a row are the records by index
slots_recs : (ws : List ℕ) (c : Chunk) (j n : ℕ) → slots_at ws (get_or ws c.marks 0 / 2 ^ j) (c.keys + j) (c.pays + j) n ≡ recs_from ws c j n
unfolding slots_at recs_from
slots_recs ws c j zero = refl
slots_recs ws c j (suc n) =
    let k : suc (c.keys + j) ≡ c.keys + suc j = omega arith in
    let v : suc (c.pays + j) ≡ c.pays + suc j = omega arith in
    rw (halved (get_or ws c.marks 0) j, k, v, slots_recs ws c (suc j) n)

pub chunk_slots : (ws : List ℕ) (c : Chunk) (n : ℕ) → slots_at ws (get_or ws c.marks 0) c.keys c.pays n ≡ recs_from ws c 0 n
chunk_slots ws c n =
    let m : get_or ws c.marks 0 / 2 ^ 0 ≡ get_or ws c.marks 0 = omega arith in
    let k : c.keys + 0 ≡ c.keys = omega arith in
    let v : c.pays + 0 ≡ c.pays = omega arith in
    rw (m, k, v) at (slots_recs ws c 0 n)

-- the block at a place
pub stored_block : (z : Layout) (ws : List ℕ) (q : ℕ) → record_count z ws q ≤ z.geo.b → stored_at (offsets_of z) ws q ≡ block_at z ws q
unfolding block_at block_slots
stored_block z ws q h =
    let e = start_place z q in
    let c = chunk_slots ws (block_chunk (offsets_of z) ws q) (record_count z ws q) in
    rw (e, slots_take ws (mark_word_at z ws q) (place_start z q + 2) (place_start z q + 2 + z.geo.b) (record_count z ws q) z.geo.b h) (ap (λ (rs : List Rec). record { place = some q; recs = rs }) (sym (rw e at c)))

-- a page of level 0
pub page_block : (z : Layout) (ws : List ℕ) (i : ℕ) → block_of ws (page_chunk (offsets_of z) i) ≡ page_at z ws i
page_block z ws i = ap new (sym (chunk_slots ws (page_chunk (offsets_of z) i) z.geo.b))

-- the blocks of a list
pub blocks_from : (z : Layout) (ws list : List ℕ) (i n : ℕ) → i + n ≤ length list → ((k : ℕ) → i ≤ k → k < i + n → record_count z ws (get_or list k 0) ≤ z.geo.b) → blocks (offsets_of z) false ws list i n ≡ blocks_of z ws list i n
unfolding blocks chunk_of
blocks_from z ws list i zero h f = refl
blocks_from z ws list i (suc n) h f =
    rw (drop-cons list i 0 (omega arith), stored_block z ws (get_or list i 0) (f i (omega arith) (omega arith)), blocks_from z ws list (suc i) n (omega arith) (λ k l m. f k (omega arith) (omega arith)))

pub blocks_listed : (z : Layout) (ws list : List ℕ) (i n : ℕ) → i + n ≤ length list → ((k : ℕ) → k < i + n → record_count z ws (get_or list k 0) ≤ z.geo.b) → blocks (offsets_of z) false ws list i n ≡ blocks_of z ws list i n
blocks_listed z ws list i n h f = blocks_from z ws list i n h (λ k _. f k)

-- pages of level 0
pub blocks_paged : (z : Layout) (ws list : List ℕ) (i n : ℕ) → blocks (offsets_of z) true ws list i n ≡ each (page_at z ws) i n
unfolding blocks chunk_of
blocks_paged z ws list i zero = refl
blocks_paged z ws list i (suc n) = rw (page_block z ws i, blocks_paged z ws list (suc i) n)

pub blocks_run : (pages : Bool) (z : Layout) (ws list : List ℕ) (i n : ℕ) → (pages ≡ false → i + n ≤ length list) → (pages ≡ false → (k : ℕ) → i ≤ k → k < i + n → record_count z ws (get_or list k 0) ≤ z.geo.b)
    → blocks (offsets_of z) pages ws list i n ≡ run_of pages z ws list i n
blocks_run true z ws list i n h f = blocks_paged z ws list i n
blocks_run false z ws list i n h f = blocks_from z ws list i n (h refl) (f refl)
