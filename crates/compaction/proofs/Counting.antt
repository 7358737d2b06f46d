-- The records of listed blocks, one block more, and how many they are.
use Prim.Native.Nat.{ℕ, zero, suc, ◌+◌, ◌*◌, ◌≤◌, ◌<◌}
use mathlib.Core.Path.{◌≡◌, ap, ◌∙◌}
use mathlib.Core.Bool.{false}
use mathlib.Core.List.{List, [], ◌∷◌, ◌++◌, map, append-nil}
use native.Mathlib.Numerals.{add-one}
use native.Mathlib.Nat.{mul-le-mul}
use native.Mathlib.Omega.{arith}
use lib.ListN.{length, get_or, length-append, length-map}
use lib.Seq.{take_all}
use Rattle.levels.specs.Record.{Rec, Block, records}
use Rattle.levels.specs.Waste.{wasteful, needs_compact}
use Rattle.levels.proofs.Levels.{records_append}
use Rattle.words.specs.Stores.{block_at, record_count}
use Rattle.blocks.specs.declared.Offsets.{Offsets}
use Rattle.blocks.specs.Blocks.{offsets_of, start_of}
use Rattle.blocks.proofs.Laws.{sized_of, start_place}
use Rattle.sides.specs.Sides.{block_chunk}
use Rattle.merging.proofs.Blocks.{recs_from, count_at, stored_at, blocks}
use Rattle.merging.proofs.Heads.{recs_length}
use Rattle.merging.proofs.Begin.{no_blocks, blocks_snoc}
use Rattle.merging.proofs.Decode.{blocks_listed}
use Rattle.compaction.specs.Machine.{record_sum, Summable, Countable}
use Rattle.layout.specs.declared.Layout.{Layout}

-- the records of the first i listed blocks
abbrev pub listed_records : Offsets → List ℕ → List ℕ → ℕ → List Rec
listed_records z ws list i = records (blocks z false ws list 0 i)

module _ (z : Offsets) (ws list : List ℕ) where
  pub no_records : listed_records z ws list 0 ≡ []
  no_records = ap records (no_blocks z ws list)

  -- one block more
  pub records_snoc : (i : ℕ) → listed_records z ws list (suc i) ≡ listed_records z ws list i ++ recs_from ws (block_chunk z ws (get_or list i 0)) 0 (count_at z ws (get_or list i 0))
  records_snoc i =
      let b : Block = stored_at z ws (get_or list i 0) in
      let e : blocks z false ws list 0 (suc i) ≡ blocks z false ws list 0 i ++ (b ∷ []) = (let w : 0 + i ≡ i = omega arith in rw w at (blocks_snoc z ws list 0 i)) in
      ap records e ∙ records_append (blocks z false ws list 0 i) (b ∷ []) ∙ ap (λ (rs : List Rec). listed_records z ws list i ++ rs) (append-nil b.recs)

  pub sum_records : (i : ℕ) → record_sum z ws list i ≡ length (listed_records z ws list i)
  unfolding record_sum
  sum_records zero = rw no_records
  sum_records (suc i) =
      let q = get_or list i 0 in
      rw (records_snoc i, length-append (listed_records z ws list i) (recs_from ws (block_chunk z ws q) 0 (count_at z ws q)), recs_length ws (block_chunk z ws q) 0 (count_at z ws q), sum_records i)

  pub sum_more : (i : ℕ) → record_sum z ws list i + get_or ws (start_of z (get_or list i 0)) 0 ≡ record_sum z ws list (i + 1)
  unfolding record_sum
  sum_more i = rw (add-one i)

  -- a block has at most B
  pub sum_high : (n : ℕ) → ((i : ℕ) → i < n → count_at z ws (get_or list i 0) ≤ z.b) → record_sum z ws list n ≤ n * z.b
  unfolding record_sum
  sum_high zero f = omega arith
  sum_high (suc n) f = omega (arith, sum_high n (λ i h. f i (omega arith)), f n (omega arith))

-- the blocks that the machine reads are the store's
pub all_blocks_lem : (z : Layout) (ws list : List ℕ) → ((i : ℕ) → i < length list → record_count z ws (get_or list i 0) ≤ z.geo.b) → blocks (offsets_of z) false ws list 0 (length list) ≡ map (block_at z ws) list
all_blocks_lem z ws list f = blocks_listed z ws list 0 (length list) (omega arith) (λ i h. f i (omega arith)) ∙ ap (map (block_at z ws)) (take_all (length list) list (omega arith))

-- each sum on the way is small: 2,048 blocks of at most 16 records
pub sum_low : (z : Offsets) (ws list : List ℕ) → Summable z ws list → (i : ℕ) → i < length list → record_sum z ws list i + get_or ws (start_of z (get_or list i 0)) 0 ≤ 32784
sum_low z ws list k i h =
    let few = k.few in
    let m : i ≤ 2048 = omega arith in
    omega (arith, sum_high z ws list i (λ j l. k.high j (omega arith)), mul-le-mul m k.sized.b_high, k.high i h)

module _ (z : Layout) (ws list : List ℕ) (k : Countable z ws list) where
  pub summable : Summable (offsets_of z) ws list
  summable = record { sized = sized_of z ws (record { proper = k.proper; words = k.words }); few = k.few; place = k.place; high = λ i h. rw (start_place z (get_or list i 0)) (k.high i h) }

  -- the level rule, of the blocks' number and that of their records
  pub needs_is : wasteful z.geo.b (length list) (record_sum (offsets_of z) ws list (length list)) ≡ needs_compact z.geo.b (map (block_at z ws) list)
  needs_is = rw (length-map list (block_at z ws), sum_records (offsets_of z) ws list (length list), all_blocks_lem z ws list k.high)
