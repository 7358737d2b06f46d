-- What is left of a side after a record or a block of it.
use Prim.Native.Nat.{ℕ, zero, suc, ◌+◌, ◌-◌, ◌≤◌, ◌<◌}
use mathlib.Core.Path.{◌≡◌, ◌∙◌, refl}
use mathlib.Core.Bool.{Bool}
use mathlib.Core.List.{List, [], ◌∷◌, tail}
use native.Mathlib.Numerals.{add-one}
use native.Mathlib.Omega.{arith}
use Rattle.levels.specs.Record.{Level, new}
use Rattle.levels.specs.Merge.{flush, rest}
use Rattle.blocks.specs.declared.Offsets.{Offsets}
use Rattle.sides.specs.declared.Chunk.{Chunk}
use Rattle.sides.specs.Sides.{chunk_of}
use Rattle.merging.proofs.Blocks.{recs_from, block_of, blocks, begun, begin_with, side}
use Rattle.merging.proofs.Heads.{recs_drop}

pub begin_zero : (l : Level) → begin_with 0 l ≡ l
begin_zero [] = refl
begin_zero (b ∷ bs) = refl

pub side_cons : (z : Offsets) (pages : Bool) (ws list : List ℕ) (i j end : ℕ) → i < end → side z pages ws list i j end ≡ begun j (block_of ws (chunk_of z pages ws list i)) ∷ side z pages ws list (i + 1) 0 end
unfolding side blocks
side_cons z pages ws list i j end h =
    let e : end - i ≡ suc (end - (i + 1)) = omega arith in
    rw (e, begin_zero, add-one i)

pub side_none : (z : Offsets) (pages : Bool) (ws list : List ℕ) (i j end : ℕ) → end ≤ i → side z pages ws list i j end ≡ []
unfolding side blocks
side_none z pages ws list i j end h = let e : end - i ≡ 0 = omega arith in rw e

begun_recs : (ws : List ℕ) (c : Chunk) (j : ℕ) → (begun j (block_of ws c)).recs ≡ recs_from ws c j (c.n - j)
begun_recs ws c zero = let e : c.n - 0 ≡ c.n = omega arith in rw e
begun_recs ws c (suc j) = recs_drop ws c 0 (suc j) c.n ∙ (let e : 0 + suc j ≡ suc j = omega arith in rw e)

-- a record further on in a block
pub rest_more : (ws : List ℕ) (c : Chunk) (j : ℕ) (bs : Level) → suc j < c.n → rest (begun j (block_of ws c) ∷ bs) ≡ begun (suc j) (block_of ws c) ∷ bs
unfolding recs_from
rest_more ws c j bs h = rw (begun_recs ws c j, recs_drop ws c 0 (suc j) c.n) (go (c.n - j) (c.n - suc j) (omega arith) (omega arith))
  where
    go : (n m : ℕ) → n ≡ suc m → 1 ≤ m → flush (tail (recs_from ws c j n)) bs ≡ new (recs_from ws c (0 + suc j) m) ∷ bs
    go n zero e l = absurd (omega arith)
    go n (suc m) e l = let w : 0 + suc j ≡ suc j = omega arith in rw (e, w)

-- past the last record of a block
pub rest_last : (ws : List ℕ) (c : Chunk) (j : ℕ) (bs : Level) → suc j ≡ c.n → rest (begun j (block_of ws c) ∷ bs) ≡ bs
unfolding recs_from
rest_last ws c j bs h = let e : c.n - j ≡ 1 = omega arith in rw (begun_recs ws c j, e)
