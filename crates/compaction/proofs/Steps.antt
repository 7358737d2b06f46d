-- One step of the loops, as the machine makes it.
use Prim.Native.Nat.{ℕ, ◌+◌, ◌≤◌, ◌<◌}
use mathlib.Core.Path.{◌≡◌}
use mathlib.Core.Bool.{false}
use mathlib.Core.List.{List}
use native.Mathlib.Numerals.{add-one}
use native.Mathlib.Omega.{arith}
use lib.ListN.{length, get_or}
use Rattle.blocks.specs.declared.Offsets.{Offsets}
use Rattle.blocks.proofs.Laws.{ends}
use Rattle.sides.specs.declared.Chunk.{Chunk}
use Rattle.sides.specs.Sides.{block_chunk, head_at}
use Rattle.stream.specs.Machine.{Memory, gathered}
use Rattle.compaction.specs.Machine.{records_gathered, chunk_gathered, blocks_gathered, Roomy, Gathering}

pub records_more : (z : Offsets) (c : Chunk) (j : ℕ) (a b : Memory) → b ≡ records_gathered z c j a → gathered z false b (head_at b.words c j) ≡ records_gathered z c (j + 1) a
unfolding records_gathered
records_more z c j a b e = rw (add-one j, e)

pub blocks_more : (z : Offsets) (list : List ℕ) (i : ℕ) (a b : Memory) → b ≡ blocks_gathered z list i a → chunk_gathered z (get_or list i 0) b ≡ blocks_gathered z list (i + 1) a
unfolding blocks_gathered
blocks_more z list i a b e = rw (add-one i, e)

-- there is room in the memory of each step
pub roomy_in : (z : Offsets) (q : ℕ) (c : Chunk) (j : ℕ) (a b : Memory) → Gathering z q a → c ≡ block_chunk z a.words q → j < c.n → b ≡ records_gathered z c j a → Roomy z b
roomy_in z q c j a b k e h f = rw (f, e) (k.steps j (rw e at h))

-- record j of the block at place q can be read
pub head_inside : (z : Offsets) (q : ℕ) (a : Memory) (c : Chunk) (ys : List ℕ) (j : ℕ) → Gathering z q a → c ≡ block_chunk z a.words q → length ys ≡ length a.words → j < c.n
    → (c.marks < length ys) × (c.keys + c.n ≤ length ys) × (c.pays + c.n ≤ length ys) × (j < c.n) × (c.n ≤ 16)
head_inside z q a c ys j k e l h =
    let s = ends z a.words k.sized q k.place in
    let n = k.high in
    let b = k.sized.b_high in
    let h2 = rw e at h in
    rw e (omega arith, omega arith, omega arith, h2, omega arith)
