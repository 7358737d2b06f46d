-- The blocks that words hold, and what laying a level's blocks leaves on flash.
use Prim.Native.Nat.{ℕ, zero, suc, ◌+◌, ◌-◌, ◌/◌, ◌%◌, ◌^◌}
use mathlib.Core.Bool.{Bool, true}
use mathlib.Core.List.{List, [], ◌∷◌, ◌++◌}
use mathlib.Core.Option.{Option, none, some}
use Rattle.std.specs.Prelude.{None, Some}
use lib.Dec.{eqb}
use lib.ListN.{get_or, set, drop}
use Rattle.levels.specs.Record.{Rec, Block, Level, new}
use Rattle.blocks.specs.declared.Offsets.{Offsets}
use Rattle.blocks.specs.Blocks.{start_of, next_mark, buffer_of, written}
use Rattle.sides.specs.declared.Chunk.{Chunk}
use Rattle.sides.specs.Sides.{block_chunk, chunk_of}

-- record j of a chunk
abbrev pub rec_at : List ℕ → Chunk → ℕ → Rec
rec_at ws c j = record { key = get_or ws (c.keys + j) 0; tombstone = eqb (get_or ws c.marks 0 / 2 ^ j % 2) 1; pay = get_or ws (c.pays + j) 0 }

-- n records from record j on: by index, so that two stores that agree on a chunk's words agree on its records by one induction
unfoldable pub recs_from : List ℕ → Chunk → ℕ → ℕ → List Rec
recs_from ws c j zero = []
recs_from ws c j (suc n) = rec_at ws c j ∷ recs_from ws c (suc j) n

-- the place of a chunk: a page of level 0 has none
abbrev pub chunk_place : Chunk → Option ℕ
chunk_place c = elim c.place [ Some q ↦ some q | None ↦ none ]

-- the block of a chunk
abbrev pub block_of : List ℕ → Chunk → Block
block_of ws c = record { place = chunk_place c; recs = recs_from ws c 0 c.n }

-- the block at place q, and its count
abbrev pub stored_at : Offsets → List ℕ → ℕ → Block
stored_at z ws q = block_of ws (block_chunk z ws q)

abbrev pub count_at : Offsets → List ℕ → ℕ → ℕ
count_at z ws q = get_or ws (start_of z q) 0

-- n blocks of a side, from chunk i on
unfoldable pub blocks : Offsets → Bool → List ℕ → List ℕ → ℕ → ℕ → Level
blocks z pages ws list i zero = []
blocks z pages ws list i (suc n) = block_of ws (chunk_of z pages ws list i) ∷ blocks z pages ws list (suc i) n

-- a block without its first j records; a block that has been begun has no place
abbrev pub begun : ℕ → Block → Block
begun zero b = b
begun (suc j) b = new (drop (suc j) b.recs)

abbrev pub begin_with : ℕ → Level → Level
begin_with j [] = []
begin_with j (b ∷ bs) = begun j b ∷ bs

-- what is left of a side: chunks i to end, the first without j records
unfoldable pub side : Offsets → Bool → List ℕ → List ℕ → ℕ → ℕ → ℕ → Level
side z pages ws list i j end = begin_with j (blocks z pages ws list i (end - i))

-- the words, the marks of places in use, the cursor, the number of blocks written, and the places of the level laid so far
pub record Flash : Type 0 where
  pub words : List ℕ
  pub used : List Bool
  pub cursor : ℕ
  pub writes : ℕ
  pub list : List ℕ

-- a new block is written at place q
abbrev pub lay_at : Offsets → Flash → List Rec → ℕ → Flash
lay_at z d rs q =
    record { words = written z d.words q (buffer_of rs); used = set d.used q true; cursor = q; writes = d.writes + 1; list = d.list ++ (q ∷ []) }

-- a block that has a place stays there; a new one takes the first free place after the cursor
unfoldable pub lay : Offsets → Flash → Block → Flash
lay z d b = elim b.place [
  | some q ↦ record { words = d.words; used = d.used; cursor = d.cursor; writes = d.writes; list = d.list ++ (q ∷ []) }
  | none ↦ lay_at z d b.recs (next_mark z.p d.used d.cursor)
]

-- the blocks of a level, in key order
unfoldable pub lay_all : Offsets → Flash → Level → Flash
lay_all z d [] = d
lay_all z d (b ∷ bs) = lay_all z (lay z d b) bs

-- the same of blocks kept last first
unfoldable pub lay_done : Offsets → Flash → Level → Flash
lay_done z d [] = d
lay_done z d (b ∷ bs) = lay z (lay_done z d bs) b
