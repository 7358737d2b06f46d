-- A compaction as a machine over the words, the marks, the new list and a few numbers; and what it asks of the store.
use Rattle.std.specs.Prelude.{ℕ, zero, suc, ◌+◌, ◌≤◌, ◌<◌, ◌≡◌, Bool, false, List, length, get_or}
use Rattle.geometry.specs.Room.{places_most}
use Rattle.words.specs.Stores.{record_count}
use Rattle.blocks.specs.declared.Offsets.{Offsets}
use Rattle.blocks.specs.Blocks.{Sized, start_of}
use Rattle.sides.specs.declared.Chunk.{Chunk}
use Rattle.sides.specs.Sides.{block_chunk, head_at}
use Rattle.stream.specs.Machine.{Memory, Flushable, Gatherable, gathered}
use Rattle.merging.specs.Contract.{count_marks, ListedBlock}
use Rattle.layout.specs.Layouts.{Proper}
use Rattle.layout.specs.declared.Layout.{Layout}

-- the first j records of a chunk are gathered: each is read when its turn comes
unfoldable pub records_gathered : Offsets → Chunk → ℕ → Memory → Memory
records_gathered z c zero a = a
records_gathered z c (suc j) a = let b = records_gathered z c j a in gathered z false b (head_at b.words c j)

-- all records of the block at place q
abbrev pub chunk_gathered : Offsets → ℕ → Memory → Memory
chunk_gathered z q a = records_gathered z (block_chunk z a.words q) (get_or a.words (start_of z q) 0) a

-- those of the first i listed blocks
unfoldable pub blocks_gathered : Offsets → List ℕ → ℕ → Memory → Memory
blocks_gathered z list zero a = a
blocks_gathered z list (suc i) a = chunk_gathered z (get_or list i 0) (blocks_gathered z list i a)

-- a record can be put into the buffer, and the buffer written
pub record Roomy (z : Offsets) (a : Memory) : Type 0 where
  pub flushable : Flushable z a.words a.used a.st
  pub gatherable : Gatherable z a.st

-- the records of the block at place q can be gathered
pub record Gathering (z : Offsets) (q : ℕ) (a : Memory) : Type 0 where
  pub sized : Sized z a.words
  pub place : q < z.p
  pub high : get_or a.words (start_of z q) 0 ≤ z.b
  pub steps : (j : ℕ) → j < get_or a.words (start_of z q) 0 → Roomy z (records_gathered z (block_chunk z a.words q) j a)

-- what a compaction asks: a legal store, marks of their full length, listed blocks, and a free place for each of them and one more
pub record Compactable (z : Layout) (ws : List ℕ) (used : List Bool) (list : List ℕ) (cursor : ℕ) : Type 0 where
  pub proper : Proper z
  pub words : length ws ≡ z.length
  pub marks_long : length used ≡ places_most
  pub cursor_low : cursor < z.geo.p
  pub few : length list ≤ 2048
  pub blocks : (i : ℕ) → i < length list → ListedBlock z ws used (get_or list i 0)
  pub free : count_marks z.geo.p used + length list < z.geo.p

-- the records of the first n listed blocks
unfoldable pub record_sum : Offsets → List ℕ → List ℕ → ℕ → ℕ
record_sum z ws list zero = 0
record_sum z ws list (suc i) = record_sum z ws list i + get_or ws (start_of z (get_or list i 0)) 0

-- they can be counted
pub record Summable (z : Offsets) (ws list : List ℕ) : Type 0 where
  pub sized : Sized z ws
  pub few : length list ≤ 2048
  pub place : (i : ℕ) → i < length list → get_or list i 0 < z.p
  pub high : (i : ℕ) → i < length list → get_or ws (start_of z (get_or list i 0)) 0 ≤ z.b

-- what the level rule asks: a legal store, and listed blocks of at most B records
pub record Countable (z : Layout) (ws list : List ℕ) : Type 0 where
  pub proper : Proper z
  pub words : length ws ≡ z.length
  pub few : length list ≤ 2048
  pub place : (i : ℕ) → i < length list → get_or list i 0 < z.geo.p
  pub high : (i : ℕ) → i < length list → record_count z ws (get_or list i 0) ≤ z.geo.b
