-- A level while it is counted: a word for each chunk says which of its records show no longer.
use Rattle.std.specs.Prelude.{ℕ, zero, suc, ◌+◌, ◌-◌, ◌*◌, ◌/◌, ◌≤◌, ◌<◌, ◌≡◌, Bool, true, false, List, [], ◌∷◌, ◌++◌, leb, length, get_or, fold, All}
use Rattle.std.specs.List.{list_all}
use Rattle.slices.specs.Ranks.{among}
use Rattle.levels.specs.Record.{Rec}
use Rattle.levels.specs.Rising.{Rising}
use Rattle.words.specs.Stores.{word, bit, slots_at, keys_of}
use Rattle.chunks.specs.declared.Chunk.{Chunk}
use Rattle.chunks.specs.Chunks.{chunk_recs}
use Rattle.directory.specs.declared.Directory.{Directory}
use Rattle.directory.specs.Directory.{records_of, chunk_at}
use Rattle.search.specs.Search.{first_at, Sought}
use Rattle.shares.specs.Shares.{hide}
use Rattle.shares.specs.declared.Seats.{Seats}

-- a number where something holds, else 0
abbrev pub bit_if : Bool → ℕ → ℕ
bit_if true b = b
bit_if false b = 0

-- for each of some keys, whether it is one of the others
unfoldable pub known_in : List ℕ → List ℕ → List Bool
known_in xs [] = []
known_in xs (k ∷ ks) = among k xs ∷ known_in xs ks

-- the number with these bits, the first one lowest
unfoldable pub number : List Bool → ℕ
number [] = 0
number (b ∷ bs) = bit b + 2 * number bs

-- The records of the n chunks from chunk i on, as the words `gone` show them: bit k + 1 of a chunk's word is set if its record k
-- shows no longer. (One bit up, so that sixteen comparisons have sixteen shifts: the compiler makes vectors of them then.)
unfoldable pub shadow_from : List ℕ → Directory → List ℕ → ℕ → ℕ → List Rec
shadow_from ws d gone i zero = []
shadow_from ws d gone i (suc n) =
    slots_at ws (get_or gone i 0 / 2) (chunk_at ws d i).keys (chunk_at ws d i).pays (chunk_at ws d i).count ++ shadow_from ws d gone (suc i) n

-- all records of a level, so
abbrev pub shadow : List ℕ → Directory → List ℕ → List Rec
shadow ws d gone = shadow_from ws d gone 0 d.chunks

-- the keys of a level
abbrev pub keys_in : List ℕ → Directory → List ℕ
keys_in ws d = keys_of (records_of ws d)

-- Words that say where the keys of each chunk of a level start.
pub record Started (ws : List ℕ) (d : Directory) (starts : List ℕ) : Type 0 where
  pub room : d.chunks ≤ length starts
  pub start : (i : ℕ) → i < d.chunks → get_or starts i 0 ≡ (chunk_at ws d i).keys

-- records under the keys of levels above them, the upper ones first
abbrev pub hide_all : List ℕ → List Directory → List Rec → List Rec
hide_all ws above rs = fold (λ (hidden : List Rec) (up : Directory). hide (keys_in ws up) hidden) rs above

-- levels of at most n chunks each
abbrev pub Within : List Directory → ℕ → Type 0
Within l n = All (λ (d : Directory). d.chunks ≤ n) l

-- the same as a test
abbrev pub is_within : List Directory → ℕ → Bool
is_within l n = list_all (λ (d : Directory). leb d.chunks n) l

-- A chunk of `width` slots whose keys are looked for in a level: its words are there, and its keys rise.
pub record Asked (ws : List ℕ) (c : Chunk) (width : ℕ) : Type 0 where
  pub some : 1 ≤ c.count
  pub most : c.count ≤ width
  pub width_high : width ≤ 16
  pub room : c.keys + width ≤ length ws
  pub rises : Rising 0 (chunk_recs ws c)

-- The search for a chunk's keys can go on at chunk `from` of a level: no key is in a chunk before it.
pub record Begun (ws : List ℕ) (d : Directory) (from : ℕ) (c : Chunk) : Type 0 where
  pub inside : from < d.chunks
  pub starts : 1 ≤ from → first_at ws d from ≤ word ws c.keys

-- And ended: the last of its keys is not before chunk `end`.
pub record Ended (ws : List ℕ) (d : Directory) (end : ℕ) (c : Chunk) : Type 0 where
  pub inside : end < d.chunks
  pub starts : 1 ≤ end → first_at ws d end ≤ word ws (c.keys + (c.count - 1))

-- Sixteen keys among the first keys of a level's chunks, from chunk `from` to chunk `end`: `above` says for each key how many of these
-- first keys are above it, and so which chunk can have it. Only for keys that are not before chunk `from` and not above `last`.
pub record Seated (ws : List ℕ) (d : Directory) (keys : List ℕ) (last from : ℕ) (r : Seats) : Type 0 where
  pub inside : r.end < d.chunks
  pub starts : 1 ≤ r.end → (1 ≤ from → first_at ws d from ≤ last) → first_at ws d r.end ≤ last
  pub within : (l : ℕ) → l < 16 → get_or r.above l 0 ≤ r.end
  pub seat : (l : ℕ) → l < 16 → (1 ≤ from → first_at ws d from ≤ get_or keys l 0) → get_or keys l 0 ≤ last → Sought ws d (get_or keys l 0) (r.end - get_or r.above l 0)

-- each record of a chunk has its seat: the chunk of a level that can have its key
pub record ChunkSeated (ws : List ℕ) (d : Directory) (c : Chunk) (r : Seats) : Type 0 where
  pub ended : Ended ws d r.end c
  pub seat : (l : ℕ) → l < c.count → (get_or r.above l 0 ≤ r.end) × Sought ws d (word ws (c.keys + l)) (r.end - get_or r.above l 0)
