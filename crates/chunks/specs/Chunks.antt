-- Chunks: records that stand in a row in the words of a store, and the code's passes over them.
use Rattle.std.specs.Prelude.{ℕ, zero, suc, ◌+◌, ◌/◌, ◌%◌, ◌≤◌, Bool, true, not, ◌&&◌, List, Option, Some, None, leb, eqb, length}
use Rattle.levels.specs.Basics.{if◌then◌otherwise◌}
use Rattle.levels.specs.Record.{Rec}
use Rattle.words.specs.Stores.{word, slots_at}
use Rattle.chunks.specs.declared.Chunk.{Chunk}

-- the records of a chunk
abbrev pub chunk_recs : List ℕ → Chunk → List Rec
chunk_recs ws c = slots_at ws c.marks c.keys c.pays c.count

-- a chunk's words are there
pub record Inside (c : Chunk) (ws : List ℕ) : Type 0 where
  pub keys_end : c.keys + c.count ≤ length ws
  pub pays_end : c.pays + c.count ≤ length ws

-- the n words from word i on are 0
unfoldable pub zeros_at : List ℕ → ℕ → ℕ → Bool
zeros_at ws i zero = true
zeros_at ws i (suc n) = eqb (word ws i) 0 && zeros_at ws (suc i) n

-- the code's pass over the n records with mark word m, keys from word k on and payloads from word v on; the law `rise_is` says what it finds
unfoldable pub rise_of : List ℕ → ℕ → ℕ → ℕ → ℕ → ℕ → Option ℕ
rise_of ws m k v zero low = if eqb m 0 then Some low otherwise None
rise_of ws m k v (suc n) low =
    if leb low (word ws k) && not (eqb (m % 2) 1 && not (eqb (word ws v) 0)) then rise_of ws (m / 2) (suc k) (suc v) n (suc (word ws k)) otherwise None

-- what the code's pass over the payloads and mark bits of those records finds: the payload of a tombstone is 0, and no bit is set past the count; `rise_clean` says how it and the keys make up `rise_of`
unfoldable pub clean_of : List ℕ → ℕ → ℕ → ℕ → Bool
clean_of ws m v zero = eqb m 0
clean_of ws m v (suc n) = not (eqb (m % 2) 1 && not (eqb (word ws v) 0)) && clean_of ws (m / 2) (suc v) n
