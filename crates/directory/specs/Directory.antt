-- Directories: the chunks of a level, its records, and the rules that it keeps.
use Rattle.std.specs.Prelude.{ℕ, zero, suc, ◌+◌, ◌-◌, ◌*◌, ◌≤◌, ◌<◌, ◌≡◌, Bool, true, false, not, ◌&&◌, ◌||◌, List, [], ◌++◌, Option, Some, None, ltb, leb, eqb, length}
use Rattle.levels.specs.Basics.{if◌then◌otherwise◌}
use Rattle.levels.specs.Record.{Rec}
use Rattle.levels.specs.Waste.{wasteful}
use Rattle.levels.specs.Rising.{Rising}
use Rattle.words.specs.Stores.{word}
use Rattle.chunks.specs.declared.Chunk.{Chunk}
use Rattle.chunks.specs.Chunks.{chunk_recs, zeros_at, rise_of}
use Rattle.directory.specs.declared.Directory.{Directory}

-- page i of level 0, with mark word m
abbrev pub page_of : ℕ → Directory → ℕ → Chunk
page_of m d i = record {
  marks = m;
  keys = d.base + i * d.width;
  pays = d.pays + i * d.width;
  count = if ltb (d.records - i * d.width) d.width then d.records - i * d.width otherwise d.width;
}

-- the block of `width` slots that starts at a word
abbrev pub block_of : List ℕ → ℕ → ℕ → Chunk
block_of ws width start = record { marks = word ws (start + 1); keys = start + 2; pays = start + 2 + width; count = word ws start }

-- where the block of list entry i starts
abbrev pub start_of : List ℕ → Directory → ℕ → ℕ
start_of ws d i = d.base + word ws (d.list + i) * (2 + 2 * d.width)

unfoldable pub chunk_at : List ℕ → Directory → ℕ → Chunk
chunk_at ws d i = if d.top then page_of (word ws (d.list + i)) d i otherwise block_of ws d.width (start_of ws d i)

-- the records of the n chunks from chunk i on
unfoldable pub records_from : List ℕ → Directory → ℕ → ℕ → List Rec
records_from ws d i zero = []
records_from ws d i (suc n) = chunk_recs ws (chunk_at ws d i) ++ records_from ws d (suc i) n

-- all records of a level
abbrev pub records_of : List ℕ → Directory → List Rec
records_of ws d = records_from ws d 0 d.chunks

-- The words that a directory names are there. Per index, so that a level of no chunks is within wherever its list would start.
-- No store, of any form, has more than 400,000 words (`words_most` of `layout`).
pub record Within (d : Directory) (ws : List ℕ) : Type 0 where
  pub width_low : 2 ≤ d.width
  pub width_high : d.width ≤ 16
  pub chunks_high : d.chunks ≤ 1024
  pub short : length ws ≤ 400000
  pub list : (i : ℕ) → i < d.chunks → d.list + i < length ws
  pub page_keys : d.top ≡ true → d.base + d.chunks * d.width ≤ length ws
  pub page_pays : d.top ≡ true → d.pays + d.chunks * d.width ≤ length ws
  pub page_records : d.top ≡ true → d.chunks * d.width < d.records + d.width
  pub blocks : d.top ≡ false → (i : ℕ) → i < d.chunks → start_of ws d i + (2 + 2 * d.width) ≤ length ws

-- the rules of one chunk after one of `before` records, but for the order of its keys
unfoldable pub kept_of : List ℕ → Directory → Chunk → ℕ → Bool
kept_of ws d c before =
    leb 1 c.count && (leb c.count d.width
    && (not (not d.top && leb (before + c.count) d.width)
    && (not (d.bottom && not (eqb c.marks 0))
    && (zeros_at ws (c.keys + c.count) (d.width - c.count) && zeros_at ws (c.pays + c.count) (d.width - c.count)))))

-- levels from 1 on keep the level rule
abbrev pub lean_level : Directory → ℕ → Bool
lean_level d total = d.top || not (wasteful d.width d.chunks total)

-- on with the pass where the keys rise
abbrev pub on_rise : Option ℕ → (ℕ → Bool) → Bool
on_rise (Some low) f = f low
on_rise None f = false

-- The code's pass over the n chunks from chunk i on: the least next key, the records of the chunk before, the records so far.
unfoldable pub pass_of : List ℕ → Directory → ℕ → ℕ → ℕ → ℕ → ℕ → Bool
pass_of ws d i zero low before total = lean_level d total
pass_of ws d i (suc n) low before total =
    kept_of ws d (chunk_at ws d i) before
    && on_rise (rise_of ws (chunk_at ws d i).marks (chunk_at ws d i).keys (chunk_at ws d i).pays (chunk_at ws d i).count low)
    (λ next. pass_of ws d (suc i) n next (chunk_at ws d i).count (total + (chunk_at ws d i).count))

unfoldable pub level_formed : List ℕ → Directory → Bool
level_formed ws d = pass_of ws d 0 d.chunks 0 d.width 0

-- what the code above a formed level leans on
pub record Formed (d : Directory) (ws : List ℕ) : Type 0 where
  pub within : Within d ws
  pub counts : (i : ℕ) → i < d.chunks → (1 ≤ (chunk_at ws d i).count) × ((chunk_at ws d i).count ≤ d.width)
  pub rises : Rising 0 (records_of ws d)
