-- What a side of a merge reads next, and whether its block may follow as it stands: what the code does.
use Rattle.std.specs.Prelude.{ℕ, ◌+◌, ◌-◌, ◌*◌, ◌/◌, ◌%◌, ◌^◌, ◌≤◌, ◌<◌, ◌≡◌, Bool, true, false, not, ◌&&◌, List, ltb, leb, eqb, length, get_or, take, drop, Option, None, Some, is_some}
use Rattle.slices.specs.Ranks.{Rising}
use Rattle.levels.specs.Basics.{if◌then◌otherwise◌}
use Rattle.blocks.specs.declared.Offsets.{Offsets}
use Rattle.blocks.specs.Blocks.{Sized, start_of}
use Rattle.blocks.specs.Room.{list_room}
use Rattle.sides.specs.declared.Chunk.{Chunk}
use Rattle.sides.specs.declared.Head.{Head}

-- the block at place q
abbrev pub block_chunk : Offsets → List ℕ → ℕ → Chunk
block_chunk z xs q = record { marks = start_of z q + 1; keys = start_of z q + 2; pays = start_of z q + 2 + z.b; n = get_or xs (start_of z q) 0; place = Some q }

-- page i of level 0
abbrev pub page_chunk : Offsets → ℕ → Chunk
page_chunk z i = record { marks = z.marks + i; keys = z.keys + i * z.b; pays = z.pays + i * z.b; n = z.b; place = None }

-- chunk i of a side
unfoldable pub chunk_of : Offsets → Bool → List ℕ → List ℕ → ℕ → Chunk
chunk_of z pages xs list i = if pages then page_chunk z i otherwise block_chunk z xs (get_or list i 0)

-- a side has a chunk i: a page of level 0, or a block at a place
pub record Chunked (z : Offsets) (pages : Bool) (xs list : List ℕ) (i : ℕ) : Type 0 where
  pub sized : Sized z xs
  pub low : i < list_room
  pub place : pages ≡ false → get_or list i 0 < z.p
  pub page : pages ≡ true → i < z.top

-- the keys of a chunk
abbrev pub keys_in : List ℕ → Chunk → List ℕ
keys_in xs c = take c.n (drop c.keys xs)

-- chunk i of a side can be read at record j, and its keys rise
pub record Readable (z : Offsets) (pages : Bool) (xs list : List ℕ) (i j end : ℕ) : Type 0 where
  pub sized : Sized z xs
  pub end_high : end ≤ list_room
  pub place : i < end → pages ≡ false → get_or list i 0 < z.p
  pub page : i < end → pages ≡ true → i < z.top
  pub inside : i < end → j < (chunk_of z pages xs list i).n
  pub count : i < end → (chunk_of z pages xs list i).n ≤ z.b
  pub rises : i < end → Rising 0 (keys_in xs (chunk_of z pages xs list i))

-- a side that is used up: "or that list is used up"
abbrev pub no_head : Option Head
no_head = None

-- record j of a chunk
abbrev pub head_at : List ℕ → Chunk → ℕ → Head
head_at xs c j =
    record {
      key = get_or xs (c.keys + j) 0;
      tombstone = get_or xs c.marks 0 / 2 ^ j % 2;
      pay = get_or xs (c.pays + j) 0;
      marks = get_or xs c.marks 0;
      keys = c.keys;
      pays = c.pays;
      n = c.n;
      place = c.place;
      whole = if eqb j 0 then c.place otherwise None;
    }

-- what a side reads next, record j of chunk i, or that it is used up
unfoldable pub head_of : Offsets → Bool → List ℕ → List ℕ → ℕ → ℕ → ℕ → Option Head
head_of z pages xs list i j end = if leb end i then no_head otherwise Some (head_at xs (chunk_of z pages xs list i) j)

-- Step 3's e, "the last block placed by this merge, else the block before Y", by its size. Where there is none it counts as full:
-- with any records beside it it holds more than B, so that every test against it holds.
unfoldable pub last_size : Offsets → List ℕ → List ℕ → ℕ → ℕ
last_size z xs out m = if eqb m 0 then z.b otherwise get_or xs (start_of z (get_or out (m - 1) 0)) 0

-- a key comes before the next record of a side, or the side is used up
abbrev pub comes_before : ℕ → Option Head → Bool
comes_before k None = true
comes_before k (Some b) = ltb k b.key

-- "X and Y are read in key order": the next record of a comes before that of b
abbrev pub first : Option Head → Option Head → Bool
first None b = false
first (Some a) b = comes_before a.key b

-- the records of a head's block lie in the store, and its keys can be searched
pub record Searchable (xs : List ℕ) (h : Head) : Type 0 where
  pub filled : 1 ≤ h.n
  pub inside : h.keys + h.n ≤ length xs
  pub pays : h.pays + h.n ≤ length xs
  pub rises : Rising 0 (take h.n (drop h.keys xs))

-- a starts a listed block whose last key is below b's next key
unfoldable pub whole_below : List ℕ → Head → Option Head → Bool
whole_below xs a b = is_some a.whole && comes_before (get_or xs (a.keys + (a.n - 1)) 0) b

-- Step 3, "b is reused at its place if ..": a starts a listed block that ends below b's next key, it has no mark in level h, and the
-- buffer of n records, the block and e of e records hold more than B together, pair by pair
unfoldable pub follows : Offsets → Bool → List ℕ → Head → Option Head → ℕ → ℕ → Bool
follows z bottom xs a b n e =
    if eqb n 0 then whole_below xs a b && (not (bottom && not (eqb a.marks 0)) && ltb z.b (e + a.n))
    otherwise whole_below xs a b && (not (bottom && not (eqb a.marks 0)) && (ltb z.b (n + a.n) && ltb z.b (e + n)))

-- the place of a's block, where it follows as it stands
abbrev pub follows_at : Offsets → Bool → List ℕ → Head → Option Head → ℕ → ℕ → Option ℕ
follows_at z bottom xs a b n e = if follows z bottom xs a b n e then a.whole otherwise None
