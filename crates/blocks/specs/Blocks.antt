-- The places of blocks as the code sees them: offsets computed once, marks of places in use, the buffer of a block, and what writing it leaves.
use Rattle.std.specs.Prelude.{ℕ, zero, suc, ◌+◌, ◌-◌, ◌*◌, ◌^◌, ◌≤◌, ◌<◌, ◌≡◌, Bool, true, false, List, ◌∷◌, ◌++◌, ltb, get_or, set, length, replicate, take}
use Rattle.std.proofs.Math.Option.{some}
use Rattle.std.proofs.lemmas.List.Edits.{sets}
use Rattle.geometry.specs.Geometry.{capacity_of}
use Rattle.geometry.specs.Room.{places_most}
use Rattle.levels.specs.Basics.{if◌then◌otherwise◌, member}
use Rattle.levels.specs.Record.{Rec}
use Rattle.levels.specs.Place.{after}
use Rattle.layout.specs.declared.Layout.{Layout}
use Rattle.pieces.specs.Pieces.{lay}
use Rattle.words.specs.Stores.{pad, keys_of, pays_of, mark_word, block_piece}
use Rattle.blocks.specs.declared.Offsets.{Offsets}
use Rattle.blocks.specs.declared.Buffer.{Buffer}

-- the numbers of a layout that a merge reads at every step
abbrev pub offsets_of : Layout → Offsets
offsets_of z = record { b = z.geo.b; p = z.geo.p; top = capacity_of z.geo 0; marks = z.marks; keys = z.keys; pays = z.pays; base = z.places }

-- Words of these offsets: the places end them, and level 0 lies before the places. No store has a million words before its places, so
-- the offsets fit their type.
pub record Sized (z : Offsets) (xs : List ℕ) : Type 0 where
  pub b_low : 2 ≤ z.b
  pub b_high : z.b ≤ 16
  pub places : z.p ≤ places_most
  pub base_high : z.base ≤ 1000000
  pub marks_end : z.marks + z.top ≤ z.base
  pub keys_end : z.keys + z.top * z.b ≤ z.base
  pub pays_end : z.pays + z.top * z.b ≤ z.base
  pub words : length xs ≡ z.base + z.p * (2 + 2 * z.b)

-- the first word of a place
unfoldable pub start_of : Offsets → ℕ → ℕ
start_of z place = z.base + place * (2 + 2 * z.b)

-- the place k steps after the cursor, going round at p
unfoldable pub after_by : ℕ → ℕ → ℕ → ℕ
after_by p cursor k = if ltb (cursor + k) p then cursor + k otherwise cursor + k - p

-- a place is not marked as in use
abbrev pub Free : List Bool → ℕ → Type 0
Free used q = get_or used q false ≡ false

-- some place below p is free
pub record SomeFree (used : List Bool) (p : ℕ) : Type 0 where
  pub at : ℕ
  pub low : at < p
  pub free : Free used at

-- levels' `free_after` over marks: the first of the n places after q, going round, that is not in use; the last of them if all are
unfoldable pub free_mark : ℕ → ℕ → List Bool → ℕ → ℕ
free_mark zero p used q = q
free_mark (suc n) p used q = elim (get_or used (after p q) false) [ true ↦ free_mark n p used (after p q) | false ↦ after p q ]

-- "the first free place after hand, going round"
abbrev pub next_mark : ℕ → List Bool → ℕ → ℕ
next_mark p used cursor = free_mark p p used cursor

-- the marks, with the first n entries of a place list marked too
unfoldable pub marked : List Bool → List ℕ → ℕ → List Bool
marked used list zero = used
marked used list (suc n) = set (marked used list n) (get_or list n 0) true

-- the marks say of each place whether it is one of these
abbrev pub Marks : List Bool → List ℕ → Type 0
Marks used places = (q : ℕ) → get_or used q false ≡ member q places

abbrev pub empty_buffer : Buffer
empty_buffer = record { keys = replicate 16 0; pays = replicate 16 0; marks = 0; n = 0 }

abbrev pub pushed : Buffer → ℕ → ℕ → ℕ → Buffer
pushed b key tombstone pay =
    record { keys = set b.keys b.n key; pays = set b.pays b.n pay; marks = b.marks + tombstone * 2 ^ b.n; n = b.n + 1 }

-- the buffer that holds these records
unfoldable pub buffer_of : List Rec → Buffer
buffer_of rs = record { keys = pad 16 (keys_of rs); pays = pad 16 (pays_of rs); marks = mark_word rs; n = length rs }

-- count, mark word, keys and payloads of a buffer, stored over the words of a place
unfoldable pub written : Offsets → List ℕ → ℕ → Buffer → List ℕ
written z xs place buf = sets xs (start_of z place) (buf.n ∷ buf.marks ∷ (take z.b buf.keys ++ take z.b buf.pays))

-- the whole store after a block of these records has been written at a place
abbrev pub with_block : Layout → List ℕ → ℕ → List Rec → List ℕ
with_block z ws place rs = lay (block_piece z (record { place = some place; recs = rs })) ws

-- what a write says in records: whenever the buffer holds rs, the place holds a block of rs afterwards
abbrev pub WritesRecords : Offsets → List ℕ → ℕ → Buffer → List ℕ → Type 0
WritesRecords o xs place buf ys =
    (z : Layout) → o ≡ offsets_of z → (rs : List Rec) → buf ≡ buffer_of rs → length rs ≤ z.geo.b → ys ≡ with_block z xs place rs
