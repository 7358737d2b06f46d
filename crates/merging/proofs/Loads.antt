-- Records loaded into a buffer from a place and from another buffer.
use Prim.Native.Nat.{ℕ, zero, suc, ◌+◌, ◌-◌, ◌*◌, ◌/◌, ◌%◌, ◌^◌, ◌≤◌, ◌<◌}
use mathlib.Core.Path.{◌≡◌, ap, ◌∙◌, refl}
use mathlib.Core.Bool.{Bool, true, false}
use mathlib.Core.List.{List, [], ◌∷◌, ◌++◌, map, append_assoc, append-nil}
use native.Mathlib.Omega.{arith}
use lib.Pow.{shr-shr}
use lib.ListN.{length, get_or, take, replicate, length-append, length-map, get_or-append, length-take}
use lib.Seq.{take-suc}
use Rattle.levels.specs.Record.{Rec}
use Rattle.blocks.specs.declared.Offsets.{Offsets}
use Rattle.blocks.specs.Blocks.{start_of, buffer_of}
use Rattle.joins.specs.Joins.{appended, joined}
use Rattle.words.specs.Stores.{bit, mark_word, pad}
use Rattle.sides.specs.declared.Chunk.{Chunk}
use Rattle.sides.specs.Sides.{block_chunk}
use Rattle.merging.proofs.Blocks.{rec_at, recs_from}
use Rattle.merging.proofs.Heads.{recs_length}
use Rattle.merging.proofs.Outs.{buffer_push, bit_eqb}

pub recs_none : (ws : List ℕ) (c : Chunk) (i : ℕ) → recs_from ws c i 0 ≡ []
unfolding recs_from
recs_none ws c i = refl

pub recs_snoc : (ws : List ℕ) (c : Chunk) (i j : ℕ) → recs_from ws c i (suc j) ≡ recs_from ws c i j ++ (rec_at ws c (i + j) ∷ [])
unfolding recs_from
recs_snoc ws c i zero = let e : i + zero ≡ i = omega arith in rw e
recs_snoc ws c i (suc j) = let e : i + suc j ≡ suc i + j = omega arith in rw (e, ← recs_snoc ws c (suc i) j)

-- the records of a place, after those of a buffer
pub append_place : (z : Offsets) (ws : List ℕ) (q : ℕ) (rs : List Rec) (j : ℕ) → length rs + j ≤ 16 → appended z.b ws (start_of z q) (buffer_of rs) j ≡ buffer_of (rs ++ recs_from ws (block_chunk z ws q) 0 j)
unfolding appended
append_place z ws q rs zero h = rw (recs_none ws (block_chunk z ws q) 0, append-nil)
append_place z ws q rs (suc j) h =
    let e : 0 + j ≡ j = omega arith in
    let l : length (rs ++ recs_from ws (block_chunk z ws q) 0 j) < 16 = simp (length-append, recs_length) (omega arith) in
    rw (append_place z ws q rs j (omega arith), recs_snoc ws (block_chunk z ws q) 0 j, e, ← append_assoc rs (recs_from ws (block_chunk z ws q) 0 j) (rec_at ws (block_chunk z ws q) j ∷ []))
    (buffer_push (rs ++ recs_from ws (block_chunk z ws q) 0 j) (rec_at ws (block_chunk z ws q) j) (get_or ws (start_of z q + 1) 0 / 2 ^ j % 2) l (bit_eqb (get_or ws (start_of z q + 1) 0 / 2 ^ j % 2) (omega arith)))

blank : Rec
blank = record { key = 0; tombstone = false; pay = 0 }

at_key : (f : Rec → ℕ) (ss : List Rec) (j : ℕ) → j < length ss → get_or (map f ss) j 0 ≡ f (get_or ss j blank)
at_key f [] j h = absurd (omega arith)
at_key f (s ∷ ss) zero h = refl
at_key f (s ∷ ss) (suc j) h = at_key f ss j (omega arith)

at_pad : (f : Rec → ℕ) (ss : List Rec) (j : ℕ) → j < length ss → get_or (pad 16 (map f ss)) j 0 ≡ f (get_or ss j blank)
at_pad f ss j h = get_or-append (map f ss) (replicate (16 - length (map f ss)) 0) 0 j (rw length-map h) ∙ at_key f ss j h

at_mark : (ss : List Rec) (j : ℕ) → j < length ss → mark_word ss / 2 ^ j % 2 ≡ bit (get_or ss j blank).tombstone
unfolding mark_word
at_mark [] j h = absurd (omega arith)
at_mark (s ∷ ss) zero h = go s.tombstone
  where
    go : (t : Bool) → (bit t + 2 * mark_word ss) / 2 ^ 0 % 2 ≡ bit t
    go true = omega arith
    go false = omega arith
at_mark (s ∷ ss) (suc j) h = rw (half s.tombstone) (at_mark ss j (omega arith))
  where
    half : (t : Bool) → (bit t + 2 * mark_word ss) / 2 ^ suc j ≡ mark_word ss / 2 ^ j
    half t = let e : suc j ≡ 1 + j = omega arith in rw (e, ← shr-shr (bit t + 2 * mark_word ss) 1 j) (ap (λ (n : ℕ). n / 2 ^ j) (two t))
      where
        two : (t : Bool) → (bit t + 2 * mark_word ss) / 2 ^ 1 ≡ mark_word ss
        two true = omega arith
        two false = omega arith

-- the records of a buffer, after those of another
pub append_buffers : (rs ss : List Rec) (j : ℕ) → j ≤ length ss → length rs + length ss ≤ 16 → joined (buffer_of rs) (buffer_of ss).keys (buffer_of ss).pays (buffer_of ss).marks j ≡ buffer_of (rs ++ take j ss)
unfolding joined buffer_of
append_buffers rs ss zero h l = rw append-nil
append_buffers rs ss (suc j) h l =
    let n : length (rs ++ take j ss) < 16 = simp (length-append, length-take) (omega arith) in
    rw (append_buffers rs ss j (omega arith) l, take-suc ss j blank (omega arith), ← append_assoc rs (take j ss) (get_or ss j blank ∷ []), at_pad (λ (r : Rec). r.key) ss j (omega arith), at_pad (λ (r : Rec). r.pay) ss j (omega arith), at_mark ss j (omega arith))
    (buffer_push (rs ++ take j ss) (get_or ss j blank) (bit (get_or ss j blank).tombstone) n refl)
