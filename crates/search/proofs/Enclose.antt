-- Of the chunks of a level, only the one that a search finds can enclose the key.
use Prim.Native.Nat.{ℕ, zero, suc, ◌+◌, ◌-◌, ◌/◌, ◌≤◌, ◌<◌}
use mathlib.Core.Path.{◌≡◌, refl, sym, ap, ◌∙◌}
use mathlib.Core.Bool.{Bool, true, false, ◌&&◌, and-false}
use mathlib.Core.List.{List, [], ◌∷◌, ◌++◌}
use native.Mathlib.Numerals.{add-one}
use native.Mathlib.Omega.{arith}
use Rattle.std.specs.Prelude.{Option, Some, None}
use borrow.Author.Tests.{lt-leb}
use lib.Dec.{leb, ltb}
use lib.ListN.{length, get_or}
use Rattle.slices.specs.Ranks.{count_below}
use Rattle.slices.proofs.Ranks.{some_not_below}
use Rattle.levels.specs.Basics.{if◌then◌otherwise◌}
use Rattle.levels.specs.Record.{Rec, first_key, last_key}
use Rattle.levels.specs.Rising.{Rising, Below}
use Rattle.levels.proofs.Rising.{rising_right}
use Rattle.words.specs.Stores.{word, slots_at}
use Rattle.chunks.specs.declared.Chunk.{Chunk}
use Rattle.chunks.specs.Chunks.{Inside, chunk_recs}
use Rattle.chunks.proofs.Slots.{slots_first}
use Rattle.directory.specs.declared.Directory.{Directory}
use Rattle.directory.specs.Directory.{Formed, records_from, chunk_at}
use Rattle.search.specs.Search.{Sought, encloses, enclosed_from, enclosed_of}
use Rattle.search.proofs.Between.{below_left, below_right}
use Rattle.search.proofs.Laws.{chunk_keys, keys_rising, keys_long, key_is, chunk_ready, chunk_first, first_of, others_of, span_before, span_after}

-- the first and the last key of a chunk
slots_last : (ws : List ℕ) (m k v n : ℕ) → last_key (slots_at ws m k v (suc n)) ≡ word ws (k + n)
unfolding slots_at
slots_last ws m k v zero = let p : k + 0 ≡ k = omega arith in rw p
slots_last ws m k v (suc n) = let p : k + suc n ≡ suc k + n = omega arith in rw p (slots_last ws (m / 2) (suc k) (suc v) n)

chunk_first_key : (ws : List ℕ) (c : Chunk) → 1 ≤ c.count → first_key (chunk_recs ws c) ≡ word ws c.keys
chunk_first_key ws c h = rw (slots_first ws c.marks c.keys c.pays c.count h)

chunk_last_key : (ws : List ℕ) (c : Chunk) → 1 ≤ c.count → last_key (chunk_recs ws c) ≡ word ws (c.keys + (c.count - 1))
chunk_last_key ws c h =
    let e : c.count ≡ suc (c.count - 1) = omega arith in
    ap (λ (n : ℕ). last_key (slots_at ws c.marks c.keys c.pays n)) e ∙ slots_last ws c.marks c.keys c.pays (c.count - 1)

-- a chunk encloses a key if its first key is not above it and not all keys are below it
module _ (ws : List ℕ) (c : Chunk) (n : Inside c ws) (h : Rising 0 (chunk_recs ws c)) (l : 1 ≤ c.count) (k : ℕ) where
  abbrev keys : List ℕ
  keys = chunk_keys ws c

  long : length keys ≡ c.count
  long = keys_long ws c n h

  chunk_encloses : encloses k (chunk_recs ws c) ≡ (leb (word ws c.keys) k && ltb (count_below k keys) c.count)
  chunk_encloses =
      let r = keys_rising ws c n h in
      let z : word ws (c.keys + (c.count - 1)) ≡ get_or keys (length keys - 1) 0 = rw long (sym (key_is ws c n h (c.count - 1) (omega arith))) in
      rw (chunk_first_key ws c l, chunk_last_key ws c l, z, some_not_below k 0 keys r (rw long l), long)

last_below : (k : ℕ) (r : Rec) (rs : List Rec) → Below k (r ∷ rs) → last_key (r ∷ rs) < k
last_below k r [] b = b.0
last_below k r (s ∷ rs) b = last_below k s rs b.1

-- records below k, and records above k, do not enclose it
below_encloses : (k : ℕ) (rs : List Rec) (r : Rec) (ss : List Rec) → rs ≡ r ∷ ss → Below k rs → encloses k rs ≡ false
below_encloses k rs r ss e b =
    let p : Below k (r ∷ ss) = rw e at b in
    rw (e, lt-leb k (last_key (r ∷ ss)) (last_below k r ss p)) (and-false (leb r.key k))

above_encloses : (k : ℕ) (rs : List Rec) (r : Rec) (ss ts : List Rec) → rs ≡ r ∷ ss → Rising (suc k) (rs ++ ts) → encloses k rs ≡ false
above_encloses k rs r ss ts e h =
    let p : Rising (suc k) ((r ∷ ss) ++ ts) = rw e at h in
    rw (e, lt-leb r.key k p.0)

abbrev or_enclosed : Option ℕ → Option ℕ → Option ℕ
or_enclosed (Some i) b = Some i
or_enclosed None b = b

module _ (ws : List ℕ) (d : Directory) (k : ℕ) where
  enclosed_append : (i m n : ℕ) → enclosed_from ws d k i (m + n) ≡ or_enclosed (enclosed_from ws d k i m) (enclosed_from ws d k (i + m) n)
  unfolding enclosed_from
  enclosed_append i zero n = let a : 0 + n ≡ n = omega arith in let b : i + 0 ≡ i = omega arith in rw (a, b)
  enclosed_append i (suc m) n =
      let a : suc m + n ≡ suc (m + n) = omega arith in
      let b : i + suc m ≡ suc i + m = omega arith in
      rw (a, b, enclosed_append (suc i) m n) (go (encloses k (chunk_recs ws (chunk_at ws d i))) (enclosed_from ws d k (suc i) m) (enclosed_from ws d k (suc i + m) n))
    where
      go : (t : Bool) (y z : Option ℕ) → (if t then Some i otherwise or_enclosed y z) ≡ or_enclosed (if t then Some i otherwise y) z
      go true y z = refl
      go false y z = refl

  enclosed_first : (i n : ℕ) → enclosed_from ws d k i (suc n) ≡ (if encloses k (chunk_recs ws (chunk_at ws d i)) then Some i otherwise enclosed_from ws d k (i + 1) n)
  unfolding enclosed_from
  enclosed_first i n = rw (add-one i)

  module _ (f : Formed d ws) where
    enclosed_below : (i n : ℕ) → i + n ≤ d.chunks → Below k (records_from ws d i n) → enclosed_from ws d k i n ≡ None
    unfolding enclosed_from records_from
    enclosed_below i zero h b = refl
    enclosed_below i (suc n) h b =
        let rs = chunk_recs ws (chunk_at ws d i) in
        rw (below_encloses k rs (first_of ws d i) (others_of ws d i) (chunk_first ws d i (f.counts i (omega arith)).0) (below_left k rs (records_from ws d (suc i) n) b))
        (enclosed_below (suc i) n (omega arith) (below_right k rs (records_from ws d (suc i) n) b))

    enclosed_above : (i n : ℕ) → i + n ≤ d.chunks → Rising (suc k) (records_from ws d i n) → enclosed_from ws d k i n ≡ None
    unfolding enclosed_from records_from
    enclosed_above i zero h b = refl
    enclosed_above i (suc n) h b =
        let rs = chunk_recs ws (chunk_at ws d i) in
        rw (above_encloses k rs (first_of ws d i) (others_of ws d i) (records_from ws d (suc i) n) (chunk_first ws d i (f.counts i (omega arith)).0) b)
        (enclosed_above (suc i) n (omega arith) (rising_right (suc k) rs (records_from ws d (suc i) n) b))

    -- the chunk that was sought encloses the key, or none does
    sought_encloses : (r : ℕ) → Sought ws d k r → enclosed_of ws d k ≡ (if encloses k (chunk_recs ws (chunk_at ws d r)) then Some r otherwise None)
    unfolding enclosed_of
    sought_encloses r s =
        let l = s.inside in
        let n : d.chunks ≡ r - 0 + suc (d.chunks - (r + 1)) = omega arith in
        let q : 0 + (r - 0) ≡ r = omega arith in
        let b = enclosed_below 0 (r - 0) (omega arith) (span_before ws d f k r s) in
        let a = enclosed_above (r + 1) (d.chunks - (r + 1)) (omega arith) (span_after ws d f k r s) in
        ap (enclosed_from ws d k 0) n
        ∙ enclosed_append 0 (r - 0) (suc (d.chunks - (r + 1)))
        ∙ rw (b, q, enclosed_first r (d.chunks - (r + 1)), a)

    -- the same by the first key of that chunk and by how many of its keys are below k, as the code reads it
    pub enclosed_read : (r : ℕ) → Sought ws d k r → (c : Chunk) → c ≡ chunk_at ws d r → (first below : ℕ) → first ≡ word ws c.keys → below ≡ count_below k (chunk_keys ws c)
        → enclosed_of ws d k ≡ (if leb first k && ltb below c.count then Some r otherwise None)
    enclosed_read r s c e first below a q =
        let p = chunk_ready ws d f r s.inside c e in
        sought_encloses r s ∙ rw (← e, chunk_encloses ws c p.0 p.1.1.1 p.1.0 k, a, q)

-- a level of no chunks encloses nothing
pub enclosed_empty : (ws : List ℕ) (d : Directory) (k : ℕ) → d.chunks < 1 → enclosed_of ws d k ≡ None
unfolding enclosed_of enclosed_from
enclosed_empty ws d k h = let e : d.chunks ≡ 0 = omega arith in rw e
