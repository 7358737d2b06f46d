-- Which chunk of a level can have a key, found by going over the chunks' first keys once for sixteen keys.
use Prim.Native.Nat.{ℕ, zero, suc, ◌+◌, ◌-◌, ◌/◌, ◌≤◌, ◌<◌}
use mathlib.Core.Path.{◌≡◌, refl, ◌∙◌}
use mathlib.Core.Bool.{Bool, true, false}
use mathlib.Core.Logic.{dite}
use mathlib.Core.List.{List, ◌∷◌, ◌++◌}
use native.Mathlib.Decide.{dec_lt}
use native.Mathlib.Omega.{arith}
use lib.Dec.{ltb}
use lib.ListN.{length, get_or, take, drop, set, replicate, get_or-replicate, length-drop, length-set, get_or-append}
use lib.Seq.{length-take-le, get_or-take, get_or-drop, get_or-set_same, get_or-set_other}
use borrow.Author.Tests.{ltb-true, ltb-false}
use Rattle.slices.specs.Slices.{put_at}
use Rattle.levels.specs.Rising.{Rising, Below}
use Rattle.levels.proofs.Rising.{rising_right}
use Rattle.words.specs.Stores.{word, slots_at}
use Rattle.chunks.specs.declared.Chunk.{Chunk}
use Rattle.chunks.specs.Chunks.{chunk_recs}
use Rattle.directory.specs.declared.Directory.{Directory}
use Rattle.directory.specs.Directory.{Formed, chunk_at, records_from}
use Rattle.directory.proofs.Laws.{chunk_room}
use Rattle.search.specs.Search.{first_at, Sought}
use Rattle.search.proofs.Between.{rising_before}
use Rattle.search.proofs.Laws.{span, span_split, chunk_first, first_of, others_of, chunk_rising}
use Rattle.shares.specs.declared.Seats.{Seats}
use Rattle.shares.specs.Shadow.{bit_if, Started, Asked, Begun, Ended, Seated, ChunkSeated}

-- slots below a key: each of their keys is
below_slot : (high : ℕ) (ws : List ℕ) (m k v n l : ℕ) → Below high (slots_at ws m k v n) → l < n → word ws (k + l) < high
unfolding slots_at
below_slot high ws m k v zero l b h = absurd (omega arith)
below_slot high ws m k v (suc n) zero b h = let e : k + 0 ≡ k = omega arith in rw e b.0
below_slot high ws m k v (suc n) (suc l) b h =
    let e : k + suc l ≡ suc k + l = omega arith in
    rw e (below_slot high ws (m / 2) (suc k) (suc v) n l b.1 (omega arith))

-- slots that rise from a key on: each of their keys is at least it
slot_low : (low : ℕ) (ws : List ℕ) (m k v n l : ℕ) → Rising low (slots_at ws m k v n) → l < n → low ≤ word ws (k + l)
unfolding slots_at
slot_low low ws m k v zero l r h = absurd (omega arith)
slot_low low ws m k v (suc n) zero r h = let e : k + 0 ≡ k = omega arith in rw e r.0
slot_low low ws m k v (suc n) (suc l) r h =
    let e : k + suc l ≡ suc k + l = omega arith in
    let q = slot_low (suc (word ws k)) ws (m / 2) (suc k) (suc v) n l r.1 (omega arith) in
    rw e (omega (arith, q, r.0))

-- of two slots that rise, the later one's key is not below the other's
slot_rise : (low : ℕ) (ws : List ℕ) (m k v n i j : ℕ) → Rising low (slots_at ws m k v n) → i ≤ j → j < n → word ws (k + i) ≤ word ws (k + j)
unfolding slots_at
slot_rise low ws m k v zero i j r h b = absurd (omega arith)
slot_rise low ws m k v (suc n) zero zero r h b = omega arith
slot_rise low ws m k v (suc n) zero (suc j) r h b =
    let d : k + 0 ≡ k = omega arith in
    let e : k + suc j ≡ suc k + j = omega arith in
    let q = slot_low (suc (word ws k)) ws (m / 2) (suc k) (suc v) n j r.1 (omega arith) in
    rw (d, e) (omega (arith, q))
slot_rise low ws m k v (suc n) (suc i) zero r h b = absurd (omega arith)
slot_rise low ws m k v (suc n) (suc i) (suc j) r h b =
    let d : k + suc i ≡ suc k + i = omega arith in
    let e : k + suc j ≡ suc k + j = omega arith in
    rw (d, e) (slot_rise (suc (word ws k)) ws (m / 2) (suc k) (suc v) n i j r.1 (omega arith) (omega arith))

-- two chunks in a row, and what is after them
from_two : (ws : List ℕ) (d : Directory) (i n : ℕ) → suc i < n → records_from ws d i (n - i) ≡ chunk_recs ws (chunk_at ws d i) ++ (chunk_recs ws (chunk_at ws d (suc i)) ++ records_from ws d (suc (suc i)) (n - suc (suc i)))
unfolding records_from
from_two ws d i n h = let e : n - i ≡ suc (suc (n - suc (suc i))) = omega arith in rw e

-- a chunk's first key is its key 0
first_word : (ws : List ℕ) (d : Directory) (i : ℕ) → first_at ws d i ≡ word ws ((chunk_at ws d i).keys + 0)
unfolding first_at
first_word ws d i = let e : (chunk_at ws d i).keys + 0 ≡ (chunk_at ws d i).keys = omega arith in rw e

module _ (ws : List ℕ) (d : Directory) (f : Formed d ws) where
  -- every key of a chunk is below the next chunk's first key
  pub chunk_next : (i l : ℕ) → suc i < d.chunks → l < (chunk_at ws d i).count → word ws ((chunk_at ws d i).keys + l) < first_at ws d (suc i)
  chunk_next i l h k =
      let n = d.chunks in
      let xs = chunk_recs ws (chunk_at ws d i) in
      let rest = records_from ws d (suc (suc i)) (n - suc (suc i)) in
      let p : Rising 0 (span ws d 0 i ++ span ws d i n) = rw (← span_split ws d i (omega arith)) f.rises in
      let q : Rising 0 (xs ++ (chunk_recs ws (chunk_at ws d (suc i)) ++ rest)) = rw (from_two ws d i n h) at (rising_right 0 (span ws d 0 i) (span ws d i n) p) in
      let e : chunk_recs ws (chunk_at ws d (suc i)) ++ rest ≡ first_of ws d (suc i) ∷ (others_of ws d (suc i) ++ rest) = rw (chunk_first ws d (suc i) (f.counts (suc i) h).0) in
      let b = rising_before (first_at ws d (suc i)) 0 xs (chunk_recs ws (chunk_at ws d (suc i)) ++ rest) (first_of ws d (suc i)) (others_of ws d (suc i) ++ rest) e q (omega arith) in
      below_slot (first_at ws d (suc i)) ws (chunk_at ws d i).marks (chunk_at ws d i).keys (chunk_at ws d i).pays (chunk_at ws d i).count l b k

  -- the first keys of a level rise
  pub first_rise : (i j : ℕ) → i < j → j < d.chunks → first_at ws d i < first_at ws d j
  first_rise i zero h k = absurd (omega arith)
  first_rise i (suc j) h k =
      let s = first_next j k in
      dite (dec_lt i j) (λ y. let r = first_rise i j y (omega arith) in omega arith) (λ n. let e : i ≡ j = omega arith in rw e s)
    where
      first_next : (j : ℕ) → suc j < d.chunks → first_at ws d j < first_at ws d (suc j)
      first_next j k = rw (first_word ws d j) (chunk_next j 0 k (f.counts j (omega arith)).0)

-- where the search for a chunk's keys ended, that for the next chunk's can begin
pub ended_begun : (ws : List ℕ) (d up : Directory) (i t : ℕ) → Formed up ws → suc i < up.chunks → Ended ws d t (chunk_at ws up i) → Begun ws d t (chunk_at ws up (suc i))
unfolding first_at
ended_begun ws d up i t f h e =
    let n = f.counts i (omega arith) in
    let q = chunk_next ws up f i ((chunk_at ws up i).count - 1) h (omega arith) in
    record { inside = e.inside; starts = λ p. let a = e.starts p in omega arith }

-- the keys of a formed level's chunk can be looked for
pub asked_of : (ws : List ℕ) (up : Directory) (i : ℕ) → Formed up ws → i < up.chunks → Asked ws (chunk_at ws up i) up.width
asked_of ws up i f h =
    let r = chunk_room up ws f.within i h in
    record {
      some = (f.counts i h).0;
      most = (f.counts i h).1;
      width_high = f.within.width_high;
      room = r.0;
      rises = chunk_rising ws up f i h;
    }

-- One key while the first keys are gone over, at chunk t: a of them so far were above it, so chunk t - a can have it.
pub record Lane (first : ℕ → ℕ) (from t k a : ℕ) : Type 0 where
  pub few : from + a ≤ t
  pub low : (1 ≤ from → first from ≤ k) → 1 ≤ t - a → first (t - a) ≤ k
  pub high : 1 ≤ a → k < first (t - a + 1)

-- no first key has been looked at
lane_start : (first : ℕ → ℕ) (from k a : ℕ) → a ≡ 0 → Lane first from from k a
lane_start first from k a e =
    let z : from - a ≡ from = omega arith in
    record { few = omega arith; low = λ h p. rw z (h (omega arith)); high = λ p. absurd (omega arith) }

-- the next first key has been looked at: it is above the key, or else it is the last one so far that is not
lane_step : (first : ℕ → ℕ) (from t k a : ℕ) → ((i : ℕ) → i < t + 1 → first i < first (t + 1)) → Lane first from t k a → Lane first from (t + 1) k (a + bit_if (ltb k (first (t + 1))) 1)
lane_step first from t k a up m = go (ltb k (first (t + 1))) refl
  where
    go : (b : Bool) → ltb k (first (t + 1)) ≡ b → Lane first from (t + 1) k (a + bit_if b 1)
    go true e =
        let w = m.few in
        let z : t + 1 - (a + 1) ≡ t - a = omega arith in
        record {
          few = omega arith;
          low = λ h p. rw z (m.low h (rw z at p));
          high = λ p. rw z (dite (dec_lt 0 a) (λ y. m.high y) (λ n. let q : t - a + 1 ≡ t + 1 = omega arith in rw q (ltb-true k (first (t + 1)) e)));
        }
    go false e =
        let w = m.few in
        let l = ltb-false k (first (t + 1)) e in
        let z : a ≡ 0 = dite (dec_lt 0 a) (λ y. let q = m.high y in let u = up (t - a + 1) (omega arith) in absurd (omega arith)) (λ n. omega arith) in
        let v : t + 1 - (a + 0) ≡ t + 1 = omega arith in
        record { few = omega arith; low = λ h p. rw v l; high = λ p. absurd (omega arith) }

-- Sixteen keys while the first keys are gone over, at chunk t.
pub record Passing (ws : List ℕ) (d : Directory) (keys : List ℕ) (last from t : ℕ) (above : List ℕ) : Type 0 where
  pub inside : t < d.chunks
  pub past : from ≤ t
  pub starts : 1 ≤ t → (1 ≤ from → first_at ws d from ≤ last) → first_at ws d t ≤ last
  pub lane : (l : ℕ) → l < 16 → Lane (first_at ws d) from t (get_or keys l 0) (get_or above l 0)

-- no first key has been looked at
pub passing_start : (ws : List ℕ) (d : Directory) (keys : List ℕ) (last from : ℕ) → from < d.chunks → Passing ws d keys last from from (replicate 16 0)
passing_start ws d keys last from h =
    record {
      inside = h;
      past = omega arith;
      starts = λ p g. g p;
      lane = λ l m. lane_start (first_at ws d) from (get_or keys l 0) (get_or (replicate 16 0) l 0) (get_or-replicate 16 l 0 0 m);
    }

-- the counts can take one more, and are not above the chunk's number
pub passing_few : (ws : List ℕ) (d : Directory) (keys : List ℕ) (last from t : ℕ) (above : List ℕ) → Formed d ws → Passing ws d keys last from t above → (l : ℕ) → l < 16 → (get_or above l 0 ≤ 1024) × (get_or above l 0 ≤ t)
passing_few ws d keys last from t above f p l h =
    let a = (p.lane l h).few in
    let b = p.inside in
    let c = f.within.chunks_high in
    (omega arith, omega arith)

-- one more first key, not above the last key, has been counted for the keys that it is above
pub passing_step : (ws : List ℕ) (d : Directory) (keys : List ℕ) (last from t : ℕ) (above counted : List ℕ) (x : ℕ) → Formed d ws → Passing ws d keys last from t above → t + 1 < d.chunks → x ≡ first_at ws d (t + 1) → x ≤ last
    → ((l : ℕ) → l < 16 → get_or counted l 0 ≡ get_or above l 0 + bit_if (ltb (get_or keys l 0) x) 1) → Passing ws d keys last from (t + 1) counted
passing_step ws d keys last from t above counted x f p h e m c =
    let a = p.past in
    record {
      inside = h;
      past = omega arith;
      starts = λ q g. omega (arith, e);
      lane = λ l b. rw (c l b, e) (lane_step (first_at ws d) from t (get_or keys l 0) (get_or above l 0) (λ i k. first_rise ws d f i (t + 1) k h) (p.lane l b));
    }

-- the first keys from here on are above the last key, or there are none
pub passing_end : (ws : List ℕ) (d : Directory) (keys : List ℕ) (last from t : ℕ) (above : List ℕ) → Passing ws d keys last from t above → (t + 1 < d.chunks → last < first_at ws d (t + 1)) → Seated ws d keys last from (record { end = t; above = above })
passing_end ws d keys last from t above p e =
    record {
      inside = p.inside;
      starts = p.starts;
      within = λ l h. let a = (p.lane l h).few in omega arith;
      seat = λ l h low top. sought l h low top (get_or above l 0) (p.lane l h);
    }
  where
    sought : (l : ℕ) → l < 16 → (1 ≤ from → first_at ws d from ≤ get_or keys l 0) → get_or keys l 0 ≤ last → (a : ℕ) → Lane (first_at ws d) from t (get_or keys l 0) a → Sought ws d (get_or keys l 0) (t - a)
    sought l h low top a m =
        let i = p.inside in
        let w = m.few in
        record {
          inside = omega arith;
          starts = m.low low;
          next_starts = λ k. dite (dec_lt 0 a) (λ y. m.high y) (λ n. let q : t - a + 1 ≡ t + 1 = omega arith in rw q (let z = e (rw q at k) in omega arith));
        }

-- words copied to the front
pub front_is : (ws xs : List ℕ) (at n l : ℕ) → at + n ≤ length ws → l < n → get_or (put_at 0 (take n (drop at ws)) xs) l 0 ≡ word ws (at + l)
unfolding put_at
front_is ws xs at n l r h =
    let e : length (take n (drop at ws)) ≡ n = length-take-le n (drop at ws) (rw length-drop (omega arith)) in
    get_or-append (take n (drop at ws)) (drop (0 + length (take n (drop at ws))) xs) 0 l (rw e h) ∙ get_or-take n (drop at ws) l 0 h ∙ get_or-drop at ws l 0

-- the keys of a chunk are seated: none is before chunk `from`, and none is above the last one
pub chunk_seated : (ws : List ℕ) (d : Directory) (c : Chunk) (width from : ℕ) (keys : List ℕ) (last : ℕ) (r : Seats) → Asked ws c width → Begun ws d from c → ((l : ℕ) → l < c.count → get_or keys l 0 ≡ word ws (c.keys + l)) → last ≡ word ws (c.keys + (c.count - 1))
    → Seated ws d keys last from r → ChunkSeated ws d c r
chunk_seated ws d c width from keys last r a b k e s =
    let n = a.some in
    let w = a.most in
    let v = a.width_high in
    record {
      ended = record { inside = s.inside; starts = λ p. let q = s.starts p (λ u. let x = b.starts u in let y = order 0 (c.count - 1) (omega arith) (omega arith) in let z = zeroth in omega arith) in omega arith };
      seat = λ l h.
          let x = k l h in
          let y = order 0 l (omega arith) h in
          let z = order l (c.count - 1) (omega arith) (omega arith) in
          (s.within l (omega arith), rw x at (s.seat l (omega arith) (λ u. let g = b.starts u in let q = zeroth in omega arith) (omega arith)));
    }
  where
    order : (i j : ℕ) → i ≤ j → j < c.count → word ws (c.keys + i) ≤ word ws (c.keys + j)
    order i j h m = slot_rise 0 ws c.marks c.keys c.pays c.count i j a.rises h m

    zeroth : word ws (c.keys + 0) ≡ word ws c.keys
    zeroth = let z : c.keys + 0 ≡ c.keys = omega arith in rw z

-- The counts while a first key x is counted: those below l are done, the others are as they were.
pub record Counting (keys : List ℕ) (x : ℕ) (above counted : List ℕ) (l : ℕ) : Type 0 where
  pub most : l ≤ 16
  pub long : length counted ≡ 16
  pub done : (j : ℕ) → j < l → get_or counted j 0 ≡ get_or above j 0 + bit_if (ltb (get_or keys j 0) x) 1
  pub left : (j : ℕ) → l ≤ j → get_or counted j 0 ≡ get_or above j 0

-- none is done
pub counting_start : (keys : List ℕ) (x : ℕ) (above : List ℕ) → length above ≡ 16 → Counting keys x above above 0
counting_start keys x above e = record { most = omega arith; long = e; done = λ j h. absurd (omega arith); left = λ j h. refl }

-- a count has room for one more
pub counting_room : (keys : List ℕ) (x : ℕ) (above counted : List ℕ) (l b : ℕ) → Counting keys x above counted l → get_or above l 0 ≤ 1024 → b ≡ bit_if (ltb (get_or keys l 0) x) 1 → get_or counted l 0 + b ≤ 1025
counting_room keys x above counted l b c h e = let a = c.left l (omega arith) in let m = bit_most (ltb (get_or keys l 0) x) in omega arith
  where
    bit_most : (t : Bool) → bit_if t 1 ≤ 1
    bit_most true = omega arith
    bit_most false = omega arith

-- one more is done
pub counting_step : (keys : List ℕ) (x : ℕ) (above counted : List ℕ) (l b : ℕ) → Counting keys x above counted l → l < 16 → b ≡ bit_if (ltb (get_or keys l 0) x) 1 → Counting keys x above (set counted l (get_or counted l 0 + b)) (l + 1)
counting_step keys x above counted l b c h e =
    let n = c.long in
    let v = get_or counted l 0 + b in
    record {
      most = omega arith;
      long = length-set counted l v ∙ n;
      done = λ j m. dite (dec_lt j l)
          (λ y. get_or-set_other counted l j v 0 (λ q. omega arith) ∙ c.done j y)
          (λ z. let q : j ≡ l = omega arith in rw q (get_or-set_same counted l v 0 (omega arith) ∙ rw (c.left l (omega arith), e)));
      left = λ j m. get_or-set_other counted l j v 0 (λ q. omega arith) ∙ c.left j (omega arith);
    }

-- all are done
pub counting_end : (keys : List ℕ) (x : ℕ) (above counted : List ℕ) (l : ℕ) → Counting keys x above counted l → 16 ≤ l → (length counted ≡ 16) × ((j : ℕ) → j < 16 → get_or counted j 0 ≡ get_or above j 0 + bit_if (ltb (get_or keys j 0) x) 1)
counting_end keys x above counted l c h = (c.long, λ j m. c.done j (omega arith))

-- where a chunk's keys start, as the words say it: they are there, and the first of them stands there
pub started_first : (ws : List ℕ) (d : Directory) (starts : List ℕ) (i k : ℕ) → Formed d ws → Started ws d starts → i < d.chunks → k ≡ get_or starts i 0 → (k + d.width ≤ length ws) × (word ws k ≡ first_at ws d i)
unfolding first_at
started_first ws d starts i k f s h e =
    let q : k ≡ (chunk_at ws d i).keys = e ∙ s.start i h in
    rw q ((chunk_room d ws f.within i h).0, refl)
