-- What a level shows after one key above it, and after all keys of a chunk or a level.
use Prim.Native.Nat.{ℕ, zero, suc, ◌+◌, ◌-◌, ◌*◌, ◌/◌, ◌%◌, ◌^◌, ◌≤◌, ◌<◌}
use mathlib.Core.Path.{◌≡◌, refl, sym, ap, ◌∙◌}
use mathlib.Core.Bool.{Bool}
use mathlib.Core.List.{List, [], ◌∷◌, ◌++◌, map-append, append-nil, append_assoc}
use native.Mathlib.Numerals.{add-one}
use native.Mathlib.Omega.{arith}
use lib.Bits.{bit_or}
use lib.Dec.{ltb}
use lib.Pow.{pow_pos}
use lib.ListN.{length, get_or, take, drop, set, length-drop}
use lib.Seq.{get_or-set_same, get_or-set_other, get_or-drop}
use Rattle.slices.specs.Ranks.{among}
use Rattle.levels.specs.Basics.{is_some}
use Rattle.levels.specs.Record.{Rec}
use Rattle.levels.specs.Rising.{Rising, Below}
use Rattle.words.specs.Stores.{word, slots_at, keys_of}
use Rattle.words.proofs.Ranks.{keys_slots, found_is}
use Rattle.chunks.specs.declared.Chunk.{Chunk}
use Rattle.chunks.specs.Chunks.{chunk_recs}
use Rattle.directory.specs.declared.Directory.{Directory}
use Rattle.directory.specs.Directory.{Formed, records_from, records_of, chunk_at}
use Rattle.directory.proofs.Laws.{chunk_room}
use Rattle.search.specs.Search.{Sought}
use Rattle.search.proofs.Laws.{span_before, span_after, sought_find}
use Rattle.shares.specs.Shares.{hide}
use Rattle.shares.specs.Shadow.{bit_if, known_in, number, shadow_from, shadow, Asked, Begun, Ended}
use Rattle.shares.proofs.Shares.{hide_nil, hide_append, hide_parts, hide_below, hide_above}
use Rattle.shares.proofs.Bits.{half_or, slots_or, number_cut, number_some, shift_exact, row_more, gather_more}
use Rattle.shares.proofs.Rows.{shadow_split, shadow_more, shadow_agree}
use Rattle.shares.proofs.Seating.{ended_begun, asked_of}

-- what a chunk shows by its word
abbrev pub chunk_shadow : List ℕ → Directory → ℕ → ℕ → List Rec
chunk_shadow ws d g i = slots_at ws (g / 2) (chunk_at ws d i).keys (chunk_at ws d i).pays (chunk_at ws d i).count

-- order hangs on the keys alone, not on the marks: below a key
slots_below : (x : ℕ) (ws : List ℕ) (m m' k v n : ℕ) (rs ss : List Rec) → (Below x rs → Below x ss) → Below x (slots_at ws m k v n ++ rs) → Below x (slots_at ws m' k v n ++ ss)
unfolding slots_at
slots_below x ws m m' k v zero rs ss f h = f h
slots_below x ws m m' k v (suc n) rs ss f h = (h.0, slots_below x ws (m / 2) (m' / 2) (suc k) (suc v) n rs ss f h.1)

shadow_below : (x : ℕ) (ws : List ℕ) (d : Directory) (gone : List ℕ) (i n : ℕ) → Below x (records_from ws d i n) → Below x (shadow_from ws d gone i n)
unfolding records_from shadow_from
shadow_below x ws d gone i zero h = h
shadow_below x ws d gone i (suc n) h =
    slots_below x ws (chunk_at ws d i).marks (get_or gone i 0 / 2) (chunk_at ws d i).keys (chunk_at ws d i).pays (chunk_at ws d i).count (records_from ws d (suc i) n) (shadow_from ws d gone (suc i) n)
    (λ q. shadow_below x ws d gone (suc i) n q) h

-- and rising
slots_rising : (low : ℕ) (ws : List ℕ) (m m' k v n : ℕ) (rs ss : List Rec) → ((j : ℕ) → Rising j rs → Rising j ss) → Rising low (slots_at ws m k v n ++ rs) → Rising low (slots_at ws m' k v n ++ ss)
unfolding slots_at
slots_rising low ws m m' k v zero rs ss f h = f low h
slots_rising low ws m m' k v (suc n) rs ss f h = (h.0, slots_rising (suc (word ws k)) ws (m / 2) (m' / 2) (suc k) (suc v) n rs ss f h.1)

shadow_rising : (low : ℕ) (ws : List ℕ) (d : Directory) (gone : List ℕ) (i n : ℕ) → Rising low (records_from ws d i n) → Rising low (shadow_from ws d gone i n)
unfolding records_from shadow_from
shadow_rising low ws d gone i zero h = h
shadow_rising low ws d gone i (suc n) h =
    slots_rising low ws (chunk_at ws d i).marks (get_or gone i 0 / 2) (chunk_at ws d i).keys (chunk_at ws d i).pays (chunk_at ws d i).count (records_from ws d (suc i) n) (shadow_from ws d gone (suc i) n)
    (λ j q. shadow_rising j ws d gone (suc i) n q) h

-- words that agree show the same
shadow_same : (ws : List ℕ) (d : Directory) (gone gone' : List ℕ) (i n : ℕ) → ((j : ℕ) → i ≤ j → j < i + n → get_or gone j 0 ≡ get_or gone' j 0) → shadow_from ws d gone i n ≡ shadow_from ws d gone' i n
shadow_same ws d gone gone' i n h = shadow_agree ws d gone gone' i n (λ j a b. ap (λ (g : ℕ). chunk_shadow ws d g j) (h j a b))

-- a level at one of its chunks: those before it, what it shows, those after it
pub shadow_cut : (ws : List ℕ) (d : Directory) (gone : List ℕ) (p : ℕ) → p < d.chunks
    → shadow ws d gone ≡ shadow_from ws d gone 0 p ++ (chunk_shadow ws d (get_or gone p 0) p ++ shadow_from ws d gone (p + 1) (d.chunks - (p + 1)))
unfolding shadow_from
shadow_cut ws d gone p h =
    let e : d.chunks ≡ p + suc (d.chunks - (p + 1)) = omega arith in
    let z : 0 + p ≡ p = omega arith in
    ap (shadow_from ws d gone 0) e ∙ rw (z, ← add-one p) at (shadow_split ws d gone 0 p (suc (d.chunks - (p + 1))))

-- and with the word of that chunk changed
pub shadow_set : (ws : List ℕ) (d : Directory) (gone : List ℕ) (p w : ℕ) → p < d.chunks → p < length gone
    → shadow ws d (set gone p w) ≡ shadow_from ws d gone 0 p ++ (chunk_shadow ws d w p ++ shadow_from ws d gone (p + 1) (d.chunks - (p + 1)))
shadow_set ws d gone p w h l =
    let e = get_or-set_same gone p w 0 l in
    let b = shadow_same ws d (set gone p w) gone 0 p (λ j x y. get_or-set_other gone p j w 0 (λ q. omega arith)) in
    let a = shadow_same ws d (set gone p w) gone (p + 1) (d.chunks - (p + 1)) (λ j x y. get_or-set_other gone p j w 0 (λ q. omega arith)) in
    rw (e, b, a) at (shadow_cut ws d (set gone p w) p h)

-- one key of a level above: the chunk that can have it gets a bit where it stands
pub hide_one : (ws : List ℕ) (d : Directory) (gone : List ℕ) (x p : ℕ) → Formed d ws → Sought ws d x p → p < length gone
    → shadow ws d (set gone p (bit_or (get_or gone p 0) (2 * number (known_in (x ∷ []) (take d.width (drop (chunk_at ws d p).keys ws)))))) ≡ hide (x ∷ []) (shadow ws d gone)
hide_one ws d gone x p f s l =
    let q = s.inside in
    let z : p - 0 ≡ p = omega arith in
    let b = hide_below x (shadow_from ws d gone 0 p) (shadow_below x ws d gone 0 p (rw z at (span_before ws d f x p s))) in
    let a = hide_above x (shadow_from ws d gone (p + 1) (d.chunks - (p + 1))) (shadow_rising (suc x) ws d gone (p + 1) (d.chunks - (p + 1)) (span_after ws d f x p s)) in
    let bits = number (known_in (x ∷ []) (take d.width (drop (chunk_at ws d p).keys ws))) in
    let o = slots_or ws (x ∷ []) (get_or gone p 0 / 2) (chunk_at ws d p).keys (chunk_at ws d p).pays (chunk_at ws d p).count d.width (f.counts p q).1 (chunk_room d ws f.within p q).0 in
    shadow_set ws d gone p (bit_or (get_or gone p 0) (2 * bits)) q l
    ∙ rw (half_or (get_or gone p 0) bits, o)
    (sym (ap (hide (x ∷ [])) (shadow_cut ws d gone p q) ∙ rw (hide_parts, hide_parts, a, b)))

-- one more key of a row of words
pub take_more : (ws : List ℕ) (at l : ℕ) → at + l < length ws → take (l + 1) (drop at ws) ≡ take l (drop at ws) ++ (word ws (at + l) ∷ [])
take_more ws at l h = rw (row_more (drop at ws) l (rw length-drop (omega arith)), get_or-drop at ws l 0)

-- a turn over the keys of a chunk above
pub hide_turn : (ws : List ℕ) (d : Directory) (gone gone₀ : List ℕ) (at l p start r : ℕ) → Formed d ws → Sought ws d (word ws (at + l)) p → p < length gone → at + l < length ws
    → start ≡ (chunk_at ws d p).keys → r ≡ 2 * number (known_in (word ws (at + l) ∷ []) (take d.width (drop start ws)))
    → shadow ws d gone ≡ hide (take l (drop at ws)) (shadow ws d gone₀) → shadow ws d (set gone p (bit_or (get_or gone p 0) r)) ≡ hide (take (l + 1) (drop at ws)) (shadow ws d gone₀)
hide_turn ws d gone gone₀ at l p start r f s n h e q i =
    let one = hide_one ws d gone (word ws (at + l)) p f s n in
    rw (q, e, take_more ws at l h, hide_append) (one ∙ ap (hide (word ws (at + l) ∷ [])) i)

-- The keys of the chunks of a level above from chunk i on are to be hidden yet, where all of its keys are to be hidden at last.
abbrev pub Left : List ℕ → Directory → Directory → List ℕ → List ℕ → ℕ → Type 0
Left ws up low gone₀ gone i = hide (keys_of (records_from ws up i (up.chunks - i))) (shadow ws low gone) ≡ hide (keys_of (records_of ws up)) (shadow ws low gone₀)

module _ (ws : List ℕ) (up low : Directory) (gone₀ : List ℕ) where
  pub left_start : Left ws up low gone₀ gone₀ 0
  left_start = let e : up.chunks - 0 ≡ up.chunks = omega arith in rw e

  pub left_turn : (gone gone' : List ℕ) (i : ℕ) (c : Chunk) → i < up.chunks → c ≡ chunk_at ws up i → shadow ws low gone' ≡ hide (keys_of (chunk_recs ws c)) (shadow ws low gone) → Left ws up low gone₀ gone i → Left ws up low gone₀ gone' (i + 1)
  unfolding records_from
  left_turn gone gone' i c h e s l =
      let n : up.chunks - i ≡ suc (up.chunks - suc i) = omega arith in
      let k = map-append (λ (r : Rec). r.key) (chunk_recs ws (chunk_at ws up i)) (records_from ws up (suc i) (up.chunks - suc i)) in
      let q = rw (n, k, hide_append) at l in
      rw (s, e, add-one i) q

  pub left_end : (gone : List ℕ) (i : ℕ) → up.chunks ≤ i → Left ws up low gone₀ gone i → shadow ws low gone ≡ hide (keys_of (records_of ws up)) (shadow ws low gone₀)
  unfolding records_from
  left_end gone i h l = let n : up.chunks - i ≡ 0 = omega arith in sym (hide_nil _) ∙ rw n at l

-- the search for the keys of a level's chunks begins at the first chunk, and goes on where that for the chunk before ended
pub begun_first : (ws : List ℕ) (d : Directory) (c : Chunk) → 1 ≤ d.chunks → Begun ws d 0 c
begun_first ws d c h = record { inside = h; starts = λ q. omega arith }

pub begun_next : (ws : List ℕ) (d of : Directory) (i t : ℕ) (c : Chunk) → Formed of ws → c ≡ chunk_at ws of i → Ended ws d t c → i + 1 < of.chunks → Begun ws d t (chunk_at ws of (i + 1))
begun_next ws d of i t c f e q h = rw (add-one i) (ended_begun ws d of i t f (omega arith) (rw e at q))

-- the slots of a chunk that have a key, cut off at its count: some do if the chunk has it
pub has_is : (ws : List ℕ) (c : Chunk) (width x found : ℕ) → Asked ws c width → found ≡ 2 * number (known_in (x ∷ []) (take width (drop c.keys ws)))
    → ltb 0 (found % (2 * 2 ^ c.count % 2 ^ 32)) ≡ among x (keys_of (chunk_recs ws c))
has_is ws c width x found a e =
    let r : c.keys + c.count ≤ length ws = omega (arith, a.room, a.most) in
    let l : width ≤ length (drop c.keys ws) = rw length-drop (omega (arith, a.room)) in
    rw (shift_exact c.count (omega (arith, a.most, a.width_high)), e, number_cut (x ∷ []) (drop c.keys ws) c.count width a.most l, keys_slots ws c.marks c.keys c.pays c.count r)
    (number_some x (take c.count (drop c.keys ws)))

-- a chunk's key is one of a level's keys exactly if the chunk of the level that can have it has it
pub sought_among : (ws : List ℕ) (d : Directory) (x p : ℕ) (b : Chunk) → Formed d ws → Sought ws d x p → b ≡ chunk_at ws d p → among x (keys_of (chunk_recs ws b)) ≡ among x (keys_of (records_of ws d))
sought_among ws d x p b f s e = rw e (found_is x (chunk_recs ws (chunk_at ws d p)) ∙ ap is_some (sought_find ws d f x p s) ∙ sym (found_is x (records_of ws d)))

pub used_some : (k : ℕ) → k ≤ 16 → 0 < 2 * 2 ^ k % 2 ^ 32
used_some k h = rw (shift_exact k h) (omega (arith, pow_pos k))

-- no keys, no bits
pub no_bits : (xs : List ℕ) → 0 ≡ 2 * number (known_in xs [])
unfolding known_in number
no_bits xs = refl

-- a turn over the keys of a chunk below: its bit is set if the level above has the key
pub meet_turn : (ws : List ℕ) (up : Directory) (at l p bits r : ℕ) (h : Bool) (b : Chunk) → Formed up ws → Sought ws up (word ws (at + l)) p → b ≡ chunk_at ws up p → at + l < length ws → l ≤ 16
    → h ≡ among (word ws (at + l)) (keys_of (chunk_recs ws b)) → r ≡ bit_if h (2 * 2 ^ l % 2 ^ 32) → bits ≡ 2 * number (known_in (keys_of (records_of ws up)) (take l (drop at ws)))
    → bit_or bits r ≡ 2 * number (known_in (keys_of (records_of ws up)) (take (l + 1) (drop at ws)))
meet_turn ws up at l p bits r h b f s e m n g q i =
    rw (q, i, shift_exact l n, g, sought_among ws up (word ws (at + l)) p b f s e, ← get_or-drop at ws l 0)
    (gather_more (keys_of (records_of ws up)) (drop at ws) l (rw length-drop (omega arith)))

-- The chunks of a level before chunk i are hidden under these keys, those from it on are not yet.
abbrev pub Half : List ℕ → Directory → List ℕ → List ℕ → List ℕ → ℕ → Type 0
Half ws low ks gone₀ gone i = shadow_from ws low gone 0 i ++ hide ks (shadow_from ws low gone i (low.chunks - i)) ≡ hide ks (shadow ws low gone₀)

module _ (ws : List ℕ) (low : Directory) (ks gone₀ : List ℕ) where
  pub half_start : Half ws low ks gone₀ gone₀ 0
  unfolding shadow_from
  half_start = let e : low.chunks - 0 ≡ low.chunks = omega arith in rw e

  pub half_turn : (gone : List ℕ) (i w : ℕ) → i < low.chunks → i < length gone → chunk_shadow ws low w i ≡ hide ks (chunk_shadow ws low (get_or gone i 0) i) → Half ws low ks gone₀ gone i → Half ws low ks gone₀ (set gone i w) (i + 1)
  unfolding shadow_from
  half_turn gone i w h l e q =
      let n : low.chunks - i ≡ suc (low.chunks - (i + 1)) = omega arith in
      let s = get_or-set_same gone i w 0 l in
      let b = shadow_same ws low (set gone i w) gone 0 i (λ j x y. get_or-set_other gone i j w 0 (λ z. omega arith)) in
      let a = shadow_same ws low (set gone i w) gone (i + 1) (low.chunks - (i + 1)) (λ j x y. get_or-set_other gone i j w 0 (λ z. omega arith)) in
      let p = rw (n, ← add-one i, hide_parts) at q in
      rw (shadow_more ws low (set gone i w) i, b, s, a, e, append_assoc) p

  pub half_end : (gone : List ℕ) (i : ℕ) → i ≤ low.chunks → low.chunks ≤ i → Half ws low ks gone₀ gone i → shadow ws low gone ≡ hide ks (shadow ws low gone₀)
  unfolding shadow_from hide
  half_end gone i h l q = let n : low.chunks - i ≡ 0 = omega arith in let e : i ≡ low.chunks = omega arith in rw (n, e, append-nil) at q

-- the word of a chunk of which a level above has some keys
pub meet_word : (ws : List ℕ) (low : Directory) (ks : List ℕ) (i g : ℕ) (c : Chunk) → Formed low ws → i < low.chunks → c ≡ chunk_at ws low i
    → chunk_shadow ws low (bit_or g (2 * number (known_in ks (keys_of (chunk_recs ws c))))) i ≡ hide ks (chunk_shadow ws low g i)
meet_word ws low ks i g c f h e =
    let a = asked_of ws low i f h in
    let r : (chunk_at ws low i).keys + (chunk_at ws low i).count ≤ length ws = omega (arith, a.room, a.most) in
    rw (e, keys_slots ws (chunk_at ws low i).marks (chunk_at ws low i).keys (chunk_at ws low i).pays (chunk_at ws low i).count r, half_or)
    (slots_or ws ks (g / 2) (chunk_at ws low i).keys (chunk_at ws low i).pays (chunk_at ws low i).count (chunk_at ws low i).count (omega arith) r)
