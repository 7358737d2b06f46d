-- What a search in a chunk finds, and where one in a level ends: at the only chunk that can have the key.
use Prim.Native.Nat.{ℕ, zero, suc, ◌+◌, ◌-◌, ◌/◌, ◌%◌, ◌^◌, ◌≤◌, ◌<◌}
use mathlib.Core.Path.{◌≡◌, refl, sym, ap, ◌∙◌}
use mathlib.Core.Logic.{dite}
use mathlib.Core.Option.{none, some}
use mathlib.Core.Bool.{Bool, true, false}
use mathlib.Core.List.{List, [], ◌∷◌, ◌++◌, append_assoc}
use native.Mathlib.Decide.{dec_lt}
use native.Mathlib.Numerals.{add-one}
use native.Mathlib.Omega.{arith}
use Rattle.std.specs.Prelude.{Result, Ok, Err}
use lib.Dec.{eqb}
use lib.ListN.{length, get_or, take, drop, length-drop}
use lib.Seq.{take_all, length-take-le, get_or-take, get_or-drop}
use Rattle.slices.specs.Ranks.{count_below, among, ranked, rank_of}
use Rattle.slices.specs.Ranks as numbers
use Rattle.levels.specs.Record.{Rec}
use Rattle.levels.specs.Map.{find}
use Rattle.levels.specs.Rising.{Rising, Below}
use Rattle.slices.proofs.Ranks.{rank_from}
use Rattle.levels.proofs.Rising.{rising_left, rising_right, below_append}
use Rattle.words.specs.Stores.{word, slots_at, keys_of}
use Rattle.chunks.specs.declared.Chunk.{Chunk}
use Rattle.chunks.specs.Chunks.{Inside, chunk_recs}
use Rattle.words.proofs.Slots.{slots_length, slot_at}
use Rattle.words.proofs.Ranks.{keys_rise_lem, keys_slots, found_record, found_none, records_before}
use Rattle.chunks.proofs.Slots.{slots_first}
use Rattle.directory.specs.declared.Directory.{Directory}
use Rattle.directory.specs.Directory.{Formed, records_from, records_of, chunk_at}
use Rattle.directory.proofs.Laws.{chunk_room}
use Rattle.search.specs.Search.{first_at, Sought}
use Rattle.search.proofs.Between.{find_between, rising_before, rising_after}

-- what a rank says: an entry that is there, or would stand there
abbrev ranked_at : Result ℕ ℕ → ℕ
ranked_at (Ok i) = i
ranked_at (Err i) = i

abbrev ranked_in : Result ℕ ℕ → Bool
ranked_in (Ok i) = true
ranked_in (Err i) = false

rank_is : (k : ℕ) (xs : List ℕ) → (ranked_in (rank_of k xs) ≡ among k xs) × (ranked_at (rank_of k xs) ≡ count_below k xs)
rank_is k xs = go (among k xs)
  where
    go : (t : Bool) → (ranked_in (ranked t (count_below k xs)) ≡ t) × (ranked_at (ranked t (count_below k xs)) ≡ count_below k xs)
    go true = (refl, refl)
    go false = (refl, refl)

module _ (k i : ℕ) (xs : List ℕ) where
  pub rank_ok : Ok i ≡ rank_of k xs → (among k xs ≡ true) × (i ≡ count_below k xs)
  rank_ok e = (sym (ap ranked_in e ∙ (rank_is k xs).0), ap ranked_at e ∙ (rank_is k xs).1)

  pub rank_err : Err i ≡ rank_of k xs → (among k xs ≡ false) × (i ≡ count_below k xs)
  rank_err e = (sym (ap ranked_in e ∙ (rank_is k xs).0), ap ranked_at e ∙ (rank_is k xs).1)

-- an interval of one: what was known of its end is known of what comes next
pub interval_end : (n k : ℕ) (key : ℕ → ℕ) (lo hi : ℕ) → lo < hi → hi ≤ lo + 1 → (hi < n → k < key hi) → lo + 1 < n → k < key (lo + 1)
interval_end n k key lo hi a b h = let e : hi ≡ lo + 1 = omega arith in rw e at h

-- record i of a chunk
abbrev pub slot_of : List ℕ → Chunk → ℕ → Rec
slot_of ws c i = record { key = word ws (c.keys + i); tombstone = eqb (c.marks / 2 ^ i % 2) 1; pay = word ws (c.pays + i) }

-- a chunk's keys, as the search in it reads them
abbrev pub chunk_keys : List ℕ → Chunk → List ℕ
chunk_keys ws c = take c.count (drop c.keys ws)

-- a key found in a chunk, and one that is not
module _ (ws : List ℕ) (c : Chunk) (n : Inside c ws) (h : Rising 0 (chunk_recs ws c)) where
  pub chunk_keys_lem : keys_of (chunk_recs ws c) ≡ chunk_keys ws c
  chunk_keys_lem = keys_slots ws c.marks c.keys c.pays c.count n.keys_end

  pub keys_rising : numbers.Rising 0 (chunk_keys ws c)
  keys_rising = rw (← chunk_keys_lem) (keys_rise_lem 0 (chunk_recs ws c) h)

  pub keys_long : length (chunk_keys ws c) ≡ c.count
  keys_long = length-take-le c.count (drop c.keys ws) (rw length-drop (let p = n.keys_end in omega arith))

  pub key_is : (i : ℕ) → i < c.count → get_or (chunk_keys ws c) i 0 ≡ word ws (c.keys + i)
  key_is i m = get_or-take c.count (drop c.keys ws) i 0 m ∙ get_or-drop c.keys ws i 0

  module _ (k : ℕ) where
    found_same : among k (keys_of (chunk_recs ws c)) ≡ among k (chunk_keys ws c)
    found_same = rw chunk_keys_lem

    pub chunk_absent : among k (chunk_keys ws c) ≡ false → find k (chunk_recs ws c) ≡ none
    chunk_absent f = found_none k (chunk_recs ws c) (found_same ∙ f)

    module _ (i : ℕ) (e : i ≡ count_below k (chunk_keys ws c)) where
      pub below_same : count_below k (keys_of (chunk_recs ws c)) ≡ i
      below_same = rw chunk_keys_lem (sym e)

      pub chunk_here : among k (chunk_keys ws c) ≡ true → (i < c.count) × (find k (chunk_recs ws c) ≡ some (slot_of ws c i))
      chunk_here f =
          let p = found_record k 0 (chunk_recs ws c) h (found_same ∙ f) in
          let q : i < c.count = rw (below_same, slots_length ws c.marks c.keys c.pays c.count) at p.0 in
          (q, p.1 ∙ rw (below_same, slot_at ws c.marks c.keys c.pays c.count i q))

-- chunks lo to hi of a level
abbrev pub span : List ℕ → Directory → ℕ → ℕ → List Rec
span ws d lo hi = records_from ws d lo (hi - lo)

records_split : (ws : List ℕ) (d : Directory) (i m n : ℕ) → records_from ws d i (m + n) ≡ records_from ws d i m ++ records_from ws d (i + m) n
unfolding records_from
records_split ws d i zero n = let a : 0 + n ≡ n = omega arith in let b : i + 0 ≡ i = omega arith in rw (a, b)
records_split ws d i (suc m) n =
    let a : suc m + n ≡ suc (m + n) = omega arith in
    let b : i + suc m ≡ suc i + m = omega arith in
    rw (a, b, records_split ws d (suc i) m n, append_assoc)

pub span_split : (ws : List ℕ) (d : Directory) (mid : ℕ) → mid ≤ d.chunks → records_of ws d ≡ span ws d 0 mid ++ span ws d mid d.chunks
span_split ws d mid h =
    let n : d.chunks ≡ mid - 0 + (d.chunks - mid) = omega arith in
    let q : 0 + (mid - 0) ≡ mid = omega arith in
    ap (records_from ws d 0) n ∙ rw q at (records_split ws d 0 (mid - 0) (d.chunks - mid))

span_first : (ws : List ℕ) (d : Directory) (i hi : ℕ) → i < hi → span ws d i hi ≡ chunk_recs ws (chunk_at ws d i) ++ span ws d (i + 1) hi
unfolding records_from
span_first ws d i hi h = let n : hi - i ≡ suc (hi - (i + 1)) = omega arith in rw (n, add-one i)

span_empty : (ws : List ℕ) (d : Directory) (lo hi : ℕ) → hi ≤ lo → span ws d lo hi ≡ []
unfolding records_from
span_empty ws d lo hi h = let p : hi - lo ≡ 0 = omega arith in rw p

-- the first record of a chunk, and those after it
abbrev pub first_of : List ℕ → Directory → ℕ → Rec
first_of ws d i = record { key = first_at ws d i; tombstone = eqb ((chunk_at ws d i).marks % 2) 1; pay = word ws (chunk_at ws d i).pays }

abbrev pub others_of : List ℕ → Directory → ℕ → List Rec
others_of ws d i = slots_at ws ((chunk_at ws d i).marks / 2) ((chunk_at ws d i).keys + 1) ((chunk_at ws d i).pays + 1) ((chunk_at ws d i).count - 1)

pub chunk_first : (ws : List ℕ) (d : Directory) (i : ℕ) → 1 ≤ (chunk_at ws d i).count → chunk_recs ws (chunk_at ws d i) ≡ first_of ws d i ∷ others_of ws d i
unfolding first_at
chunk_first ws d i h = slots_first ws (chunk_at ws d i).marks (chunk_at ws d i).keys (chunk_at ws d i).pays (chunk_at ws d i).count h

span_head : (ws : List ℕ) (d : Directory) (i hi : ℕ) → i < hi → 1 ≤ (chunk_at ws d i).count → span ws d i hi ≡ first_of ws d i ∷ (others_of ws d i ++ span ws d (i + 1) hi)
span_head ws d i hi h c = span_first ws d i hi h ∙ rw (chunk_first ws d i c)

-- a first key that was read is that of its chunk
pub first_read : (ws : List ℕ) (d : Directory) (i : ℕ) (c : Chunk) (x : ℕ) → x ≡ word ws c.keys → c ≡ chunk_at ws d i → x ≡ first_at ws d i
unfolding first_at
first_read ws d i c x e f = rw (← f) e

-- the interval of the search is one chunk
pub sought_one : (ws : List ℕ) (d : Directory) (k lo hi : ℕ) → lo < hi → hi ≤ lo + 1 → hi ≤ d.chunks → (1 ≤ lo → first_at ws d lo ≤ k) → (hi < d.chunks → k < first_at ws d hi) → Sought ws d k lo
sought_one ws d k lo hi a b c low high =
    record { inside = omega arith; starts = low; next_starts = interval_end d.chunks k (first_at ws d) lo hi a b high }

module _ (ws : List ℕ) (d : Directory) (f : Formed d ws) where
  -- a chunk of a formed level can be searched
  pub chunk_rising : (i : ℕ) → i < d.chunks → Rising 0 (chunk_recs ws (chunk_at ws d i))
  chunk_rising i h =
      let p : Rising 0 (span ws d 0 i ++ span ws d i d.chunks) = rw (← span_split ws d i (omega arith)) f.rises in
      let q : Rising 0 (chunk_recs ws (chunk_at ws d i) ++ span ws d (i + 1) d.chunks) = rw (span_first ws d i d.chunks h) at (rising_right 0 (span ws d 0 i) (span ws d i d.chunks) p) in
      rising_left 0 (chunk_recs ws (chunk_at ws d i)) (span ws d (i + 1) d.chunks) q

  pub chunk_ready : (i : ℕ) → i < d.chunks → (c : Chunk) → c ≡ chunk_at ws d i → Inside c ws × ((1 ≤ c.count) × ((c.count ≤ 16) × Rising 0 (chunk_recs ws c)))
  chunk_ready i h c e =
      let p = chunk_room d ws f.within i h in
      let n = f.counts i h in
      let b = f.within.width_high in
      rw e (record { keys_end = omega arith; pays_end = omega arith }, (n.0, (omega arith, chunk_rising i h)))

  pub rank_ready : (i : ℕ) → i < d.chunks → (c : Chunk) → c ≡ chunk_at ws d i → (c.keys + c.count ≤ length ws) × numbers.Rising 0 (chunk_keys ws c)
  rank_ready i h c e = let p = chunk_ready i h c e in (p.0.keys_end, keys_rising ws c p.0 p.1.1.1)

  -- the chunk that was sought: the chunks before it are below k, those after it above
  module _ (k r : ℕ) (s : Sought ws d k r) where
    pub level_cut : records_of ws d ≡ span ws d 0 r ++ (chunk_recs ws (chunk_at ws d r) ++ span ws d (r + 1) d.chunks)
    level_cut = span_split ws d r (let l = s.inside in omega arith) ∙ ap (λ (rs : List Rec). span ws d 0 r ++ rs) (span_first ws d r d.chunks s.inside)

    pub span_before : Below k (span ws d 0 r)
    span_before =
        dite (dec_lt 0 r)
        (λ y. rising_before k 0 (span ws d 0 r) (span ws d r d.chunks) (first_of ws d r) _ (span_head ws d r d.chunks s.inside (f.counts r s.inside).0) (rw (← span_split ws d r (let l = s.inside in omega arith)) f.rises) (s.starts y))
        (λ n. rw (span_empty ws d 0 r (omega arith)) tt)

    pub span_after : Rising (suc k) (span ws d (r + 1) d.chunks)
    span_after =
        dite (dec_lt (r + 1) d.chunks)
        (λ y. rising_after k 0 (span ws d (r + 1) d.chunks) (first_of ws d (r + 1)) _ (span_head ws d (r + 1) d.chunks y (f.counts (r + 1) y).0)
        (rising_right 0 (span ws d 0 (r + 1)) (span ws d (r + 1) d.chunks) (rw (← span_split ws d (r + 1) (omega arith)) f.rises)) (s.next_starts y))
        (λ n. rw (span_empty ws d (r + 1) d.chunks (omega arith)) tt)

    -- what it has for the key is what the level has
    pub sought_find : find k (chunk_recs ws (chunk_at ws d r)) ≡ find k (records_of ws d)
    sought_find = rw level_cut (sym (find_between k (span ws d 0 r) (chunk_recs ws (chunk_at ws d r)) (span ws d (r + 1) d.chunks) span_before span_after))

    -- and its rank there says where the level has it
    module _ (c : Chunk) (e : c ≡ chunk_at ws d r) where
      abbrev ready : Inside c ws × ((1 ≤ c.count) × ((c.count ≤ 16) × Rising 0 (chunk_recs ws c)))
      ready = chunk_ready r s.inside c e

      pub level_absent : (i : ℕ) → Err i ≡ rank_of k (chunk_keys ws c) → find k (records_of ws d) ≡ none
      level_absent i f = sym sought_find ∙ rw (← e) (chunk_absent ws c ready.0 ready.1.1.1 k (rank_err k i (chunk_keys ws c) f).0)

      pub level_here : (i : ℕ) → Ok i ≡ rank_of k (chunk_keys ws c) → (i < 16) × (c.pays + i < length ws) × (find k (records_of ws d) ≡ some (slot_of ws c i)) × (i < c.count)
      level_here i f =
          let o = rank_ok k i (chunk_keys ws c) f in
          let p = chunk_here ws c ready.0 ready.1.1.1 k i o.1 o.0 in
          (omega (arith, p.0, ready.1.1.0), omega (arith, p.0, ready.0.pays_end), sym sought_find ∙ rw (← e) p.1, p.0)

      module _ (i : ℕ) (q : i ≡ count_below k (chunk_keys ws c)) where
        -- or where it would stand
        records_below : Below k (take i (chunk_recs ws c))
        records_below = rw (below_same ws c ready.0 ready.1.1.1 k i q) at (records_before k 0 (chunk_recs ws c) ready.1.1.1)

        -- what stands before its rank is below it, and the record at its rank is not
        pub before_rank : Below k (span ws d 0 r ++ take i (chunk_recs ws c))
        before_rank = below_append k (span ws d 0 r) (take i (chunk_recs ws c)) span_before records_below

        pub at_rank : i < c.count → k ≤ word ws (c.keys + i)
        at_rank l =
            rw (← key_is ws c ready.0 ready.1.1.1 i l)
            (rank_from k 0 (chunk_keys ws c) i (keys_rising ws c ready.0 ready.1.1.1) (omega (arith, q)) (rw (keys_long ws c ready.0 ready.1.1.1) l))

        -- a rank that is the number of records: all are below it
        pub before_end : c.count ≤ i → Below k (span ws d 0 r ++ chunk_recs ws c)
        before_end l = rw (take_all i (chunk_recs ws c) (rw (slots_length ws c.marks c.keys c.pays c.count) l)) at before_rank

-- a level of no chunks has no key
pub empty_level : (ws : List ℕ) (d : Directory) (k : ℕ) → d.chunks < 1 → find k (records_of ws d) ≡ none
unfolding records_from find
empty_level ws d k h = let e : d.chunks ≡ 0 = omega arith in rw e
