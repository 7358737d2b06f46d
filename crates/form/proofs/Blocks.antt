-- Levels on flash: the chunks that the code goes over are the listed blocks, and its pass over a level is document 01's clauses for that level.
use Prim.Native.Nat.{ℕ, zero, suc, ◌+◌, ◌-◌, ◌/◌, ◌^◌, ◌≤◌, ◌<◌}
use mathlib.Core.Path.{◌≡◌, sym, ap, ◌∙◌, refl}
use mathlib.Core.Bool.{Bool, true, false, not, ◌&&◌, ◌||◌, and-eq-true_iff, not-not}
use mathlib.Core.Logic.{dite}
use mathlib.Core.List.{List, [], ◌∷◌, map}
use native.Mathlib.Decide.{dec_lt}
use native.Mathlib.Omega.{arith}
use borrow.Author.Tests.{leb-true, le-leb, lt-leb, lt-ltb, le-ltb}
use lib.Dec.{leb, ltb, eqb}
use lib.ListN.{length, drop}
use Rattle.geometry.specs.Geometry.{within, block_width}
use Rattle.levels.specs.Basics.{all, ceil_div}
use Rattle.levels.specs.Record.{Rec, Block, Level, size, records, rising, has_tombstone, clean_tombstones}
use Rattle.levels.specs.Waste.{pair_rule, wasteful, needs_compact}
use Rattle.levels.proofs.Every.{all_joined}
use Rattle.words.specs.Stores.{word, slots_at, count_at, listed_at, record_count, mark_word_at, block_slots, block_at, level_at}
use Rattle.words.specs.Form.{blank}
use Rattle.chunks.specs.declared.Chunk.{Chunk}
use Rattle.chunks.specs.Chunks.{zeros_at, chunk_recs}
use Rattle.levels.proofs.Basics.{and_left, and_right}
use Rattle.levels.proofs.Laid.{has_append}
use Rattle.levels.proofs.Each.{all_each_at}
use Rattle.words.proofs.Slots.{slots_take}
use Rattle.words.proofs.Blocks.{block_size}
use Rattle.words.proofs.Lists.{level_length}
use Rattle.directory.specs.Directory.{block_of, chunk_at, records_from, records_of, kept_of, lean_level, level_formed}
use Rattle.directory.proofs.Laws.{tidy_chunk, tidy_from, formed_is, kept_count, pass_start, pass_end_listed}
use Rattle.form.specs.Form.{level_of}
use Rattle.form.proofs.Tests.{test_same}
use Rattle.form.proofs.Parts.{words_from, Listed, listed_words}
use Rattle.form.proofs.Unused.{unused_is, unmarked_is}
use Rattle.layout.specs.Layouts.{list_start, place_start}
use Rattle.layout.specs.declared.Layout.{Layout}

-- the block at place p, as the code reads it
abbrev pub place_chunk : Layout → List ℕ → ℕ → Chunk
place_chunk z ws p = block_of ws z.geo.b (place_start z p)

-- the tests of document 01's clauses for one listed place
unfoldable pub block_filled : Layout → List ℕ → ℕ → Bool
block_filled z ws p = within 1 z.geo.b (record_count z ws p)

abbrev pub block_unused : Layout → List ℕ → ℕ → Bool
block_unused z ws p = all blank (drop (record_count z ws p) (block_slots z ws p)) && ltb (mark_word_at z ws p) (2 ^ z.geo.b)

-- and for one level
abbrev pub filled_at : Layout → List ℕ → ℕ → Bool
filled_at z ws i = all (block_filled z ws) (listed_at z ws i)

abbrev pub pairs_at : Layout → List ℕ → ℕ → Bool
pairs_at z ws i = pair_rule z.geo.b (level_at z ws i)

abbrev pub unmarked_at : Layout → List ℕ → ℕ → Bool
unmarked_at z ws i = not (eqb i z.geo.h && has_tombstone (records (level_at z ws i)))

abbrev pub unused_at : Layout → List ℕ → ℕ → Bool
unused_at z ws i = all (block_unused z ws) (listed_at z ws i)

abbrev pub clean_at : Layout → List ℕ → ℕ → Bool
clean_at z ws i = clean_tombstones (records (level_at z ws i))

abbrev pub rising_at : Layout → List ℕ → ℕ → Bool
rising_at z ws i = rising 0 (records (level_at z ws i))

abbrev pub lean_at : Layout → List ℕ → ℕ → Bool
lean_at z ws i = not (needs_compact z.geo.b (level_at z ws i))

abbrev pub level_kept : Layout → List ℕ → ℕ → Bool
level_kept z ws i = filled_at z ws i && ((pairs_at z ws i && (unmarked_at z ws i && (unused_at z ws i && clean_at z ws i))) && (rising_at z ws i && lean_at z ws i))

-- the pair rule for blocks after one of n records
unfoldable pairs_after : ℕ → ℕ → Level → Bool
pairs_after b n [] = true
pairs_after b n (x ∷ xs) = ltb b (n + size x) && pairs_after b (size x) xs

pairs_first : (b : ℕ) (x : Block) (xs : Level) → pair_rule b (x ∷ xs) ≡ pairs_after b (size x) xs
unfolding pairs_after
pairs_first b x [] = refl
pairs_first b x (y ∷ ys) = rw (pairs_first b y ys)

not_leb : (a b : ℕ) → not (leb a b) ≡ ltb b a
not_leb a b = dite (dec_lt b a) (λ y. rw (lt-leb a b y, lt-ltb b a y)) (λ n. let l : a ≤ b = omega arith in rw (le-leb a b l, le-ltb b a l))

module _ (z : Layout) (ws : List ℕ) where
  -- the records of a block that has no more than B
  block_recs : (p : ℕ) → record_count z ws p ≤ z.geo.b → (block_at z ws p).recs ≡ chunk_recs ws (place_chunk z ws p)
  unfolding block_at block_slots
  block_recs p h = slots_take ws (mark_word_at z ws p) (place_start z p + 2) (place_start z p + 2 + z.geo.b) (record_count z ws p) z.geo.b h

  filled_facts : (p : ℕ) → block_filled z ws p ≡ true → (1 ≤ record_count z ws p) × (record_count z ws p ≤ z.geo.b)
  unfolding block_filled
  filled_facts p e = let k = simp and-eq-true_iff at e in (leb-true _ _ k.0, leb-true _ _ k.1)

  -- before the first block stands one that is full, as the code has it
  pairs_start : (ps : List ℕ) → all (block_filled z ws) ps ≡ true → pairs_after z.geo.b z.geo.b (map (block_at z ws) ps) ≡ pair_rule z.geo.b (map (block_at z ws) ps)
  unfolding pairs_after
  pairs_start [] e = refl
  pairs_start (p ∷ ps) e =
      let k = simp and-eq-true_iff at e in
      let f = filled_facts p k.0 in
      let s = block_size z ws p f.1 in
      rw (lt-ltb z.geo.b (z.geo.b + size (block_at z ws p)) (let l = f.0 in omega arith), pairs_first z.geo.b (block_at z ws p) (map (block_at z ws) ps))

  module _ (i : ℕ) where
    -- listed chunk j of level i is the block at the j-th listed place
    pub level_chunk : (j : ℕ) → chunk_at ws (level_of z ws i) j ≡ place_chunk z ws (word ws (list_start z i + j))
    unfolding chunk_at level_of place_start block_width
    level_chunk j = refl

    level_from : (j n : ℕ) → all (block_filled z ws) (words_from ws (list_start z i + j) n) ≡ true
        → records_from ws (level_of z ws i) j n ≡ records (map (block_at z ws) (words_from ws (list_start z i + j) n))
    unfolding records_from
    level_from j zero e = refl
    level_from j (suc n) e =
        let k = simp and-eq-true_iff at e in
        let p = word ws (list_start z i + j) in
        let q : suc (list_start z i + j) ≡ list_start z i + suc j = omega arith in
        rw (level_chunk j, block_recs p (filled_facts p k.0).1, q, level_from (suc j) n (rw q at k.1))

    -- one block
    block_tidy : (p before : ℕ) → block_filled z ws p ≡ true
        → tidy_chunk ws (level_of z ws i) (place_chunk z ws p) before
        ≡ (ltb z.geo.b (before + record_count z ws p)
        && (not (eqb i z.geo.h && has_tombstone (chunk_recs ws (place_chunk z ws p))) && (block_unused z ws p && clean_tombstones (chunk_recs ws (place_chunk z ws p)))))
    unfolding kept_of level_of block_slots
    block_tidy p before e =
        let f = filled_facts p e in
        let n = record_count z ws p in
        let m = mark_word_at z ws p in
        let k = place_start z p + 2 in
        let v = place_start z p + 2 + z.geo.b in
        rw (le-leb 1 n f.0, le-leb n z.geo.b f.1, not_leb (before + n) z.geo.b, unused_is ws m k v n z.geo.b f.1)
        (go
        (eqb i z.geo.h) (ltb z.geo.b (before + n)) (eqb m 0) (zeros_at ws (k + n) (z.geo.b - n)) (zeros_at ws (v + n) (z.geo.b - n))
        (clean_tombstones (slots_at ws m k v n)) (eqb (m / 2 ^ n) 0) (has_tombstone (slots_at ws m k v n)) (unmarked_is ws m k v n))
      where
        go : (t a m x y c e s : Bool) → (not s && e) ≡ m → ((a && (not (t && not m) && (x && y))) && (c && e)) ≡ (a && (not (t && s) && ((x && (y && e)) && c)))
        go false a m x y c e s h = test_same ((a && (x && y)) && (c && e)) (a && ((x && (y && e)) && c))
            (λ q. let k = simp and-eq-true_iff at q in simp and-eq-true_iff (k.0.0, ((k.0.1.0, (k.0.1.1, k.1.1)), k.1.0)))
            (λ q. let k = simp and-eq-true_iff at q in simp and-eq-true_iff ((k.0, (k.1.0.0, k.1.0.1.0)), (k.1.1, k.1.0.1.1)))
        go true a m x y c e s h = rw (← h, not-not (not s && e)) (test_same ((a && ((not s && e) && (x && y))) && (c && e)) (a && (not s && ((x && (y && e)) && c)))
            (λ q. let k = simp and-eq-true_iff at q in simp and-eq-true_iff (k.0.0, (k.0.1.0.0, ((k.0.1.1.0, (k.0.1.1.1, k.1.1)), k.1.0))))
            (λ q. let k = simp and-eq-true_iff at q in simp and-eq-true_iff ((k.0, ((k.1.0, k.1.1.0.1.1), (k.1.1.0.0, k.1.1.0.1.0))), (k.1.1.1, k.1.1.0.1.1))))

    -- the blocks from the j-th on
    blocks_tidy : (j n before : ℕ) → all (block_filled z ws) (words_from ws (list_start z i + j) n) ≡ true
        → tidy_from ws (level_of z ws i) j n before
        ≡ (pairs_after z.geo.b before (map (block_at z ws) (words_from ws (list_start z i + j) n))
        && (not (eqb i z.geo.h && has_tombstone (records (map (block_at z ws) (words_from ws (list_start z i + j) n))))
        && (all (block_unused z ws) (words_from ws (list_start z i + j) n) && clean_tombstones (records (map (block_at z ws) (words_from ws (list_start z i + j) n))))))
    unfolding tidy_from pairs_after
    blocks_tidy j zero before e = go (eqb i z.geo.h)
      where
        go : (t : Bool) → true ≡ (not (t && false) && true)
        go true = refl
        go false = refl
    blocks_tidy j (suc n) before e =
        let k = simp and-eq-true_iff at e in
        let p = word ws (list_start z i + j) in
        let f = (filled_facts p k.0).1 in
        let q : suc (list_start z i + j) ≡ list_start z i + suc j = omega arith in
        let ps = words_from ws (list_start z i + suc j) n in
        let rs = chunk_recs ws (place_chunk z ws p) in
        let ss = records (map (block_at z ws) ps) in
        rw (
          level_chunk j,
          block_tidy p before k.0,
          q,
          blocks_tidy (suc j) n (record_count z ws p) (rw q at k.1),
          block_size z ws p f,
          block_recs p f,
          has_append rs ss,
          all_joined (λ (r : Rec). not r.tombstone || eqb r.pay 0) rs ss,
        )
        (go
        (eqb i z.geo.h) (ltb z.geo.b (before + record_count z ws p)) (has_tombstone rs) (block_unused z ws p) (clean_tombstones rs)
        (pairs_after z.geo.b (record_count z ws p) (map (block_at z ws) ps)) (has_tombstone ss) (all (block_unused z ws) ps) (clean_tombstones ss))
      where
        marks : (t s s' : Bool) → not (t && (s || s')) ≡ (not (t && s) && not (t && s'))
        marks false s s' = refl
        marks true true s' = refl
        marks true false s' = refl

        go : (t a s u c a' s' u' c' : Bool) → ((a && (not (t && s) && (u && c))) && (a' && (not (t && s') && (u' && c')))) ≡ ((a && a') && (not (t && (s || s')) && ((u && u') && (c && c'))))
        go t a s u c a' s' u' c' = rw (marks t s s') (four a (not (t && s)) u c a' (not (t && s')) u' c')
          where
            four : (a b u c a' b' u' c' : Bool) → ((a && (b && (u && c))) && (a' && (b' && (u' && c')))) ≡ ((a && a') && ((b && b') && ((u && u') && (c && c'))))
            four a b u c a' b' u' c' = test_same ((a && (b && (u && c))) && (a' && (b' && (u' && c')))) ((a && a') && ((b && b') && ((u && u') && (c && c'))))
                (λ q. let k = simp and-eq-true_iff at q in simp and-eq-true_iff ((k.0.0, k.1.0), ((k.0.1.0, k.1.1.0), ((k.0.1.1.0, k.1.1.1.0), (k.0.1.1.1, k.1.1.1.1)))))
                (λ q. let k = simp and-eq-true_iff at q in simp and-eq-true_iff ((k.0.0, (k.1.0.0, (k.1.1.0.0, k.1.1.1.0))), (k.0.1, (k.1.0.1, (k.1.1.0.1, k.1.1.1.1)))))

    chunk_filled : (j before : ℕ) → kept_of ws (level_of z ws i) (chunk_at ws (level_of z ws i) j) before ≡ true → block_filled z ws (word ws (list_start z i + j)) ≡ true
    unfolding block_filled chunk_at level_of place_start block_width
    chunk_filled j before e =
        let c = kept_count ws (level_of z ws i) (chunk_at ws (level_of z ws i) j) before e in simp and-eq-true_iff (le-leb _ _ c.0, le-leb _ _ c.1)

    -- what the code finds tidy has 1 to B records to a block
    tidy_filled : (j n before : ℕ) → tidy_from ws (level_of z ws i) j n before ≡ true → all (block_filled z ws) (words_from ws (list_start z i + j) n) ≡ true
    unfolding tidy_from
    tidy_filled j zero before e = refl
    tidy_filled j (suc n) before e =
        let k = simp and-eq-true_iff at e in
        let q : suc (list_start z i + j) ≡ list_start z i + suc j = omega arith in
        rw q (simp and-eq-true_iff (chunk_filled j before k.0.0, tidy_filled (suc j) n (chunk_at ws (level_of z ws i) j).count k.1))

    module _ (l : Listed z ws i) where
      -- the blocks of level i
      pub level_blocks : level_at z ws i ≡ map (block_at z ws) (words_from ws (list_start z i) (count_at z ws i))
      unfolding level_at
      level_blocks = ap (map (block_at z ws)) (listed_words z ws i l)

      list_first : list_start z i + 0 ≡ list_start z i
      list_first = omega arith

      filled_words : filled_at z ws i ≡ true → all (block_filled z ws) (words_from ws (list_start z i + 0) (count_at z ws i)) ≡ true
      filled_words e = rw (list_first, ← listed_words z ws i l) e

      listed_recs : filled_at z ws i ≡ true → records_from ws (level_of z ws i) 0 (count_at z ws i) ≡ records (level_at z ws i)
      listed_recs e = rw (level_blocks, ← list_first) (level_from 0 (count_at z ws i) (filled_words e))

      -- the records of level i
      pub level_recs : filled_at z ws i ≡ true → records_of ws (level_of z ws i) ≡ records (level_at z ws i)
      unfolding level_of
      level_recs e = listed_recs e

      -- the records of listed chunk j are those of the block at the j-th listed place
      pub chunk_recs_lem : filled_at z ws i ≡ true → (j : ℕ) → j < count_at z ws i → chunk_recs ws (chunk_at ws (level_of z ws i) j) ≡ (block_at z ws (word ws (list_start z i + j))).recs
      chunk_recs_lem e j h =
          let p = word ws (list_start z i + j) in
          let f = all_each_at (block_filled z ws) (word ws) (list_start z i) (count_at z ws i) (rw (listed_words z ws i l) at e) j h in
          rw (level_chunk j) (sym (block_recs p (filled_facts p f).1))

      level_tidy : filled_at z ws i ≡ true → tidy_from ws (level_of z ws i) 0 (count_at z ws i) z.geo.b ≡ (pairs_at z ws i && (unmarked_at z ws i && (unused_at z ws i && clean_at z ws i)))
      level_tidy e =
          rw (level_blocks, listed_words z ws i l, ← list_first)
          (blocks_tidy 0 (count_at z ws i) z.geo.b (filled_words e)
          ∙ rw (pairs_start (words_from ws (list_start z i + 0) (count_at z ws i)) (filled_words e)))

      level_lean : lean_level (level_of z ws i) (length (records (level_at z ws i))) ≡ lean_at z ws i
      unfolding level_of
      level_lean = rw (level_length z ws i l.inside l.fits)

      -- the pass starts as the directory has it
      level_pass : level_formed ws (level_of z ws i) ≡ (tidy_from ws (level_of z ws i) 0 (count_at z ws i) z.geo.b && (rising 0 (records_of ws (level_of z ws i)) && lean_level (level_of z ws i) (length (records_of ws (level_of z ws i)))))
      unfolding level_of
      level_pass = formed_is ws (level_of z ws i)

      -- the code's pass over a level is document 01's clauses for it
      pub level_is : level_formed ws (level_of z ws i) ≡ level_kept z ws i
      level_is =
          let rest : Bool = (pairs_at z ws i && (unmarked_at z ws i && (unused_at z ws i && clean_at z ws i))) && (rising_at z ws i && lean_at z ws i) in
          let same : filled_at z ws i ≡ true → level_formed ws (level_of z ws i) ≡ rest = λ f. level_pass ∙ rw (level_tidy f, level_recs f, level_lean) in
          test_same (level_formed ws (level_of z ws i)) (level_kept z ws i)
          (λ e.
          let k = simp and-eq-true_iff at (sym level_pass ∙ e) in
          let f : filled_at z ws i ≡ true = rw (listed_words z ws i l, ← list_first) (tidy_filled 0 (count_at z ws i) z.geo.b k.0) in
          rw f (sym (same f) ∙ e))
          (λ e. let f = and_left (filled_at z ws i) rest e in same f ∙ and_right (filled_at z ws i) rest e)

-- a level that lists no block
pub none_recs : (z : Layout) (ws : List ℕ) (i : ℕ) → count_at z ws i ≡ 0 → records_of ws (level_of z ws i) ≡ []
unfolding records_from level_of
none_recs z ws i e = rw e

none_lean : (b n : ℕ) → n ≡ 0 → not (wasteful b n 0) ≡ true
none_lean b n e = rw (e, le-ltb (ceil_div 0 b) 0 (omega arith))

pub none_formed : (z : Layout) (ws : List ℕ) (i : ℕ) → count_at z ws i ≡ 0 → level_formed ws (level_of z ws i) ≡ true
unfolding level_formed level_of
none_formed z ws i e =
    let d = level_of z ws i in
    sym (pass_start ws d (count_at z ws i)) ∙ pass_end_listed ws d (count_at z ws i) 0 0 z.geo.b 0 (omega arith) refl ∙ none_lean z.geo.b (count_at z ws i) e
