-- A compaction under way: what the machine holds after some records, and that there is room for the next.
use Prim.Native.Nat.{ℕ, zero, suc, ◌+◌, ◌*◌, ◌≤◌, ◌<◌}
use mathlib.Core.Path.{◌≡◌, sym, ◌∙◌}
use mathlib.Core.Bool.{true, false}
use mathlib.Core.List.{List, [], ◌∷◌, ◌++◌, append_assoc, append-nil}
use native.Mathlib.Nat.{le_of_mul-le-mul_right}
use native.Mathlib.Omega.{arith}
use lib.Dec.{eqb}
use lib.ListN.{length, get_or, length-append}
use Rattle.levels.specs.Record.{Rec}
use Rattle.blocks.specs.declared.Offsets.{Offsets}
use Rattle.blocks.specs.Blocks.{Sized, SomeFree, buffer_of}
use Rattle.blocks.proofs.Laws.{free_found}
use Rattle.sides.specs.declared.Chunk.{Chunk}
use Rattle.sides.specs.declared.Head.{Head}
use Rattle.sides.specs.Sides.{block_chunk, head_at}
use Rattle.stream.specs.Machine.{Memory, gathered}
use Rattle.merging.specs.Contract.{count_marks}
use Rattle.merging.proofs.Blocks.{rec_at, recs_from, count_at}
use Rattle.merging.proofs.Relation.{Holds, start}
use Rattle.merging.proofs.Words.{sized_on}
use Rattle.merging.proofs.Frame.{Same, gather_kept, stored_agree, count_kept}
use Rattle.merging.proofs.Heads.{recs_length}
use Rattle.merging.proofs.Loads.{recs_none, recs_snoc}
use Rattle.merging.proofs.Outs.{gather_holds}
use Rattle.merging.proofs.Paid.{count_free, gather_spent}
use Rattle.merging.proofs.Steps.{Fit, gather_fit}
use Rattle.merging.proofs.Whole.{same_next}
use Rattle.compaction.specs.Machine.{records_gathered, chunk_gathered, Roomy, Gathering}
use Rattle.compaction.proofs.Packing.{nothing, kept, kept_snoc}
use Rattle.words.proofs.Slots.{mark_small}

-- memory a, after the records rs have been gathered from memory s on
pub record Going (z : Offsets) (s : Memory) (rs : List Rec) (a : Memory) : Type 0 where
  pub sized : Sized z a.words
  pub full : length a.out ≡ 4096
  pub cursor : a.st.cursor < z.p
  pub fit : Fit z.b (kept z.b rs nothing)
  pub holds : Holds z (start s) (kept z.b rs nothing) a
  pub same : Same z s a
  pub list : z.b * a.st.m + a.st.buf.n ≤ length rs
  pub places : z.b * a.st.writes + a.st.buf.n ≤ length rs
  pub marks : count_marks z.p a.used ≤ count_marks z.p s.used + a.st.writes

-- the record that a head shows
abbrev rec_of : Head → Rec
rec_of h = record { key = h.key; tombstone = eqb h.tombstone 1; pay = h.pay }

-- n blocks of at most B records are read, and there is a free place for each and one more
module _ (z : Offsets) (s : Memory) (n : ℕ) (few : n ≤ 2048) (free : count_marks z.p s.used + n < z.p) where
  module _ (rs : List Rec) (a : Memory) (k : Going z s rs a) (le : length rs ≤ z.b * n) where
    buffer_few : a.st.buf.n < z.b
    unfolding buffer_of
    buffer_few = rw k.holds.buf k.fit.few

    listed_few : a.st.m ≤ n
    listed_few = let l : a.st.m * z.b ≤ n * z.b = (let u = k.list in omega arith) in le_of_mul-le-mul_right l (let b = k.sized.b_low in omega arith)

    written_few : a.st.writes ≤ n
    written_few = let l : a.st.writes * z.b ≤ n * z.b = (let u = k.places in omega arith) in le_of_mul-le-mul_right l (let b = k.sized.b_low in omega arith)

    some_free : SomeFree a.used z.p
    some_free = count_free z.p a.used (let w = written_few in let m = k.marks in omega arith)

    -- there is room for a record and a block more
    pub roomy : Roomy z a
    unfolding buffer_of
    roomy =
        let f = buffer_few in
        let b = k.sized.b_high in
        let m = listed_few in
        let w = written_few in
        record {
          flushable = record { sized = k.sized; cursor = k.cursor; full = omega arith; room = omega arith; count = omega arith; free = some_free };
          gatherable = record { few = f; bits = rw k.holds.buf (mark_small (kept z.b rs nothing).buffer) };
        }

    -- one record more
    pub going_next : (h : Head) → h.tombstone < 2 → Going z s (rs ++ (rec_of h ∷ [])) (gathered z false a h)
    going_next h t =
        let o = kept z.b rs nothing in
        let f = k.fit.few in
        let b = k.sized.b_high in
        let bl = k.sized.b_low in
        let m = listed_few in
        let fl = k.full in
        let e = kept_snoc z.b rs (rec_of h) nothing in
        let l = length-append rs (rec_of h ∷ []) in
        let kp = gather_kept z false a h (free_found a.used z.p a.st.cursor k.cursor some_free) in
        let sp = gather_spent z a false h in
        record {
          sized = sized_on z a.words (gathered z false a h).words k.sized kp.length_words;
          full = kp.length_out ∙ k.full;
          cursor = kp.cursor k.cursor;
          fit = rw e (gather_fit z.b false (rec_of h) o k.fit);
          holds = rw e (gather_holds z false (start s) o a h (record { sized = k.sized; cursor = k.cursor; list = omega arith }) (omega arith) t k.holds);
          same = same_next z s a (gathered z false a h) k.same kp.same;
          list = (let u = k.list in let v = sp.list in omega arith);
          places = (let u = k.places in let v = sp.places in omega arith);
          marks = (let u = k.marks in let v = sp.marks in omega arith);
        }

  -- a block of s, whose place is in use: its words are as they were
  module _ (sized : Sized z s.words) (q : ℕ) (taken : get_or s.used q false ≡ true) (high : count_at z s.words q ≤ z.b) where
    abbrev chunk : Chunk
    chunk = block_chunk z s.words q

    record_same : (a : Memory) → Same z s a → (j : ℕ) → j < z.b → rec_at a.words chunk j ≡ rec_at s.words chunk j
    record_same a k j h = let g = stored_agree z s a sized k q taken in rw (g.marks, (g.recs j h).0, (g.recs j h).1)

    chunk_same : (a : Memory) → Same z s a → block_chunk z a.words q ≡ chunk
    chunk_same a k = (stored_agree z s a sized k q taken).is

    module _ (rs : List Rec) (a : Memory) (k : Going z s rs a) (le : length rs + count_at z s.words q ≤ z.b * n) where
      -- the n blocks have room for them
      records_low : (j : ℕ) → j ≤ count_at z s.words q → length (rs ++ recs_from s.words chunk 0 j) ≤ z.b * n
      records_low j h = rw (length-append rs (recs_from s.words chunk 0 j), recs_length s.words chunk 0 j) (omega arith)

      -- its first j records
      records_going : (j : ℕ) → j ≤ count_at z s.words q → Going z s (rs ++ recs_from s.words chunk 0 j) (records_gathered z chunk j a)
      unfolding records_gathered
      records_going zero h = rw (recs_none s.words chunk 0, append-nil rs) k
      records_going (suc j) h =
          let b = records_gathered z chunk j a in
          let i = records_going j (omega arith) in
          let ts = rs ++ recs_from s.words chunk 0 j in
          let w : 0 + j ≡ j = omega arith in
          let e : rs ++ recs_from s.words chunk 0 (suc j) ≡ ts ++ (rec_at b.words chunk j ∷ []) =
          (rw (recs_snoc s.words chunk 0 j, w, record_same b i.same j (omega arith)) (sym (append_assoc rs (recs_from s.words chunk 0 j) (rec_at s.words chunk j ∷ [])))) in
          rw e (going_next ts b i (records_low j (omega arith)) (head_at b.words chunk j) (omega arith))

      -- all of them, as the machine finds the block
      pub chunk_going : Going z s (rs ++ recs_from s.words chunk 0 (count_at z s.words q)) (chunk_gathered z q a)
      chunk_going = rw (chunk_same a k.same, count_kept z s a sized k.same q taken) (records_going (count_at z s.words q) (omega arith))

      -- there is room at each of them
      pub gathering : q < z.p → Gathering z q a
      gathering p =
          let c = count_kept z s a sized k.same q taken in
          record {
            sized = k.sized;
            place = p;
            high = rw c high;
            steps = λ j h.
                let l : j < count_at z s.words q = rw (← c) h in
                rw (chunk_same a k.same) (roomy (rs ++ recs_from s.words chunk 0 j) (records_gathered z chunk j a) (records_going j (omega arith)) (records_low j (omega arith)));
          }
