-- The whole compaction: what it asks of the store gives all that its steps ask, and what it leaves is what levels' compact and settle say.
use Prim.Native.Nat.{ℕ, zero, suc, ◌+◌, ◌*◌, ◌≤◌, ◌<◌}
use mathlib.Core.Path.{◌≡◌, sym, ap, ◌∙◌, refl}
use mathlib.Core.Bool.{Bool, false}
use mathlib.Core.List.{List, [], map}
use native.Mathlib.Nat.{le_refl, mul-le-mul_left}
use native.Mathlib.Omega.{arith}
use lib.ListN.{length, get_or, length-append}
use Rattle.levels.specs.Record.{Level}
use Rattle.levels.specs.Waste.{compact}
use Rattle.levels.specs.Place.{Allocation, settle}
use Rattle.levels.proofs.Compaction.{compact_well}
use Rattle.words.specs.Stores.{block_at}
use Rattle.blocks.specs.declared.Offsets.{Offsets}
use Rattle.blocks.specs.Blocks.{Sized, offsets_of, Marks}
use Rattle.blocks.proofs.Laws.{sized_of, start_place}
use Rattle.sides.specs.Sides.{last_size, block_chunk}
use Rattle.stream.specs.Machine.{Memory, Flushable, begin_at, flushed}
use Rattle.stream.proofs.Laws.{flushed_m}
use Rattle.merging.proofs.Blocks.{recs_from, count_at, blocks, lay_all, lay_done}
use Rattle.merging.proofs.Relation.{flash_of, start}
use Rattle.merging.specs.Contract.{Leaves}
use Rattle.merging.proofs.Heads.{recs_length}
use Rattle.merging.proofs.Outs.{flush_holds}
use Rattle.merging.proofs.Close.{empty_is, flushed_out}
use Rattle.merging.proofs.Begin.{lay_done_lem}
use Rattle.merging.proofs.Leaving.{leaves_of}
use Rattle.compaction.specs.Machine.{blocks_gathered, Gathering, Compactable}
use Rattle.compaction.proofs.Packing.{nothing, kept, kept_packed, sized_fit}
use Rattle.compaction.proofs.Going.{Going, roomy, chunk_going, gathering}
use Rattle.compaction.proofs.Counting.{listed_records, no_records, records_snoc, all_blocks_lem}
use Rattle.layout.specs.declared.Layout.{Layout}

module _ (z : Layout) (ws : List ℕ) (used : List Bool) (out list : List ℕ) (cursor : ℕ) (k : Compactable z ws used list cursor) (out_long : length out ≡ 4096) where
  abbrev y : Offsets
  y = offsets_of z

  -- the memory that a compaction starts from
  abbrev pub begins : Memory
  begins = record { words = ws; used = used; out = out; st = begin_at cursor }

  -- the level that it compacts
  abbrev level : Level
  level = map (block_at z ws) list

  abbrev n : ℕ
  n = length list

  sized : Sized y ws
  sized = sized_of z ws (record { proper = k.proper; words = k.words })

  high : (i : ℕ) → i < n → count_at y ws (get_or list i 0) ≤ z.geo.b
  high i h = rw (start_place z (get_or list i 0)) (k.blocks i h).high

  first_going : Going y begins [] begins
  unfolding kept lay_done last_size
  first_going =
      let b = sized.b_low in
      record {
        sized = sized;
        full = out_long;
        cursor = k.cursor_low;
        fit = record { few = omega arith; done = tt };
        holds = record { buf = empty_is; flash = refl; last = refl };
        same = record { words = λ q u j h. refl; low = λ i h. refl; used = λ q u. u };
        list = omega arith;
        places = omega arith;
        marks = omega arith;
      }

  abbrev after : ℕ → Memory
  after i = blocks_gathered y list i begins

  -- the blocks so far have at most B records each
  pub record Gone (i : ℕ) : Type 0 where
    pub going : Going y begins (listed_records y ws list i) (after i)
    pub most : length (listed_records y ws list i) ≤ z.geo.b * i

  -- the next block is within the n that places are free for
  next_low_lem : (i : ℕ) → i < n → Gone i → length (listed_records y ws list i) + count_at y ws (get_or list i 0) ≤ z.geo.b * n
  next_low_lem i h p = let m = mul-le-mul_left {m = suc i} {n = n} z.geo.b h in let l = high i h in let u = p.most in omega arith

  gone : (i : ℕ) → i ≤ n → Gone i
  unfolding blocks_gathered
  gone zero h = record { going = rw (no_records y ws list) first_going; most = rw (no_records y ws list) (omega arith) }
  gone (suc i) h =
      let p = gone i (omega arith) in
      let q = get_or list i 0 in
      let rs = listed_records y ws list i in
      let l = high i (omega arith) in
      let u = p.most in
      record {
        going = rw (records_snoc y ws list i) (chunk_going y begins n k.few k.free sized q (k.blocks i (omega arith)).taken l rs (after i) p.going (next_low_lem i (omega arith) p));
        most = rw (records_snoc y ws list i, length-append rs (recs_from ws (block_chunk y ws q) 0 (count_at y ws q)), recs_length ws (block_chunk y ws q) 0 (count_at y ws q)) (omega arith);
      }

  -- each block can be gathered
  pub gathers : (i : ℕ) → i < n → Gathering y (get_or list i 0) (after i)
  gathers i h =
      let p = gone i (omega arith) in
      gathering y begins n k.few k.free sized (get_or list i 0) (k.blocks i h).taken (high i h) (listed_records y ws list i) (after i) p.going (next_low_lem i h p) (k.blocks i h).place

  ended : Gone n
  ended = gone n (le_refl n)

  -- and the rest can be written
  flushes : Flushable y (after n).words (after n).used (after n).st
  flushes = (roomy y begins n k.few k.free (listed_records y ws list n) (after n) ended.going ended.most).flushable

  pub flushes_in : (b : Memory) → b ≡ after n → Flushable y b.words b.used b.st
  flushes_in b e = rw e flushes

  laid : flash_of (flushed y (after n)) ≡ lay_all y (start begins) (compact z.geo.b level)
  unfolding lay_done
  laid =
      let p = ended.going in
      let f = flushes in
      let long = p.full in
      let h = flush_holds y (start begins) (kept z.geo.b (listed_records y ws list n) nothing) (after n) (record { sized = p.sized; cursor = p.cursor; list = omega (arith, f.room) }) p.holds in
      sym h.flash ∙ ap (lay_done y (start begins)) (kept_packed z.geo.b (listed_records y ws list n) [] []) ∙ lay_done_lem y (start begins) (compact z.geo.b (blocks y false ws list 0 n)) [] ∙ ap (λ (l : Level). lay_all y (start begins) (compact z.geo.b l)) (all_blocks_lem z ws list (λ i h. (k.blocks i h).high))

  -- what a compaction leaves, in any memory that is the one left, for every list of places in use that the marks stand for
  pub leaves_in : (b : Memory) → b ≡ flushed y (after n) → (a : Allocation) → a.cursor ≡ cursor → Marks used a.used
      → Leaves z (settle z.geo.p a (compact z.geo.b level)) ws b.words b.used b.out (record { count = b.st.m; cursor = b.st.cursor; writes = b.st.writes })
  leaves_in b e =
      let low = k.proper.valid.ranged.b_low in
      let m = flushed_m y (after n) in
      rw e (leaves_of z begins (flushed y (after n)) (compact z.geo.b level) (record { sized = sized; marks_long = k.marks_long; cursor_low = k.cursor_low; writes = refl })
      (sized_fit z.geo.b (compact z.geo.b level) (compact_well z.geo.b level (omega arith)).sized) laid (flushed_out y (after n) ∙ ended.going.full) (omega (arith, flushes.room)))
