-- The whole merge: what it asks of the store gives all that its steps ask, and what it leaves is what levels' merge and settle say.
use Prim.Native.Nat.{ℕ, zero, suc, ◌+◌, ◌-◌, ◌*◌, ◌≤◌, ◌<◌}
use mathlib.Core.Path.{◌≡◌, sym, ap, ◌∙◌, refl, subst}
use mathlib.Core.Bool.{Bool, true, false, true≢false}
use mathlib.Core.List.{List, []}
use mathlib.Core.Logic.{dite}
use native.Mathlib.Decide.{dec_lt}
use native.Mathlib.Nat.{le_refl, zero-add}
use native.Mathlib.Omega.{arith}
use lib.ListN.{length, get_or, length-append}
use lib.Seq.{get_or-set_same, get_or-set_other}
use Rattle.levels.specs.Basics.{iterate}
use Rattle.levels.specs.Record.{Block, Level, size, records}
use Rattle.levels.specs.Rising.{Rising}
use Rattle.levels.specs.Merge.{State, step}
use Rattle.levels.specs.Place.{Allocation, Settled, settle}
use Rattle.words.specs.Stores.{block_at}
use Rattle.blocks.specs.declared.Offsets.{Offsets}
use Rattle.blocks.specs.Blocks.{Sized, offsets_of, Marks}
use Rattle.blocks.proofs.Laws.{sized_of, start_place, free_found}
use Rattle.stream.specs.declared.Inputs.{Inputs}
use Rattle.sides.specs.Sides.{chunk_of, block_chunk}
use Rattle.stream.specs.Machine.{Memory, Ready, turns, idle}
use Rattle.stream.proofs.Laws.{idle_of}
use Rattle.joins.specs.Joins.{rested_out, joined_up, closed, Closable}
use Rattle.merging.specs.declared.Cut.{Cut}
use Rattle.merging.proofs.Blocks.{block_of, blocks, side, lay_all}
use Rattle.merging.proofs.Relation.{Formed, Stands, Listed, Holds, Core, Begun, flash_of, start, merged}
use Rattle.merging.proofs.Relation as relation
use Rattle.merging.specs.Contract.{page_at, blocks_of, run_of, merge_of, ListedBlock, FullPage, Mergeable, Leaves, inputs_of, begin_of, limit_of}
use Rattle.merging.proofs.Heads.{recs_length}
use Rattle.merging.proofs.Moves.{begin_zero, side_cons}
use Rattle.merging.proofs.Frame.{Same, listed_kept}
use Rattle.merging.proofs.Sim.{Both}
use Rattle.merging.proofs.Run.{begun_turns, begun_ready}
use Rattle.merging.proofs.Close.{rested_length, flushed_out}
use Rattle.merging.proofs.Whole.{turns_same, merge_laid}
use Rattle.merging.proofs.Begin.{begin_holds, begin_tail}
use Rattle.merging.proofs.Decode.{stored_block, page_block, blocks_from, blocks_run}
use Rattle.merging.proofs.Settle.{NewFit}
use Rattle.merging.proofs.Leaving.{leaves_of}
use Rattle.merging.proofs.Steps.{steps_fit, reverse_fit, merge_fit, Filled, left, steps_end, steps_enough}
use Rattle.merging.proofs.Budget.{Supplied, budgets, turns_bounded}
use Rattle.merging.proofs.Closing.{closable}
use Rattle.layout.specs.declared.Layout.{Layout}

-- entries that have been copied
rested_at : (out : List ℕ) (m : ℕ) (ys : List ℕ) (from n i : ℕ) → m + n ≤ length out → i < n → get_or (rested_out out m ys from n) (m + i) 0 ≡ get_or ys (from + i) 0
unfolding rested_out
rested_at out m ys from zero i h l = absurd (omega arith)
rested_at out m ys from (suc n) i h l =
    dite (dec_lt i n)
    (λ y. get_or-set_other (rested_out out m ys from n) (m + n) (m + i) (get_or ys (from + n) 0) 0 (λ e. omega arith) ∙ rested_at out m ys from n i (omega arith) y)
    (λ y. let e : i ≡ n = omega arith in rw e (get_or-set_same (rested_out out m ys from n) (m + n) (get_or ys (from + n) 0) 0 (rw rested_length (omega arith))))

-- the blocks of a side that stands
module _ (z : Offsets) (pages : Bool) (a : Memory) (list : List ℕ) (low end : ℕ) (f : Listed z pages a list low end) where
  size_is : (i : ℕ) → size (block_of a.words (chunk_of z pages a.words list i)) ≡ (chunk_of z pages a.words list i).n
  size_is i = recs_length a.words (chunk_of z pages a.words list i) 0 (chunk_of z pages a.words list i).n

  blocks_filled_lem : (i n : ℕ) → low ≤ i → i + n ≤ end → Filled (blocks z pages a.words list i n)
  unfolding blocks
  blocks_filled_lem i zero l h = tt
  blocks_filled_lem i (suc n) l h = (rw (size_is i) (f i l (omega arith)).formed.low, blocks_filled_lem (suc i) n (omega arith) (omega arith))

  blocks_count : (i n : ℕ) → z.b ≤ 16 → low ≤ i → i + n ≤ end → length (records (blocks z pages a.words list i n)) ≤ 16 * n
  unfolding blocks
  blocks_count i zero b l h = omega arith
  blocks_count i (suc n) b l h = rw length-append (omega (arith, blocks_count (suc i) n b (omega arith) (omega arith), size_is i, (f i l (omega arith)).formed.high))

side_start : (z : Offsets) (pages : Bool) (ws list : List ℕ) (i end : ℕ) → side z pages ws list i 0 end ≡ blocks z pages ws list i (end - i)
unfolding side
side_start z pages ws list i end = begin_zero (blocks z pages ws list i (end - i))

-- a side of which nothing is left is used up
side_over : (z : Offsets) (pages : Bool) (ws list : List ℕ) (i j end : ℕ) → side z pages ws list i j end ≡ [] → end ≤ i
side_over z pages ws list i j end e = go (dec_lt i end)
  where
    go : Dec (i < end) → end ≤ i
    go (no n) = omega arith
    go (yes y) = absurd (let w : suc (length (side z pages ws list (i + 1) 0 end)) ≡ 0 = ap (λ (l : Level). length l) (sym (side_cons z pages ws list i j end y) ∙ e) in omega arith)

-- blocks that have places are not new
listed_fit : (B : ℕ) (z : Offsets) (ws list : List ℕ) (i n : ℕ) → NewFit B (blocks z false ws list i n)
unfolding blocks chunk_of
listed_fit B z ws list i zero = tt
listed_fit B z ws list i (suc n) = (λ e. absurd (true≢false e), listed_fit B z ws list (suc i) n)

-- what stands in the store stands for the machine
stored_stands : (z : Layout) (ws : List ℕ) (used : List Bool) (list : List ℕ) (k : ℕ) → ListedBlock z ws used (get_or list k 0) → Rising 0 (block_at z ws (get_or list k 0)).recs → Stands (offsets_of z) false ws used list k
unfolding chunk_of
stored_stands z ws used list k b r =
    let f : Formed (offsets_of z) ws (block_chunk (offsets_of z) ws (get_or list k 0)) = record {
      low = rw (start_place z (get_or list k 0)) b.low;
      high = rw (start_place z (get_or list k 0)) b.high;
      bits = rw (start_place z (get_or list k 0)) b.bits;
      rises = rw (← stored_block z ws (get_or list k 0) b.high) at r;
    } in
    record { place = λ _. b.place; taken = λ _. b.taken; page = λ e. absurd (true≢false (sym e)); formed = f }

page_stands : (z : Layout) (ws : List ℕ) (used : List Bool) (list : List ℕ) (k : ℕ) → 1 ≤ z.geo.b → FullPage z ws k → Rising 0 (page_at z ws k).recs → Stands (offsets_of z) true ws used list k
unfolding chunk_of
page_stands z ws used list k h b r =
    record { place = λ e. absurd (true≢false e); taken = λ e. absurd (true≢false e); page = λ _. b.low; formed = record { low = h; high = le_refl z.geo.b; bits = b.bits; rises = subst (λ (p : Block). Rising 0 p.recs) (sym (page_block z ws k)) r } }

module _ (z : Layout) (ws : List ℕ) (used : List Bool) (out xs ys : List ℕ) (c : Cut) (cursor : ℕ) (k : Mergeable z ws used out xs ys c cursor) where
  abbrev o : Offsets
  o = offsets_of z

  abbrev t : Inputs
  t = inputs_of c

  -- the memory that step 3 starts from: the blocks before Y are listed
  abbrev pub begins : Memory
  begins = record { words = ws; used = used; out = rested_out out 0 ys c.start (c.y - c.start); st = begin_of c cursor }

  sized : Sized o ws
  sized = sized_of z ws (record { proper = k.proper; words = k.words })

  stands_lower : Listed o false begins ys c.start c.end
  stands_lower i l h = stored_stands z ws used ys i (k.lower i l h) (k.lower_rises i l h)

  lower_within : Listed o false begins ys c.y c.yend
  lower_within i l h = stands_lower i (let s = k.start_low in omega arith) (let e = k.y_high in omega arith)

  stands_upper : Listed o c.pages begins xs c.x c.xend
  stands_upper i l h = go c.pages refl
    where
      go : (p : Bool) → c.pages ≡ p → Stands o p ws used xs i
      go true e = page_stands z ws used xs i (let b = k.proper.valid.ranged.b_low in omega arith) (k.paged e i l h) (k.paged_rises e i l h)
      go false e = stored_stands z ws used xs i (k.upper e i l h) (k.upper_rises e i l h)

  fits : c.y ≤ 4096
  fits = let a = k.y_low in let b = k.y_high in let r = k.end_high in omega arith

  -- the blocks before Y begin where the list does
  from_start : c.y - (c.y - c.start) ≡ c.start
  from_start = let l = k.start_low in omega arith

  listed_same : (i : ℕ) → i < c.y - c.start → get_or begins.out i 0 ≡ get_or ys (c.start + i) 0
  listed_same i h = rw zero-add at (rested_at out 0 ys c.start (c.y - c.start) i (omega (arith, fits, k.out_long)) h)

  long : length begins.out ≡ 4096
  long = rested_length out 0 ys c.start (c.y - c.start) ∙ k.out_long

  holds : Holds o (start begins) (relation.first o t xs ys begins).out begins
  holds = rw from_start (begin_holds o begins ys c.start refl (omega (arith, fits, long)) listed_same)

  core : Core o t xs ys (relation.first o t xs ys begins).out begins
  core =
      record {
        sized = sized;
        full = long;
        cursor = k.cursor_low;
        few = (let l = sized.b_low in omega arith);
        upper = record { stands = stands_upper; low = k.x_low; inside = λ h. (stands_upper c.x (le_refl c.x) h).formed.low };
        lower = record { stands = lower_within; low = k.y_low; inside = λ h. (lower_within c.y (le_refl c.y) h).formed.low };
        listed = λ i h. rw (listed_same i h) ((stands_lower (c.start + i) (omega arith) (let a = k.y_low in let b = k.y_high in omega arith)).place refl);
        tail = rw from_start (begin_tail o begins ys c.start refl (omega (arith, fits, long)) listed_same);
      }

  supplied : Supplied o t xs ys begins
  supplied =
      record {
        core = core;
        holds = holds;
        x_start = refl;
        y_start = refl;
        writes = refl;
        x_high = k.x_high;
        y_high = (let a = k.y_high in let r = k.end_high in omega arith);
        room = (let s = k.start_low in let a = k.y_low in let b = k.y_high in let r = k.room in omega arith);
        free = k.free;
      }

  begun : (n : ℕ) → Begun o t xs ys n begins
  begun n = record { core = core; holds = holds; x_high = supplied.x_high; y_high = supplied.y_high; budget = λ i h. budgets o t xs ys begins supplied i }

  -- each step of the stream can be made
  pub ready : (i : ℕ) → i ≤ limit_of c → Ready o t xs ys (turns o t xs ys i begins)
  ready i h = begun_ready o t xs ys (limit_of c) begins (begun (limit_of c)) i h

  abbrev state : State
  state = relation.first o t xs ys begins

  filled_upper : Filled state.upper
  filled_upper = rw (side_start o c.pages ws xs c.x c.xend) (blocks_filled_lem o c.pages begins xs c.x c.xend stands_upper c.x (c.xend - c.x) (le_refl c.x) (let l = k.x_low in omega arith))

  filled_lower : Filled state.lower
  filled_lower = rw (side_start o false ws ys c.y c.yend) (blocks_filled_lem o false begins ys c.start c.end stands_lower c.y (c.yend - c.y) k.start_low (let l = k.y_low in let h = k.y_high in omega arith))

  few_left : left state ≤ limit_of c
  few_left =
      let x = blocks_count o c.pages begins xs c.x c.xend stands_upper c.x (c.xend - c.x) sized.b_high (le_refl c.x) (let l = k.x_low in omega arith) in
      let y = blocks_count o false begins ys c.start c.end stands_lower c.y (c.yend - c.y) sized.b_high k.start_low (let l = k.y_low in let h = k.y_high in omega arith) in
      rw (side_start o c.pages ws xs c.x c.xend, side_start o false ws ys c.y c.yend) (omega arith)

  abbrev pub ends : Memory
  ends = turns o t xs ys (limit_of c) begins

  both : Both o t xs ys (start begins) (iterate (limit_of c) (step z.geo.b c.bottom) state) ends
  both = begun_turns o t xs ys (limit_of c) begins (begun (limit_of c)) (limit_of c) (le_refl (limit_of c))

  -- both sides are used up
  x_over : c.xend ≤ ends.st.x.i
  x_over = side_over o c.pages ends.words xs ends.st.x.i ends.st.x.j c.xend (sym both.1.upper ∙ (steps_end z.geo.b c.bottom (limit_of c) state filled_upper filled_lower few_left).0)

  y_over : c.yend ≤ ends.st.y.i
  y_over = side_over o false ends.words ys ends.st.y.i ends.st.y.j c.yend (sym both.1.lower ∙ (steps_end z.geo.b c.bottom (limit_of c) state filled_upper filled_lower few_left).1)

  pub ended : idle o t xs ys ends ≡ true
  ended = idle_of o t xs ys ends x_over y_over

  y_at : ends.st.y.i ≡ c.yend
  y_at = let a = y_over in let b = both.0.lower.low in omega arith

  end_room : ends.st.m + 1 + (c.end - c.yend) ≤ 4096
  end_room = let b = (turns_bounded o t xs ys begins supplied (limit_of c)).m in let r = k.room in let s = k.start_low in let l = k.y_low in let h = k.y_high in omega arith

  kept : Same o begins ends
  kept = turns_same o t xs ys (limit_of c) begins (λ i h. free_found (turns o t xs ys i begins).used z.geo.p (turns o t xs ys i begins).st.cursor (begun_turns o t xs ys i begins (begun i) i (le_refl i)).0.cursor (budgets o t xs ys begins supplied i).free)

  -- step 4 can be made
  pub closing : Closable o ys c.end ends
  closing =
      closable o t xs ys c.end (start begins) (iterate (limit_of c) (step z.geo.b c.bottom) state).out ends both.0 both.1.out (budgets o t xs ys begins supplied (limit_of c))
      (λ i l. listed_kept o begins ends sized kept false ys c.start c.end stands_lower i (let s = k.start_low in let a = k.y_low in omega (arith, y_at))) k.end_high (let h = k.y_high in omega (arith, y_at)) (rw y_at end_room)

  laid : flash_of (closed o ys c.end ends) ≡ lay_all o (start begins) (merged o t xs ys (limit_of c) c.end begins)
  laid = merge_laid o t xs ys (limit_of c) c.end begins (begun (limit_of c)) (λ i l. stands_lower i (let s = k.start_low in let a = k.y_low in omega arith)) k.y_high ended end_room

  lower_is : (i n : ℕ) → c.start ≤ i → i + n ≤ c.end → blocks o false ws ys i n ≡ blocks_of z ws ys i n
  lower_is i n l h = blocks_from z ws ys i n (let r = k.end_high in let y = k.ys_long in omega arith) (λ j a b. (k.lower j (omega arith) (omega arith)).high)

  upper_is : blocks o c.pages ws xs c.x (c.xend - c.x) ≡ run_of c.pages z ws xs c.x (c.xend - c.x)
  upper_is =
      blocks_run c.pages z ws xs c.x (c.xend - c.x) (λ e. let l = k.x_low in let h = k.x_high in let x = k.xs_long in omega arith) (λ e i l h. (k.upper e i l (let w = k.x_low in omega arith)).high)

  -- the merge of blocks that the machine makes is that of the store's blocks
  merged_is : merged o t xs ys (limit_of c) c.end begins ≡ merge_of z ws xs ys c
  unfolding merge_of
  merged_is =
      let s = k.start_low in
      let l = k.y_low in
      let h = k.y_high in
      rw (
        steps_enough z.geo.b c.bottom (left state) (limit_of c) state filled_upper filled_lower (le_refl (left state)) few_left,
        side_start o c.pages ws xs c.x c.xend,
        side_start o false ws ys c.y c.yend,
        upper_is,
        lower_is c.y (c.yend - c.y) s (omega arith),
        from_start,
        lower_is c.start (c.y - c.start) (omega arith) (omega arith),
        lower_is c.yend (c.end - c.yend) (omega arith) (omega arith),
      )

  new_fit : NewFit z.geo.b (merged o t xs ys (limit_of c) c.end begins)
  new_fit =
      let b = sized.b_low in
      merge_fit z.geo.b (iterate (limit_of c) (step z.geo.b c.bottom) state).out (blocks o false ws ys c.yend (c.end - c.yend))
      (steps_fit z.geo.b c.bottom (limit_of c) state (omega arith) (record { few = omega arith; done = reverse_fit z.geo.b (blocks o false ws ys (c.y - (c.y - c.start)) (c.y - c.start)) [] (listed_fit z.geo.b o ws ys _ _) tt }))
      (listed_fit z.geo.b o ws ys c.yend (c.end - c.yend))

  closed_long : length (closed o ys c.end ends).out ≡ 4096
  unfolding closed
  closed_long = rested_length _ _ ys _ _ ∙ flushed_out o (joined_up o ys c.end ends) ∙ both.0.full

  closed_low : (closed o ys c.end ends).st.m ≤ 4096
  unfolding closed
  closed_low = closing.room

  abbrev settled : Allocation → Settled
  settled a = settle z.geo.p a (merge_of z ws xs ys c)

  -- what steps 3 and 4 leave, for every list of places in use that the marks stand for
  pub leaves : (a : Allocation) → a.cursor ≡ cursor → Marks used a.used
      → Leaves z (settled a) ws (closed o ys c.end ends).words (closed o ys c.end ends).used (closed o ys c.end ends).out (record { count = (closed o ys c.end ends).st.m; cursor = (closed o ys c.end ends).st.cursor; writes = (closed o ys c.end ends).st.writes })
  leaves =
      leaves_of z begins (closed o ys c.end ends) (merge_of z ws xs ys c) (record { sized = sized; marks_long = k.marks_long; cursor_low = k.cursor_low; writes = refl })
      (rw merged_is at new_fit) (rw merged_is at laid) closed_long closed_low

  -- the same of any memory that is the one left
  pub leaves_in : (b : Memory) → b ≡ closed o ys c.end ends → (a : Allocation) → a.cursor ≡ cursor → Marks used a.used
      → Leaves z (settled a) ws b.words b.used b.out (record { count = b.st.m; cursor = b.st.cursor; writes = b.st.writes })
  leaves_in b q a e m = rw q (leaves a e m)
