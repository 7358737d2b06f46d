-- The merges out of listed levels, one after the other.
use Prim.Native.Nat.{ℕ, suc, ◌+◌, ◌-◌, ◌≤◌, ◌<◌}
use mathlib.Core.Path.{◌≡◌, refl, sym, ap, ◌∙◌, subst}
use mathlib.Core.Bool.{Bool, true, false}
use mathlib.Core.List.{List, [], ◌∷◌, ◌++◌, append_assoc}
use native.Mathlib.Omega.{arith}
use lib.Dec.{eqb}
use lib.ListN.{length, set, length-set}
use Rattle.levels.specs.Basics.{if◌then◌otherwise◌, total}
use Rattle.levels.specs.Store.{Store, rows}
use Rattle.levels.specs.Call.{Merge, merge_level, after_merge, after_merges, deepest_over, merges_below}
use Rattle.levels.specs.Count.{blocks_merged, total_into, total_compacted, counts_of}
use Rattle.levels.specs.Count as levels
use Rattle.levels.specs.declared.Ticket.{Ticket}
use Rattle.levels.specs.Tickets.{ticket_of, tickets_of}
use Rattle.levels.specs.Inside.{load}
use Rattle.levels.specs.InCall.{MergeFacts}
use Rattle.levels.proofs.InCall.{next_facts, merge_start, below_stop, below_next}
use Rattle.levels.proofs.CallCounts.{compacted_most, merge_short}
use Rattle.levels.proofs.MergeBounds.{merge_written}
use Rattle.geometry.specs.Geometry.{top_capacity_of}
use Rattle.levels.specs.Record.{Block}
use Rattle.pieces.specs.Pieces.{lay_all}
use Rattle.words.specs.Stores.{with_blocks}
use Rattle.words.specs.Halves.{top_part}
use Rattle.words.specs.Calls.{compacted_blocks, written_blocks}
use Rattle.words.proofs.Blocks.{blocks_none, blocks_append, blocks_length}
use Rattle.words.specs.Rows.{row_of, rows_of, laid_from}
use Rattle.words.proofs.Rows.{laid_from_none, laid_from_next}
use Rattle.lists.proofs.Arrays.{count_is}
use Rattle.lists.proofs.Laws.{part_over}
use Rattle.steps.specs.declared.Run.{Run}
use Rattle.steps.specs.Running.{counts_in, store_of, Stands, numbers_of, plus, Leaving, StepReady, step_counts}
use Rattle.cascade.specs.Cascade.{deepest_for, Rolling, list_counts}
use Rattle.steps.proofs.Chaining.{grown_small, small_more, plus_assoc}
use Rattle.steps.proofs.Compacting.{same_counts}
use Rattle.steps.proofs.Standing.{top_fits_lem, held_words}
use Rattle.cascade.proofs.Depth.{deepest_is}
use Rattle.layout.specs.Layouts.{Proper}
use Rattle.layout.specs.declared.Layout.{Layout}

-- the counts of a merge and those after it
pub counts_cons : (m : Merge) (ms : List Merge) (j : ℕ) → counts_of j (m ∷ ms) ≡ plus (step_counts m j) (counts_of j ms)
unfolding counts_of
counts_cons m ms j =
    let f : ℕ = if eqb (suc m.level) j then 1 otherwise 0 in
    let h : ℕ = if eqb (suc m.level) j then blocks_merged m otherwise 0 in
    let x : f + total_into j (λ m. 1) ms ≡ f + 0 + total_into j (λ m. 1) ms = omega arith in
    let y : h + total_into j blocks_merged ms ≡ h + 0 + total_into j blocks_merged ms = omega arith in
    let c : ℕ = total_compacted j m.compactions in
    let w : ℕ = total (λ (m : Merge). total_compacted j m.compactions) ms in
    let z : c + w ≡ c + 0 + w = omega arith in
    λ i. record { merges = x i; written = y i; compacted = z i }

-- no merge with its step 5 counts more than 16,384 blocks
pub step_low : (z : Layout) (e : Store) (m : Merge) → Proper z → MergeFacts z.geo e m → (j : ℕ) → ((step_counts m j).merges ≤ 16384) × ((step_counts m j).written ≤ 16384) × ((step_counts m j).compacted ≤ 16384)
unfolding counts_of
step_low z e m v f j = pick (eqb (suc m.level) j)
  where
    pick : (b : Bool) → ((if b then 1 otherwise 0) + 0 ≤ 16384) × ((if b then blocks_merged m otherwise 0) + 0 ≤ 16384) × (total_compacted j m.compactions + 0 ≤ 16384)
    pick true = (omega arith, omega (arith, merge_written z.geo e m v.valid f, f.room, v.valid.places_high), omega (arith, compacted_most z.geo e j m.compactions v.valid f.five.facts, merge_short z.geo e m f))
    pick false = (omega arith, omega arith, omega (arith, compacted_most z.geo e j m.compactions v.valid f.five.facts, merge_short z.geo e m f))

-- what is left of a list of merges comes to the same as the whole
pub record Rest (z : Layout) (t0 : Store) (ms0 : List Merge) (ws0 : List ℕ) (r0 : Run) (t : Store) (ms : List Merge) (ws : List ℕ) (r : Run) : Type 0 where
  pub store : after_merges t ms ≡ after_merges t0 ms0
  pub words : (u : Store) → length u.top ≤ top_capacity_of z.geo → lay_all (top_part z u) (with_blocks z (written_blocks ms) ws) ≡ lay_all (top_part z u) (with_blocks z (written_blocks ms0) ws0)
  pub long : length r.tally ≡ length r0.tally
  pub counts : (j : ℕ) → j < 3 → plus (numbers_of (counts_in r.tally j)) (counts_of (suc j) ms) ≡ plus (numbers_of (counts_in r0.tally j)) (counts_of (suc j) ms0)

pub record Goes (n : ℕ) (z : Layout) (ws0 lists0 : List ℕ) (r0 : Run) (ws lists : List ℕ) (r : Run) : Type 0 where
  pub steps : ℕ
  pub rolling : Rolling steps z ws lists r
  pub rest : Rest z (store_of z ws0 lists0 r0) (merges_below n z.geo (store_of z ws0 lists0 r0)) ws0 r0 (store_of z ws lists r) (merges_below steps z.geo (store_of z ws lists r)) ws r

-- The tickets of the merges to come, filed from row `filed` on, come to the same as those of all merges from row 1 on: the row of merge 0 is the first.
pub record Files (n : ℕ) (z : Layout) (t0 : Store) (rows0 : List (List ℕ)) (steps : ℕ) (t : Store) (rows : List (List ℕ)) (filed : ℕ) : Type 0 where
  pub low : filed + steps ≤ suc n
  pub long : length rows ≡ length rows0
  pub tickets : laid_from filed (rows_of (tickets_of z.geo (merges_below steps z.geo t))) rows ≡ laid_from 1 (rows_of (tickets_of z.geo (merges_below n z.geo t0))) rows0

-- a turn of the loop
pub record Turn (n : ℕ) (z : Layout) (ws0 lists0 : List ℕ) (r0 : Run) (rows0 : List (List ℕ)) (ws lists : List ℕ) (r : Run) (rows : List (List ℕ)) (filed : ℕ) : Type 0 where
  pub goes : Goes n z ws0 lists0 r0 ws lists r
  pub files : Files n z (store_of z ws0 lists0 r0) rows0 goes.steps (store_of z ws lists r) rows filed

goes_first : (n : ℕ) (z : Layout) (ws lists : List ℕ) (r : Run) → Rolling n z ws lists r → Goes n z ws lists r ws lists r
goes_first n z ws lists r k = record { steps = n; rolling = k; rest = record { store = refl; words = λ u h. refl; long = refl; counts = λ j l. refl } }

pub turn_first : (n : ℕ) (z : Layout) (ws lists : List ℕ) (r : Run) (rows : List (List ℕ)) → Rolling n z ws lists r → Turn n z ws lists r rows ws lists r rows 1
unfolding goes_first
turn_first n z ws lists r rows k = record { goes = goes_first n z ws lists r k; files = record { low = omega arith; long = refl; tickets = refl } }

module _ (n : ℕ) (z : Layout) (ws0 lists0 : List ℕ) (r0 : Run) (ws lists : List ℕ) (r : Run) (k : Goes n z ws0 lists0 r0 ws lists r) (d : ℕ) (ed : d ≡ deepest_for z.geo r.ns (z.geo.h - 1)) where
  abbrev pub t : Store
  t = store_of z ws lists r

  deepest : d ≡ deepest_over z.geo (z.geo.h - 1) t
  deepest = ed ∙ deepest_is z.geo t r.ns (count_is z.geo.h lists r.ns t k.rolling.inside.many k.rolling.stands.listed) (z.geo.h - 1)

  -- nothing is over its capacity
  pub goes_last : (u : Run) → u ≡ r → d ≡ 0 → (t0 : Store) → t0 ≡ store_of z ws0 lists0 r0 → Leaving z (after_merges t0 (merges_below n z.geo t0)) (written_blocks (merges_below n z.geo t0)) (list_counts (merges_below n z.geo t0)) ws0 r0 ws lists u
  unfolding counts_of
  goes_last u eu o t0 et =
      let q : merges_below k.steps z.geo t ≡ [] = below_stop k.steps z.geo t (sym deepest ∙ o) in
      let e = k.rest in
      let f = subst (λ (ms : List Merge). Rest z (store_of z ws0 lists0 r0) (merges_below n z.geo (store_of z ws0 lists0 r0)) ws0 r0 t ms ws r) q e in
      rw (et, eu)
      (record {
        stands = subst (λ (y : Store). Stands z y ws lists r) f.store k.rolling.stands;
        words = held_words z t [] ws ws k.rolling.stands.held (sym (blocks_none z ws)) ∙ f.words t (top_fits_lem z t ws lists r k.rolling.stands) ∙ ap (λ (y : Store). lay_all (top_part z y) (with_blocks z (written_blocks (merges_below n z.geo (store_of z ws0 lists0 r0))) ws0)) f.store;
        counts = (f.long, λ j l. none (numbers_of (counts_in r.tally j)) ∙ f.counts j l);
      })
    where
      none : (c : levels.Counts) → c ≡ plus c (record { merges = 0; written = 0; compacted = 0 })
      none c = same_counts c (record { merges = 0; written = 0; compacted = 0 }) refl refl refl

  -- and then all tickets are filed
  pub files_last : (rows0 rows : List (List ℕ)) (filed : ℕ) → Files n z (store_of z ws0 lists0 r0) rows0 k.steps t rows filed → d ≡ 0
      → (t0 : Store) → t0 ≡ store_of z ws0 lists0 r0 → rows ≡ laid_from 1 (rows_of (tickets_of z.geo (merges_below n z.geo t0))) rows0
  unfolding rows_of
  files_last rows0 rows filed f o t0 et =
      let q : merges_below k.steps z.geo t ≡ [] = below_stop k.steps z.geo t (sym deepest ∙ o) in
      sym (laid_from_none filed rows) ∙ ap (λ (ms : List Merge). laid_from filed (rows_of (tickets_of z.geo ms)) rows) (sym q) ∙ f.tickets
      ∙ ap (λ (x : Store). laid_from 1 (rows_of (tickets_of z.geo (merges_below n z.geo x))) rows0) (sym et)

  -- a merge is due
  module _ (j : ℕ) (dj : d ≡ suc j) where
    more : merges_below k.steps z.geo t ≡ merge_level z.geo (suc j) t ∷ merges_below (k.steps - 1) z.geo (after_merge (merge_level z.geo (suc j) t))
    more = let p = k.rolling in below_next k.steps z.geo p.entry t j p.proper.valid p.entry_is p.inside p.ruled p.load_low (sym deepest ∙ dj)

    facts : MergeFacts z.geo k.rolling.entry (merge_level z.geo (suc j) t)
    facts = let p = k.rolling in next_facts z.geo p.entry t j p.proper.valid p.entry_is p.inside p.ruled (sym deepest ∙ dj)

    pub goes_asks : StepReady 1900000000 z ws lists d r
    goes_asks =
        let p = k.rolling in
        record {
          proper = p.proper;
          entry = p.entry;
          stands = p.stands;
          facts = subst (λ (i : ℕ). MergeFacts z.geo p.entry (merge_level z.geo i t)) (sym dj) facts;
          full = λ o. absurd (omega (arith, o, dj));
          small = small_more p.bound 1900000000 r.tally (omega (arith, p.bound_low)) p.small;
        }

    falls : load (rows (after_merge (merge_level z.geo (suc j) t))) < load (rows t)
    falls = omega (arith, facts.falls, ap (λ (x : Store). load (rows x)) (merge_start z.geo (suc j) t))

    module _ (ws' lists' : List ℕ) (r' : Run)
        (l : Leaving z (after_merge (merge_level z.geo d t)) ((merge_level z.geo d t).written ++ compacted_blocks (merge_level z.geo d t).compactions) (step_counts (merge_level z.geo d t)) ws r ws' lists' r') where
      left : let m : Merge = merge_level z.geo (suc j) t in Leaving z (after_merge m) (m.written ++ compacted_blocks m.compactions) (step_counts m) ws r ws' lists' r'
      left = subst (λ (i : ℕ). let m : Merge = merge_level z.geo i t in Leaving z (after_merge m) (m.written ++ compacted_blocks m.compactions) (step_counts m) ws r ws' lists' r') dj l

      pub goes_less : load (rows (store_of z ws' lists' r')) < load (rows t)
      unfolding left
      goes_less = omega (arith, falls, ap (λ (x : Store). load (rows x)) left.stands.store)

      pub goes_on : Goes n z ws0 lists0 r0 ws' lists' r'
      unfolding left
      goes_on =
          let p = k.rolling in
          let m : Merge = merge_level z.geo (suc j) t in
          let y : Store = after_merge m in
          let s = left.stands in
          let f = facts in
          let st = k.steps in
          let e = subst (λ (ms : List Merge). Rest z (store_of z ws0 lists0 r0) (merges_below n z.geo (store_of z ws0 lists0 r0)) ws0 r0 t ms ws r) more k.rest in
          let ms : List Merge = merges_below (st - 1) z.geo y in
          let count : (i : ℕ) (c c' : levels.Counts) → c' ≡ plus c (step_counts m i) → plus c' (counts_of i ms) ≡ plus c (counts_of i (m ∷ ms)) = λ i c c' a. ap (λ (o : levels.Counts). plus o (counts_of i ms)) a ∙ plus_assoc c (step_counts m i) (counts_of i ms) ∙ ap (plus c) (sym (counts_cons m ms i)) in
          let now : Rest z (store_of z ws0 lists0 r0) (merges_below n z.geo (store_of z ws0 lists0 r0)) ws0 r0 y ms ws' r' = record {
            store = e.store;
            words = λ u h.
                let bs : List Block = m.written ++ compacted_blocks m.compactions in
                ap (λ (o : List ℕ). lay_all (top_part z u) (with_blocks z (written_blocks ms) o)) left.words
                ∙ part_over z (after_merge m) u (written_blocks ms) (with_blocks z bs ws) k.rolling.proper (blocks_length z bs ws ∙ k.rolling.stands.held.long) (top_fits_lem z (after_merge m) ws' lists' r' left.stands) h
                ∙ ap (lay_all (top_part z u)) (sym (blocks_append z bs (written_blocks ms) ws) ∙ ap (λ (cs : List Block). with_blocks z cs ws) (append_assoc m.written (compacted_blocks m.compactions) (written_blocks ms)))
                ∙ e.words u h;
            long = left.counts.0 ∙ e.long;
            counts = λ j l. count (suc j) _ _ (left.counts.1 j l) ∙ e.counts j l;
          } in
          record {
            steps = st - 1;
            rolling = record {
              proper = p.proper;
              entry = p.entry;
              entry_is = p.entry_is;
              inside = rw s.store f.five.inside;
              ruled = rw s.store f.after_ruled;
              stands = subst (λ (o : Store). Stands z o ws' lists' r') (sym s.store) s;
              load_low = omega (arith, goes_less, p.load_low);
              bound = p.bound + 16384;
              small = grown_small (step_counts m) r.tally r'.tally p.bound (p.bound + 16384) 16384 (step_low z p.entry m p.proper f) (omega arith) p.small left.counts;
              bound_low = omega (arith, p.bound_low, p.load_low, goes_less);
            };
            rest = subst (λ (o : Store). Rest z (store_of z ws0 lists0 r0) (merges_below n z.geo (store_of z ws0 lists0 r0)) ws0 r0 o (merges_below (st - 1) z.geo o) ws' r') (sym s.store) now;
          }

      -- its ticket is filed
      pub files_on : (rows0 rows rows' : List (List ℕ)) (filed : ℕ) (x : Ticket) → Files n z (store_of z ws0 lists0 r0) rows0 k.steps t rows filed → x ≡ ticket_of z.geo (merge_level z.geo d t) → rows' ≡ set rows filed (row_of x)
          → Files n z (store_of z ws0 lists0 r0) rows0 goes_on.steps (store_of z ws' lists' r') rows' (filed + 1)
      unfolding goes_on left rows_of
      files_on rows0 rows rows' filed x f ex er =
          let m : Merge = merge_level z.geo (suc j) t in
          let st = k.steps in
          let late : List (List ℕ) = rows_of (tickets_of z.geo (merges_below (st - 1) z.geo (after_merge m))) in
          let ey : x ≡ ticket_of z.geo m = ex ∙ ap (λ (i : ℕ). ticket_of z.geo (merge_level z.geo i t)) dj in
          let es : rows' ≡ set rows filed (row_of (ticket_of z.geo m)) = er ∙ ap (λ (y : Ticket). set rows filed (row_of y)) ey in
          let one_more : filed + 1 ≡ suc filed = omega arith in
          record {
            low = omega (arith, f.low, k.rolling.load_low, falls);
            long = ap length es ∙ length-set rows filed (row_of (ticket_of z.geo m)) ∙ f.long;
            tickets = ap (λ (o : Store). laid_from (filed + 1) (rows_of (tickets_of z.geo (merges_below (st - 1) z.geo o))) rows') left.stands.store
                ∙ ap (λ (i : ℕ). laid_from i late rows') one_more ∙ ap (laid_from (suc filed) late) es ∙ sym (laid_from_next filed (row_of (ticket_of z.geo m)) late rows)
                ∙ ap (λ (ms : List Merge). laid_from filed (rows_of (tickets_of z.geo ms)) rows) (sym more) ∙ f.tickets;
          }
