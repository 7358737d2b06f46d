-- All merges of a call whose level 0 is full.
use Prim.Native.Nat.{ℕ, suc, ◌+◌, ◌-◌, ◌≤◌, ◌<◌}
use mathlib.Core.Path.{◌≡◌, refl, sym, ap, ◌∙◌, subst}
use mathlib.Core.List.{List, ◌∷◌, ◌++◌, append_assoc}
use native.Mathlib.Decide.{ℕ_discrete}
use native.Mathlib.Omega.{arith}
use lib.ListN.{length, set, replicate}
use Rattle.std.proofs.lemmas.List.{get_or-replicate}
use Rattle.geometry.specs.Geometry.{capacity_of, top_capacity_of}
use Rattle.levels.specs.Store.{Store, rows, blocks_of}
use Rattle.levels.specs.Call.{Merge, merge_level, after_merge, after_merges, merges_below, merges_from, enough_steps}
use Rattle.levels.specs.Count.{counts_of}
use Rattle.levels.specs.Count as levels
use Rattle.levels.specs.declared.Ticket.{Ticket}
use Rattle.levels.specs.Tickets.{ticket_of, tickets_of, laid}
use Rattle.levels.specs.Sound.{Fits}
use Rattle.levels.specs.Inside.{load, Inside}
use Rattle.levels.specs.InCall.{MergeFacts}
use Rattle.levels.proofs.Entry.{entry_of, entry_inside, inside_fit}
use Rattle.levels.proofs.StoreRows.{load_enough}
use Rattle.levels.proofs.Inside.{inside_bottom}
use Rattle.levels.proofs.InCall.{ListFacts, deepest_says, merge_start, below_same}
use Rattle.levels.proofs.CallMerges.{from_is, first_facts, from_facts, from_ends}
use Rattle.levels.proofs.CallCounts.{steps_high}
use Rattle.levels.specs.Record.{Block}
use Rattle.levels.specs.Every.{Every}
use Rattle.pieces.specs.Pieces.{lay_all, Held}
use Rattle.words.specs.Stores.{count_at, listed_at, cursor_at, store_at, pieces, with_store, with_blocks}
use Rattle.words.specs.Halves.{top_part}
use Rattle.words.specs.Calls.{compacted_blocks, written_blocks, left_words}
use Rattle.words.specs.Rows.{row_of, rows_of, laid_from}
use Rattle.words.proofs.Rows.{laid_first}
use Rattle.words.proofs.Blocks.{blocks_length}
use Rattle.words.proofs.State.{cursor_held, top_count_held, count_held}
use Rattle.words.proofs.Reason.{passed_held}
use Rattle.lists.specs.Lists.{Listed, places_at, Fitting, with_lists}
use Rattle.lists.proofs.Laws.{but_held, lists_back, store_over}
use Rattle.lists.proofs.Arrays.{listed_same, count_is, places_listed}
use Rattle.steps.specs.declared.Run.{Run}
use Rattle.steps.specs.Running.{Tally, no_counts, counts_in, store_of, Stands, numbers_of, plus, Few, Small, Leaving, StepReady, step_counts}
use Rattle.cascade.specs.Cascade.{Rolling, list_counts, FullStore, Loaded, MergedAll}
use Rattle.steps.proofs.Standing.{stand, top_fits_lem}
use Rattle.steps.proofs.Chaining.{grown_small, leaving_chain}
use Rattle.cascade.proofs.Rolling.{counts_cons, step_low}
use Rattle.layout.specs.Layouts.{Fitted}
use Rattle.layout.specs.declared.Layout.{Layout}

module _ (z : Layout) (ws : List ℕ) (k : FullStore z ws) where
  abbrev pub s0 : Store
  s0 = store_at z ws

  -- the first merge, those after it, and all
  abbrev pub m0 : Merge
  m0 = merge_level z.geo 0 s0

  abbrev pub later : List Merge
  later = merges_below 98304 z.geo (after_merge m0)

  abbrev pub all : List Merge
  all = merges_from z.geo s0

  -- the store at the end
  abbrev pub end : Store
  end = after_merges s0 all

  held : Every (Held ws) (pieces z s0)
  held = passed_held z ws k.passed

  pub full_fitted : Fitted z ws
  full_fitted = record { proper = k.passed.proper; words = k.passed.long }

  -- what `load` asks
  pub load_asks : (lists : List ℕ) → length lists ≡ 4096 → Fitted z ws × ((length lists ≡ 4096) × ((i : ℕ) → i < z.geo.h → count_at z ws (suc i) ≤ capacity_of z.geo (suc i)))
  load_asks lists l =
      let v = k.passed.proper in
      let f = k.passed.fits in
      (full_fitted, (l, λ i h. rw (count_held z ws s0 v f k.passed.long held i (omega (arith, v.valid.ranged.h_high))) (f.level_fits i h)))

  inside : Inside z.geo s0 s0
  inside = entry_inside z.geo s0 k.passed.proper.valid k.passed.fits k.passed.sound

  pub loaded : (lists : List ℕ) (r : Run) → Listed z.geo.h z.geo.h lists r.ns (λ j. listed_at z ws (suc j)) → r.cursor ≡ cursor_at z ws
      → r.tally ≡ replicate 3 no_counts
      → Loaded z ws lists r
  loaded lists r l d q =
      let v = k.passed.proper in
      let f = k.passed.fits in
      record {
        stands = stand z s0 s0 ws lists r v inside (but_held z ws s0 k.passed.long k.passed.six held k.passed.standing) f.top_fits (listed_same z.geo.h z.geo.h lists r.ns (λ j. listed_at z ws (suc j)) (places_at s0) l (places_listed z ws s0 v f k.passed.long held k.passed.standing)) (d ∙ cursor_held z ws s0 v f k.passed.long held);
        none = q;
      }

  full : length s0.top ≡ top_capacity_of z.geo
  full = sym (top_count_held z ws s0 k.passed.proper k.passed.fits k.passed.long held) ∙ k.full

  facts : MergeFacts z.geo s0 m0
  facts = first_facts z.geo s0 k.passed.proper.valid k.passed.fits k.passed.sound full

  module _ (lists : List ℕ) (r : Run) (l : Loaded z ws lists r) where
    is : store_of z ws lists r ≡ s0
    is = l.stands.store

    none_few : (n : ℕ) → Small n r.tally
    none_few n = let few : Few n (record { merges = 0; written = 0; compacted = 0 }) = record { merges = omega arith; written = omega arith; compacted = omega arith } in rw l.none (record { three = refl; few = λ j i. rw (get_or-replicate 3 j no_counts no_counts i) few })

    -- what the first merge asks
    pub first_ready : StepReady 1900000000 z ws lists 0 r
    first_ready = record {
      proper = k.passed.proper;
      entry = s0;
      stands = subst (λ (x : Store). Stands z x ws lists r) (sym is) l.stands;
      facts = subst (λ (x : Store). MergeFacts z.geo s0 (merge_level z.geo 0 x)) (sym is) facts;
      full = λ o. ap (λ (x : Store). length x.top) is ∙ full;
      small = none_few 1900000000;
    }

    load_high : load (rows s0) ≤ 98304
    load_high = omega (arith, load_enough z.geo s0 k.passed.fits.level_count, steps_high z.geo s0 k.passed.proper.valid k.passed.fits k.passed.sound)

    load_falls : load (rows (after_merge m0)) < load (rows s0)
    load_falls = omega (arith, facts.falls, ap (λ (x : Store). load (rows x)) (merge_start z.geo 0 s0))

    module _ (ws1 lists1 : List ℕ) (r1 : Run)
        (a : Leaving z (after_merge m0) (m0.written ++ compacted_blocks m0.compactions) (step_counts m0) ws r ws1 lists1 r1) where
      -- what the later merges ask
      pub below_ready : Rolling 98304 z ws1 lists1 r1
      below_ready =
          let s = a.stands in
          record {
            proper = k.passed.proper;
            entry = s0;
            entry_is = entry_of z.geo s0 k.passed.proper.valid k.passed.fits k.passed.sound;
            inside = rw s.store facts.five.inside;
            ruled = rw s.store facts.after_ruled;
            stands = subst (λ (q : Store). Stands z q ws1 lists1 r1) (sym s.store) s;
            load_low = omega (arith, load_falls, load_high, ap (λ (x : Store). load (rows x)) s.store);
            bound = 16384;
            small = grown_small (step_counts m0) r.tally r1.tally 0 16384 16384 (step_low z s0 m0 k.passed.proper facts) (omega arith) (none_few 0) a.counts;
            bound_low = omega arith;
          }

      -- the whole list of merges
      all_is : all ≡ m0 ∷ later
      all_is =
          from_is z.geo s0
          ∙ ap (λ (ms : List Merge). m0 ∷ ms)
          (below_same (enough_steps z.geo s0) 98304 z.geo s0 (after_merge m0) k.passed.proper.valid (entry_of z.geo s0 k.passed.proper.valid k.passed.fits k.passed.sound) facts.five.inside facts.after_ruled
          (omega (arith, load_falls, load_enough z.geo s0 k.passed.fits.level_count)) (omega (arith, load_falls, load_high)))

      -- the tickets of the whole list: that of the first merge in row 0, the later ones from row 1 on
      pub merged_tickets : (rows rows1 rows2 : List (List ℕ)) (x : Ticket) → x ≡ ticket_of z.geo m0 → rows1 ≡ set rows 0 (row_of x) → rows2 ≡ laid_from 1 (rows_of (tickets_of z.geo later)) rows1
          → rows2 ≡ laid (rows_of (tickets_of z.geo all)) rows
      unfolding rows_of
      merged_tickets rows rows1 rows2 x ex e1 e2 =
          e2 ∙ ap (laid_from 1 (rows_of (tickets_of z.geo later))) (e1 ∙ ap (λ (y : Ticket). set rows 0 (row_of y)) ex)
          ∙ sym (laid_first (row_of (ticket_of z.geo m0)) (rows_of (tickets_of z.geo later)) rows) ∙ ap (λ (ms : List Merge). laid (rows_of (tickets_of z.geo ms)) rows) (sym all_is)

      listing : ListFacts z.geo s0 s0 all
      listing = from_facts z.geo s0 k.passed.proper.valid k.passed.fits k.passed.sound full

      -- each level fits its K(i) words again
      ends_within : (i : ℕ) → 1 ≤ i → i ≤ z.geo.h → length (blocks_of z.geo i end) ≤ capacity_of z.geo i
      ends_within i l h = last (ℕ_discrete i z.geo.h)
        where
          last : Dec (i ≡ z.geo.h) → length (blocks_of z.geo i end) ≤ capacity_of z.geo i
          last (yes q) =
              subst (λ (m : ℕ). length (blocks_of z.geo m end) ≤ capacity_of z.geo m) (sym q)
              (inside_bottom z.geo s0 end listing.inside k.passed.proper.valid (entry_of z.geo s0 k.passed.proper.valid k.passed.fits k.passed.sound) listing.ruled)
          last (no q) = (deepest_says z.geo end (z.geo.h - 1) 0 (from_ends z.geo s0 k.passed.proper.valid k.passed.fits k.passed.sound full)).0 i (omega arith) (omega arith)

      module _ (ws2 lists2 : List ℕ) (r2 : Run)
          (b : Leaving z (after_merges (after_merge m0) later) (written_blocks later) (list_counts later) ws1 r1 ws2 lists2 r2) where
        end_stands : Stands z end ws2 lists2 r2
        end_stands = subst (λ (ms : List Merge). Stands z (after_merges s0 ms) ws2 lists2 r2) (sym all_is) b.stands

        end_fits : Fits z.geo end
        end_fits = record {
          level_count = listing.inside.many;
          top_fits = top_fits_lem z end ws2 lists2 r2 end_stands;
          level_fits = λ i h. ends_within (suc i) (omega arith) h;
          blocks_fit = inside_fit z.geo s0 end listing.inside;
        }

        -- what `store_back` asks
        pub back_ready : Fitted z ws2 × (Fitting z lists2 r2.ns × (r2.cursor < z.geo.p))
        back_ready =
            let s = end_stands in
            let c = count_is z.geo.h lists2 r2.ns end listing.inside.many s.listed in
            (record { proper = k.passed.proper; words = s.held.long }, (record { long = s.listed.long; three = s.listed.three; fit = λ j h. omega (arith, c j, end_fits.level_fits j h); none = s.listed.none }, omega (arith, s.cursor, listing.inside.cursor)))

        -- what is left at the end
        pub merged_all : (ws3 : List ℕ) → ws3 ≡ with_lists z ws2 r2.cursor r2.ns lists2 → MergedAll z ws ws3 r2.tally
        unfolding left_words
        merged_all ws3 e =
            let s = end_stands in
            let v = k.passed.proper in
            let c = leaving_chain z v _ _ _ _ _ _ ws r ws1 lists1 r1 ws2 lists2 r2 a b in
            let us : List ℕ = with_blocks z (written_blocks all) ws in
            let blocks : (m0.written ++ compacted_blocks m0.compactions) ++ written_blocks later ≡ written_blocks all = append_assoc m0.written (compacted_blocks m0.compactions) (written_blocks later) ∙ ap written_blocks (sym all_is) in
            let laid_out : ws2 ≡ lay_all (top_part z end) us = c.words ∙ ap (λ (bs : List Block). lay_all (top_part z (after_merges (after_merge m0) later)) (with_blocks z bs ws)) blocks ∙ ap (λ (ms : List Merge). lay_all (top_part z (after_merges s0 ms)) us) (sym all_is) in
            let counts : (j : ℕ) (x : levels.Counts) → x ≡ plus (record { merges = 0; written = 0; compacted = 0 }) (plus (step_counts m0 j) (counts_of j later)) → x ≡ counts_of j all =
            λ j x d. d ∙ zero_plus (plus (step_counts m0 j) (counts_of j later)) ∙ sym (counts_cons m0 later j) ∙ ap (counts_of j) (sym all_is) in
            record {
              words =
                  e ∙ ap (λ (x : ℕ). with_lists z ws2 x r2.ns lists2) s.cursor ∙ lists_back z ws2 end v end_fits s.held lists2 r2.ns s.listed
                  ∙ ap (with_store z end) laid_out ∙ store_over z end us v end_fits (blocks_length z (written_blocks all) ws ∙ k.passed.long);
              one = counts 1 _ (c.counts.1 0 (omega arith) ∙ ap (λ (q : Tally). plus (numbers_of (counts_in q 0)) (plus (step_counts m0 1) (counts_of 1 later))) l.none);
              two = counts 2 _ (c.counts.1 1 (omega arith) ∙ ap (λ (q : Tally). plus (numbers_of (counts_in q 1)) (plus (step_counts m0 2) (counts_of 2 later))) l.none);
              three = counts 3 _ (c.counts.1 2 (omega arith) ∙ ap (λ (q : Tally). plus (numbers_of (counts_in q 2)) (plus (step_counts m0 3) (counts_of 3 later))) l.none);
            }
          where
            zero_plus : (c : levels.Counts) → plus (record { merges = 0; written = 0; compacted = 0 }) c ≡ c
            zero_plus c =
                let x : 0 + c.merges ≡ c.merges = omega arith in
                let y : 0 + c.written ≡ c.written = omega arith in
                let q : 0 + c.compacted ≡ c.compacted = omega arith in
                λ i. record { merges = x i; written = y i; compacted = q i }
