-- The form check: the words of a sound store pass it, and words that pass it are those of a sound store.
use Prim.Native.Nat.{ℕ, zero, suc, ◌+◌, ◌-◌, ◌^◌, ◌≤◌, ◌<◌}
use mathlib.Core.Path.{◌≡◌, refl, sym, ap, ◌∙◌}
use mathlib.Core.Bool.{Bool, true, false, not, ◌&&◌, and-eq-true_iff}
use mathlib.Core.List.{List, [], ◌∷◌, map, map-append}
use native.Mathlib.Nat.{add-zero}
use native.Mathlib.Numerals.{one-add, unary_clauses}
use native.Mathlib.Omega.{arith}
use lib.Dec.{leb, ltb}
use lib.ListN.{length, take, drop, get_or, length-take, get_or-eq_default}
use borrow.Author.Tests.{leb-true, leb-false, ltb-true, eqb-true, not-true, le-leb, lt-ltb, eq-eqb, lt-leb}
use Rattle.geometry.specs.declared.Geometry.{Geometry}
use Rattle.geometry.specs.Geometry.{within, capacity_of, capacity_sum, top_capacity_of, block_width}
use Rattle.layout.specs.declared.Layout.{Layout}
use Rattle.layout.specs.Layouts.{list_start, place_start, Proper}
use Rattle.layout.proofs.Laws.{list_inside, place_inside, places_before, count_before, hand_before, live_before}
use Rattle.levels.specs.Basics.{if◌then◌otherwise◌, all, each}
use Rattle.levels.specs.Record.{Rec, Block, Level}
use Rattle.levels.specs.Waste.{pair_rule, needs_compact}
use Rattle.levels.specs.Place.{places_of}
use Rattle.levels.specs.Store.{Store}
use Rattle.levels.specs.Every.{Every, all_blocks}
use Rattle.pieces.specs.Pieces.{Held}
use Rattle.levels.specs.Sound.{BlockFits, Fits, Tight, Sound}
use Rattle.levels.proofs.Every.{every_turn, every_both, every_map, every_of_all, all_of_every}
use Rattle.words.specs.Stores.{word, top_count_at, count_at, top_slots, top_recs, listed_at, record_count, mark_word_at, block_slots, block_at, level_at, store_at, pad, place_of, pieces, with_store, block_words, part}
use Rattle.words.specs.Form.{all_listed, listed_places, blank, live_exact, live_fits, cursor_inside, top_fits, room_of, counts_fit, places_inside, places_once, blocks_filled, keys_rise, bottom_unmarked, top_unused_zero, lists_unused_zero, blocks_unused_zero, tombstones_clean, pairs_kept, levels_kept, clauses, formed}
use Rattle.words.specs.Passed.{Standing}
use Rattle.levels.proofs.Each.{length_each, get_d_each, all_each, all_each_at}
use Rattle.words.proofs.Parts.{part_cons}
use Rattle.words.proofs.Slots.{mark_low, pad_recs, pad_blank}
use Rattle.words.proofs.Blocks.{place_below, block_size, count_read, mark_read, slots_read, block_written}
use Rattle.words.proofs.Top.{TopHeld, marks_of, top_inside, top_length, top_marks, top_pieces_of, top_written}
use Rattle.words.proofs.Stacking.{room_fits, counts_long}
use Rattle.words.proofs.Lists.{Listed, listed_places_lem, listed_zeros, listed_self, listed_pieces, listed_counts_pad, level_length}
use Rattle.words.proofs.Laid.{places_are, in_use_are}
use Rattle.words.proofs.State.{Holds, live_held, cursor_held, top_count_held, count_held, listed_held, top_parts_held, top_held, levels_held, store_held, with_holds, held_words}

-- the clauses of the form check, each by its name
pub record Clauses (z : Layout) (ws : List ℕ) : Type 0 where
  pub live_exact : live_exact z ws ≡ true
  pub live_fits : live_fits z ws ≡ true
  pub cursor_inside : cursor_inside z ws ≡ true
  pub top_fits : top_fits z ws ≡ true
  pub counts_fit : counts_fit z ws ≡ true
  pub places_inside : places_inside z ws ≡ true
  pub places_once : places_once z ws ≡ true
  pub blocks_filled : blocks_filled z ws ≡ true
  pub keys_rise : keys_rise z ws ≡ true
  pub bottom_unmarked : bottom_unmarked z ws ≡ true
  pub top_unused : top_unused_zero z ws ≡ true
  pub lists_unused : lists_unused_zero z ws ≡ true
  pub blocks_unused : blocks_unused_zero z ws ≡ true
  pub tombstones_clean : tombstones_clean z ws ≡ true
  pub pairs_kept : pairs_kept z ws ≡ true
  pub levels_kept : levels_kept z ws ≡ true

pub formed_clauses : (z : Layout) (ws : List ℕ) → formed z ws ≡ true → Clauses z ws
unfolding formed clauses
formed_clauses z ws e =
    let k = simp and-eq-true_iff at e in
    record {
      live_exact = k.0;
      live_fits = k.1.0;
      cursor_inside = k.1.1.0;
      top_fits = k.1.1.1.0;
      counts_fit = k.1.1.1.1.0;
      places_inside = k.1.1.1.1.1.0;
      places_once = k.1.1.1.1.1.1.0;
      blocks_filled = k.1.1.1.1.1.1.1.0;
      keys_rise = k.1.1.1.1.1.1.1.1.0;
      bottom_unmarked = k.1.1.1.1.1.1.1.1.1.0;
      top_unused = k.1.1.1.1.1.1.1.1.1.1.0;
      lists_unused = k.1.1.1.1.1.1.1.1.1.1.1.0;
      blocks_unused = k.1.1.1.1.1.1.1.1.1.1.1.1.0;
      tombstones_clean = k.1.1.1.1.1.1.1.1.1.1.1.1.1.0;
      pairs_kept = k.1.1.1.1.1.1.1.1.1.1.1.1.1.1.0;
      levels_kept = k.1.1.1.1.1.1.1.1.1.1.1.1.1.1.1.0;
    }

pub clauses_formed : (z : Layout) (ws : List ℕ) → Clauses z ws → formed z ws ≡ true
unfolding formed clauses
clauses_formed z ws k =
    rw (k.live_exact, k.live_fits, k.cursor_inside, k.top_fits, k.counts_fit, k.places_inside, k.places_once, k.blocks_filled, k.keys_rise, k.bottom_unmarked, k.top_unused, k.lists_unused, k.blocks_unused, k.tombstones_clean, k.pairs_kept, k.levels_kept)

-- a test of n words in a row is a test of every word of that part
pub all_part : (t : ℕ → Bool) (ws : List ℕ) (a n j : ℕ) → a + j + n ≤ length ws → all (λ (i : ℕ). t (word ws (a + i))) (each (λ (i : ℕ). i) j n) ≡ all t (part ws (a + j) n)
unfolding part
all_part t ws a zero j h = refl
all_part t ws a (suc n) j h =
    let e : suc (a + j) ≡ a + suc j = omega arith in
    rw (part_cons ws (a + j) n (omega arith), e, all_part t ws a n (suc j) (omega arith))

-- The blocks of all levels that the words hold are the blocks at the listed places.
blocks_listed : (z : Layout) (ws : List ℕ) (n i : ℕ) → all_blocks (each (level_at z ws) i n) ≡ map (block_at z ws) (listed_places z ws i n)
unfolding listed_places level_at
blocks_listed z ws zero i = refl
blocks_listed z ws (suc n) i = rw (blocks_listed z ws n (suc i)) (sym (map-append (block_at z ws) (listed_at z ws i) (listed_places z ws (suc i) n)))

places_of_blocks : (z : Layout) (ws ps : List ℕ) → places_of (map (block_at z ws) ps) ≡ ps
unfolding block_at
places_of_blocks z ws [] = refl
places_of_blocks z ws (p ∷ ps) = rw (places_of_blocks z ws ps)

-- "each block count is at most K(i)", "(zero above h)": the room of a level's list
pub room_level : (g : Geometry) (i : ℕ) → i ≤ g.h → room_of g i ≡ capacity_of g i
unfolding room_of
room_level g i h = rw (le-leb i g.h h)

pub room_above_lem : (g : Geometry) (i : ℕ) → g.h < i → room_of g i ≡ 0
unfolding room_of
room_above_lem g i h = rw (lt-leb i g.h h)

count_room : (z : Layout) (ws : List ℕ) → counts_fit z ws ≡ true → (i : ℕ) → 1 ≤ i → i ≤ 3 → count_at z ws i ≤ room_of z.geo i
unfolding counts_fit
count_room z ws e i l h =
    let j : 1 + (i - 1) ≡ i = omega arith in
    let t : ℕ → Bool = λ (i : ℕ). leb (count_at z ws i) (room_of z.geo i) in
    leb-true _ _ (ap t (sym j) ∙ all_each_at t (λ (i : ℕ). i) 1 3 e (i - 1) (omega arith))

pub count_low : (z : Layout) (ws : List ℕ) → counts_fit z ws ≡ true → (i : ℕ) → 1 ≤ i → i ≤ 3 → i ≤ z.geo.h → count_at z ws i ≤ capacity_of z.geo i
count_low z ws e i l h k = rw (room_level z.geo i k) at (count_room z ws e i l h)

pub count_empty : (z : Layout) (ws : List ℕ) → counts_fit z ws ≡ true → (i : ℕ) → 1 ≤ i → i ≤ 3 → z.geo.h < i → count_at z ws i ≡ 0
count_empty z ws e i l h k = let n = rw (room_above_lem z.geo i k) at (count_room z ws e i l h) in omega arith

-- level h is the last of the levels
bottom_level : (z : Layout) (ws : List ℕ) → 1 ≤ z.geo.h → get_or (each (level_at z ws) 1 z.geo.h) (z.geo.h - 1) [] ≡ level_at z ws z.geo.h
bottom_level z ws h =
    let e : 1 + (z.geo.h - 1) ≡ z.geo.h = omega arith in
    get_d_each (level_at z ws) 1 z.geo.h (z.geo.h - 1) [] (omega arith) ∙ ap (level_at z ws) e

-- the two halves of the clause about level 0's unused parts
pub top_unused : (z : Layout) (ws : List ℕ) → top_unused_zero z ws ≡ true
    → (all blank (drop (top_count_at z ws) (top_slots z ws)) ≡ true) × (all (λ (i : ℕ). ltb (word ws (z.marks + i)) (2 ^ z.geo.b)) (each (λ (i : ℕ). i) 0 (capacity_of z.geo 0)) ≡ true)
unfolding top_unused_zero
top_unused z ws e = (and-eq-true_iff _ _).0 e

pub mark_words_low : (z : Layout) (ws : List ℕ) → Proper z → length ws ≡ z.length → top_unused_zero z ws ≡ true → Every (λ m. m < 2 ^ z.geo.b) (part ws z.marks (capacity_of z.geo 0))
mark_words_low z ws k long y =
    let e = all_part (λ (m : ℕ). ltb m (2 ^ z.geo.b)) ws z.marks (capacity_of z.geo 0) 0 (omega (arith, (top_inside z ws k long).marks)) in
    every_turn (λ m. ltb m (2 ^ z.geo.b) ≡ true) (λ m. m < 2 ^ z.geo.b) (part ws z.marks (capacity_of z.geo 0)) (λ m b. ltb-true _ _ b)
    (every_of_all (λ (m : ℕ). ltb m (2 ^ z.geo.b)) (part ws z.marks (capacity_of z.geo 0)) (rw add-zero at (sym e ∙ (top_unused z ws y).1)))

-- the lists of n levels end where the list of the next begins
lists_sum : (z : Layout) (n : ℕ) → list_start z (suc n) ≡ list_start z 1 + capacity_sum z.geo 1 n
unfolding list_start capacity_sum
lists_sum z n = simp unary_clauses (omega arith)

-- What the form check says of words that pass it.
module _ (z : Layout) (ws : List ℕ) (v : Proper z) (long : length ws ≡ z.length) (c : Clauses z ws) where
  count_fits : (i : ℕ) → 1 ≤ i → i ≤ z.geo.h → count_at z ws i ≤ capacity_of z.geo i
  count_fits i l h = count_low z ws c.counts_fit i l (omega (arith, v.valid.ranged.h_high)) h

  lists_in : list_start z 1 + capacity_sum z.geo 1 z.geo.h ≤ length ws
  lists_in = omega (arith, lists_sum z z.geo.h, v.lists_places, places_before z v)

  pub clauses_listed : Listed z ws 1 (each (level_at z ws) 1 z.geo.h)
  unfolding lists_unused_zero
  clauses_listed =
      listed_self z ws z.geo.h 1 (omega arith) lists_in (λ j h. count_fits (1 + j) (omega arith) (omega arith)) c.lists_unused

  places_good : Every (λ p. (p < z.geo.p) × (1 ≤ record_count z ws p) × (record_count z ws p ≤ z.geo.b)) (all_listed z ws)
  unfolding places_inside blocks_filled
  places_good =
      every_both (λ p. ltb p z.geo.p ≡ true) (λ p. within 1 z.geo.b (record_count z ws p) ≡ true) (λ p. (p < z.geo.p) × (1 ≤ record_count z ws p) × (record_count z ws p ≤ z.geo.b)) (all_listed z ws)
      (λ p a b. let k = simp and-eq-true_iff at b in (ltb-true _ _ a, leb-true _ _ k.0, leb-true _ _ k.1))
      (every_of_all (λ p. ltb p z.geo.p) (all_listed z ws) c.places_inside)
      (every_of_all (λ p. within 1 z.geo.b (record_count z ws p)) (all_listed z ws) c.blocks_filled)

  block_fits : (p : ℕ) → (p < z.geo.p) × (1 ≤ record_count z ws p) × (record_count z ws p ≤ z.geo.b) → BlockFits z.geo (block_at z ws p)
  unfolding block_at
  block_fits p k =
      record { at = p; placed_at = refl; inside = k.0; filled = rw (block_size z ws p k.2) k.1; fits = rw (block_size z ws p k.2) k.2 }

  top_count_low : top_count_at z ws ≤ top_capacity_of z.geo
  unfolding top_fits
  top_count_low = leb-true _ _ c.top_fits

  level_fits : (i : ℕ) → i < z.geo.h → length (level_at z ws (suc i)) ≤ capacity_of z.geo (suc i)
  level_fits i h =
      let k = count_fits (suc i) (omega arith) h in
      rw (level_length z ws (suc i) (omega (arith, list_inside z v {i = suc i} (omega arith) h, places_before z v)) k) k

  pub clauses_fits : Fits z.geo (store_at z ws)
  unfolding store_at
  clauses_fits =
      record {
        level_count = length_each (level_at z ws) 1 z.geo.h;
        top_fits = rw (top_length z ws top_count_low) top_count_low;
        level_fits = λ i h. rw (get_d_each (level_at z ws) 1 z.geo.h i [] h, one-add) (level_fits i h);
        blocks_fit = rw (blocks_listed z ws z.geo.h 1) (every_map (block_at z ws) (BlockFits z.geo) (all_listed z ws) (every_turn _ (λ p. BlockFits z.geo (block_at z ws p)) (all_listed z ws) block_fits places_good));
      }

  block_stands : (p : ℕ) → (p < z.geo.p) × (1 ≤ record_count z ws p) × (record_count z ws p ≤ z.geo.b) → (all blank (drop (record_count z ws p) (block_slots z ws p)) && ltb (mark_word_at z ws p) (2 ^ z.geo.b)) ≡ true
      → part ws (place_start z (place_of (block_at z ws p))) (block_width z.geo) ≡ block_words z.geo (block_at z ws p).recs
  unfolding block_at
  block_stands p k e =
      let y = (and-eq-true_iff (all blank (drop (record_count z ws p) (block_slots z ws p))) (ltb (mark_word_at z ws p) (2 ^ z.geo.b))).0 e in
      block_written z ws p (rw long (place_inside z v k.0)) k.2 y.0 (ltb-true _ _ y.1)

  pub clauses_standing : Standing z ws (store_at z ws).levels
  unfolding store_at blocks_unused_zero
  clauses_standing =
      rw (blocks_listed z ws z.geo.h 1)
      (every_map (block_at z ws) (λ b. part ws (place_start z (place_of b)) (block_width z.geo) ≡ block_words z.geo b.recs) (all_listed z ws) (every_both _ _ (λ p. part ws (place_start z (place_of (block_at z ws p))) (block_width z.geo) ≡ block_words z.geo (block_at z ws p).recs) (all_listed z ws) block_stands places_good (every_of_all (λ p. all blank (drop (record_count z ws p) (block_slots z ws p)) && ltb (mark_word_at z ws p) (2 ^ z.geo.b)) (all_listed z ws) c.blocks_unused)))

  pub clauses_tight : Every (Tight z.geo) (each (level_at z ws) 1 z.geo.h)
  unfolding pairs_kept levels_kept
  clauses_tight =
      every_both (λ l. pair_rule z.geo.b l ≡ true) (λ l. not (needs_compact z.geo.b l) ≡ true) (Tight z.geo) (each (level_at z ws) 1 z.geo.h)
      (λ l a b. record { pairs = a; compact = not-true _ b })
      (every_of_all (pair_rule z.geo.b) (each (level_at z ws) 1 z.geo.h) (sym (all_each (pair_rule z.geo.b) (level_at z ws) z.geo.h 1) ∙ c.pairs_kept))
      (every_of_all (λ l. not (needs_compact z.geo.b l)) (each (level_at z ws) 1 z.geo.h) (sym (all_each (λ (l : Level). not (needs_compact z.geo.b l)) (level_at z ws) z.geo.h 1) ∙ c.levels_kept))

  pub clauses_sound : Sound z.geo (store_at z ws)
  unfolding store_at live_exact live_fits cursor_inside places_once keys_rise bottom_unmarked tombstones_clean
  clauses_sound =
      record {
        live_exact = sym (eqb-true _ _ c.live_exact);
        live_fits = leb-true _ _ c.live_fits;
        cursor_inside = ltb-true _ _ c.cursor_inside;
        places_once = rw (in_use_are, blocks_listed z ws z.geo.h 1, places_of_blocks) c.places_once;
        keys_rise = c.keys_rise;
        bottom_unmarked = rw (bottom_level z ws v.valid.ranged.h_low) (not-true _ c.bottom_unmarked);
        tombstones_clean = c.tombstones_clean;
        tight = clauses_tight;
      }

  counts_written : part ws (z.count + 1) 3 ≡ pad 3 (map (λ (l : Level). length l) (each (level_at z ws) 1 z.geo.h))
  counts_written =
      let n = length_each (level_at z ws) 1 z.geo.h in
      listed_counts_pad z ws (each (level_at z ws) 1 z.geo.h) (omega (arith, v.valid.ranged.h_high)) (omega (arith, count_before z v, places_before z v)) clauses_listed (λ i a b. count_empty z ws c.counts_fit i (omega arith) b (omega arith))

  one_held : (a : ℕ) → a < z.places → part ws a 1 ≡ word ws a ∷ []
  unfolding part
  one_held a h = part_cons ws a 0 (omega (arith, places_before z v))

  top_written_held : TopHeld z ws (top_recs z ws)
  unfolding top_recs
  top_written_held = top_written z ws (top_count_at z ws) (omega (arith, v.valid.ranged.b_low)) top_count_low (top_inside z ws v long) (top_unused z ws c.top_unused).0 (mark_words_low z ws v long c.top_unused)

  pub clauses_held : Every (Held ws) (pieces z (store_at z ws))
  unfolding pieces store_at
  clauses_held =
      let r = room_fits z.geo (store_at z ws) clauses_fits in
      let t = top_pieces_of z ws (top_recs z ws) (omega (arith, v.valid.ranged.b_low)) clauses_fits.top_fits top_written_held in
      (one_held z.live (live_before z v), (one_held z.hand (hand_before z v), (rw (top_length z ws top_count_low) (one_held z.count (omega (arith, count_before z v))), (rw (counts_long z (store_at z ws) v clauses_fits) counts_written, (t.0, (t.1.0, (t.1.1.0, listed_pieces z ws (each (level_at z ws) 1 z.geo.h) 1 r clauses_listed)))))))

-- Words that pass are what the store that they hold says.
pub write_back : (z : Layout) (ws : List ℕ) → Proper z → length ws ≡ z.length → formed z ws ≡ true → with_store z (store_at z ws) ws ≡ ws
write_back z ws v l f = held_words z ws (store_at z ws) (clauses_held z ws v l (formed_clauses z ws f))

-- A store's mark words have no bit from B on.
pub marks_small : (B n : ℕ) (rs : List Rec) → all (λ (m : ℕ). ltb m (2 ^ B)) (marks_of B n rs) ≡ true
unfolding marks_of
marks_small B zero rs = refl
marks_small B (suc n) rs = rw (lt-ltb _ _ (mark_low B (take B rs) (rw length-take (omega arith))), marks_small B n (drop B rs))

-- Words that hold a sound store pass, clause by clause.
module _ (z : Layout) (ws : List ℕ) (s : Store) (v : Proper z) (f : Fits z.geo s) (o : Sound z.geo s) (k : Holds z ws s) where
  listed_are : all_listed z ws ≡ map place_of (all_blocks s.levels)
  listed_are = ap (listed_places z ws 1) (sym f.level_count) ∙ listed_places_lem z ws s.levels 1 (listed_held z ws s v f k.long k.held)

  -- a test of every listed place is a test of the place of every block
  all_listed_lem : (t : ℕ → Bool) → Every (λ b. t (place_of b) ≡ true) (all_blocks s.levels) → all t (all_listed z ws) ≡ true
  all_listed_lem t h = rw listed_are (all_of_every t (map place_of (all_blocks s.levels)) (every_map place_of (λ p. t p ≡ true) (all_blocks s.levels) h))

  level_low : (i : ℕ) → i < 3 → leb (count_at z ws (suc i)) (if leb (suc i) z.geo.h then capacity_of z.geo (suc i) otherwise 0) ≡ true
  level_low i h = rw (count_held z ws s v f k.long k.held i h) (go (leb (suc i) z.geo.h) refl)
    where
      go : (t : Bool) → leb (suc i) z.geo.h ≡ t → leb (length (get_or s.levels i [])) (if t then capacity_of z.geo (suc i) otherwise 0) ≡ true
      go true e = le-leb _ _ (f.level_fits i (leb-true _ _ e))
      go false e = rw (get_or-eq_default s.levels [] {n = i} (omega (arith, leb-false (suc i) z.geo.h e, f.level_count)))

  bottom_held : level_at z ws z.geo.h ≡ get_or s.levels (z.geo.h - 1) []
  bottom_held = sym (bottom_level z ws v.valid.ranged.h_low) ∙ ap (λ (ls : List Level). get_or ls (z.geo.h - 1) []) (levels_held z ws s v f k.long k.held k.standing)

  -- what the words of a block's place say
  block_says : (b : Block) → BlockFits z.geo b → part ws (place_start z (place_of b)) (block_width z.geo) ≡ block_words z.geo b.recs
      → (within 1 z.geo.b (record_count z ws (place_of b)) ≡ true) × ((all blank (drop (record_count z ws (place_of b)) (block_slots z ws (place_of b))) && ltb (mark_word_at z ws (place_of b)) (2 ^ z.geo.b)) ≡ true)
  block_says b h e =
      let p = place_of b in
      let n = count_read z ws p b.recs h.fits e in
      let m = mark_read z ws p b.recs h.fits e in
      let r = slots_read z ws p b.recs h.fits e (rw k.long (place_inside z v (place_below b h))) in
      (rw (n, le-leb _ _ h.filled, le-leb _ _ h.fits), rw (n, m, r, pad_blank z.geo.b b.recs, lt-ltb _ _ (mark_low z.geo.b b.recs h.fits)))

  blocks_say : Every (λ b. (within 1 z.geo.b (record_count z ws (place_of b)) ≡ true) × ((all blank (drop (record_count z ws (place_of b)) (block_slots z ws (place_of b))) && ltb (mark_word_at z ws (place_of b)) (2 ^ z.geo.b)) ≡ true)) (all_blocks s.levels)
  blocks_say = every_both (BlockFits z.geo) (λ b. part ws (place_start z (place_of b)) (block_width z.geo) ≡ block_words z.geo b.recs) _ (all_blocks s.levels) block_says f.blocks_fit k.standing

  marks_held : all (λ (i : ℕ). ltb (word ws (z.marks + i)) (2 ^ z.geo.b)) (each (λ (i : ℕ). i) 0 (capacity_of z.geo 0)) ≡ true
  marks_held =
      all_part (λ (m : ℕ). ltb m (2 ^ z.geo.b)) ws z.marks (capacity_of z.geo 0) 0 (omega (arith, (top_inside z ws v k.long).marks))
      ∙ rw (add-zero, top_marks z ws s.top (omega (arith, v.valid.ranged.b_low)) f.top_fits (top_parts_held z ws s v f k.long k.held))
      (marks_small z.geo.b (capacity_of z.geo 0) (pad_recs (top_capacity_of z.geo) s.top))

  pub holds_clauses : Clauses z ws
  unfolding live_exact live_fits cursor_inside top_fits room_of counts_fit places_inside places_once blocks_filled keys_rise bottom_unmarked top_unused_zero lists_unused_zero blocks_unused_zero tombstones_clean pairs_kept levels_kept
  holds_clauses =
      let st = store_held z ws s v f k in
      record {
        live_exact = rw st (eq-eqb _ _ (live_held z ws s v f k.long k.held ∙ sym o.live_exact));
        live_fits = rw (live_held z ws s v f k.long k.held) (le-leb _ _ o.live_fits);
        cursor_inside = rw (cursor_held z ws s v f k.long k.held) (lt-ltb _ _ o.cursor_inside);
        top_fits = rw (top_count_held z ws s v f k.long k.held) (le-leb _ _ f.top_fits);
        counts_fit = rw (level_low 0 (omega arith), level_low 1 (omega arith), level_low 2 (omega arith));
        places_inside = all_listed_lem (λ p. ltb p z.geo.p) (every_turn (BlockFits z.geo) (λ b. ltb (place_of b) z.geo.p ≡ true) (all_blocks s.levels) (λ b h. lt-ltb _ _ (place_below b h)) f.blocks_fit);
        places_once = rw (listed_are, ← places_are z.geo (all_blocks s.levels) f.blocks_fit, ← in_use_are s.levels) o.places_once;
        blocks_filled = all_listed_lem (λ p. within 1 z.geo.b (record_count z ws p)) (every_turn _ (λ b. within 1 z.geo.b (record_count z ws (place_of b)) ≡ true) (all_blocks s.levels) (λ b h. h.0) blocks_say);
        keys_rise = rw st o.keys_rise;
        bottom_unmarked = rw (bottom_held, o.bottom_unmarked);
        top_unused = rw (top_count_held z ws s v f k.long k.held, top_held z ws s v f k.long k.held, pad_blank (top_capacity_of z.geo) s.top) marks_held;
        lists_unused = rw f.level_count at (listed_zeros z ws s.levels 1 (listed_held z ws s v f k.long k.held));
        blocks_unused = all_listed_lem (λ p. all blank (drop (record_count z ws p) (block_slots z ws p)) && ltb (mark_word_at z ws p) (2 ^ z.geo.b)) (every_turn _ (λ b. (all blank (drop (record_count z ws (place_of b)) (block_slots z ws (place_of b))) && ltb (mark_word_at z ws (place_of b)) (2 ^ z.geo.b)) ≡ true) (all_blocks s.levels) (λ b h. h.1) blocks_say);
        tombstones_clean = rw st o.tombstones_clean;
        pairs_kept = all_each (pair_rule z.geo.b) (level_at z ws) z.geo.h 1 ∙ rw (levels_held z ws s v f k.long k.held k.standing) (all_of_every (pair_rule z.geo.b) s.levels (every_turn (Tight z.geo) (λ l. pair_rule z.geo.b l ≡ true) s.levels (λ l t. t.pairs) o.tight));
        levels_kept = all_each (λ (l : Level). not (needs_compact z.geo.b l)) (level_at z ws) z.geo.h 1 ∙ rw (levels_held z ws s v f k.long k.held k.standing) (all_of_every (λ (l : Level). not (needs_compact z.geo.b l)) s.levels (every_turn (Tight z.geo) (λ l. not (needs_compact z.geo.b l) ≡ true) s.levels (λ l t. rw t.compact) o.tight));
      }

-- The words of a sound store pass the form check.
pub formed_back : (z : Layout) (s : Store) (ws : List ℕ) → Proper z → length ws ≡ z.length → Fits z.geo s → Standing z ws s.levels → Sound z.geo s → formed z (with_store z s ws) ≡ true
formed_back z s ws v l f d o =
    clauses_formed z (with_store z s ws) (holds_clauses z (with_store z s ws) s v f o (with_holds z s ws v f l d))
