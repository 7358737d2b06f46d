-- The store that stands in the words and lists: its blocks can be read, counted and merged where the lists name them.
use Prim.Native.Nat.{ℕ, zero, suc, ◌≤◌, ◌<◌}
use mathlib.Core.Path.{◌≡◌, refl, sym, ap, ◌∙◌, subst}
use mathlib.Core.Bool.{Bool}
use mathlib.Core.List.{List, [], ◌∷◌, map, map-append, Memᴰ}
use mathlib.Core.Logic.{dite}
use native.Mathlib.Decide.{dec_lt}
use native.Mathlib.Nat.{add-zero}
use native.Mathlib.Omega.{arith}
use lib.ListN.{length, take, get_or, length-take, length-map, get_or-eq_default}
use lib.Seq.{take-append_seam, get_or-take}
use Rattle.geometry.specs.Geometry.{block_width, top_capacity_of}
use Rattle.geometry.proofs.Laws.{level_high}
use Rattle.levels.specs.Basics.{member}
use Rattle.levels.specs.Record.{Block, Level, records, rising}
use Rattle.levels.specs.Rising.{Rising}
use Rattle.levels.specs.Place.{places_of}
use Rattle.levels.specs.Store.{Store, used_in}
use Rattle.levels.specs.Every.{Every, all_blocks}
use Rattle.levels.specs.Sound.{BlockFits}
use Rattle.levels.specs.Inside.{Inside}
use Rattle.levels.proofs.Every.{every_at, every_make, every_turn, every_both}
use Rattle.levels.proofs.Entry.{blocks_at, inside_fit}
use Rattle.levels.proofs.Rising.{rising_test}
use Rattle.pieces.specs.Pieces.{part, lay_all}
use Rattle.pieces.proofs.Pieces.{held_word, lay_all_held}
use Rattle.words.specs.Stores.{record_count, live_at, top_count_at, top_slots, top_recs, block_at, place_of, block_words, with_blocks}
use Rattle.words.specs.Halves.{top_part}
use Rattle.words.proofs.Slots.{mark_low}
use Rattle.words.proofs.Blocks.{place_below, count_read, mark_read}
use Rattle.words.proofs.Top.{TopHeld, top_held_of, top_slots_length, top_read, top_inside}
use Rattle.words.proofs.Lists.{blocks_back}
use Rattle.words.proofs.Laid.{places_are, in_use_are, member_map}
use Rattle.words.proofs.State.{standing_read}
use Rattle.lists.specs.Holds.{HoldsBut}
use Rattle.lists.specs.Lists.{list_of, lists_of, Listed, places_at}
use Rattle.lists.specs.Flat.{part_room, part_of}
use Rattle.lists.proofs.Flat.{part_fits, part_of_length}
use Rattle.lists.proofs.Arrays.{places_in, lists_are, count_is}
use Rattle.blocks.specs.Blocks.{Marks}
use Rattle.merging.specs.Contract.{ListedBlock}
use Rattle.pair.specs.Contract.{Stored}
use Rattle.compaction.specs.Machine.{Countable}
use Rattle.steps.specs.declared.Run.{Run}
use Rattle.steps.specs.Running.{named, store_of, Stands, Markable, Marking}
use Rattle.layout.specs.Layouts.{place_start, Proper}
use Rattle.layout.specs.declared.Layout.{Layout}

-- what is said of every entry is said of entry k
pub every_entry : (P : ℕ → Type 0) (xs : List ℕ) → Every P xs → (k : ℕ) → k < length xs → P (get_or xs k 0)
every_entry P [] h k l = absurd (omega arith)
every_entry P (x ∷ xs) h zero l = h.0
every_entry P (x ∷ xs) h (suc k) l = every_entry P xs h.1 k (omega arith)

every_places : (P : ℕ → Type 0) (bs : Level) → Every (λ b. P (place_of b)) bs → Every P (map place_of bs)
every_places P [] h = tt
every_places P (b ∷ bs) h = (h.0, every_places P bs h.1)

levels_back : (z : Layout) (ws : List ℕ) (ls : List Level) → Every (λ b. block_at z ws (place_of b) ≡ b) (all_blocks ls) → map (λ (l : List ℕ). map (block_at z ws) l) (places_in ls) ≡ ls
levels_back z ws ls h = go ls (λ j. blocks_at (λ b. block_at z ws (place_of b) ≡ b) ls j h)
  where
    go : (ls : List Level) → ((j : ℕ) → Every (λ b. block_at z ws (place_of b) ≡ b) (get_or ls j [])) → map (λ (l : List ℕ). map (block_at z ws) l) (places_in ls) ≡ ls
    go [] f = refl
    go (l ∷ ls) f = rw (blocks_back z ws l (f 0), go ls (λ j. f (suc j)))

-- the places that the lists of a store's levels name
named_places : (ls : List Level) → named (places_in ls) ≡ map place_of (all_blocks ls)
named_places [] = refl
named_places (l ∷ ls) = rw (named_places ls) (sym (map-append place_of l (all_blocks ls)))

-- Words that hold t but for lists and counts.
module _ (z : Layout) (ws : List ℕ) (t : Store) (v : Proper z) (f : Every (BlockFits z.geo) (all_blocks t.levels)) (k : HoldsBut z ws t) where
  blocks_read : Every (λ b. block_at z ws (place_of b) ≡ b) (all_blocks t.levels)
  blocks_read = standing_read z ws (all_blocks t.levels) v k.long f k.standing

  pub but_live : live_at z ws ≡ t.live
  but_live = rw add-zero at (held_word ws _ k.held.0 0 (omega arith))

  pub but_count : top_count_at z ws ≡ length t.top
  but_count = rw add-zero at (held_word ws _ k.held.1.0 0 (omega arith))

  -- level 0's records are read back
  module _ (h : length t.top ≤ top_capacity_of z.geo) where
    pub but_top_held : TopHeld z ws t.top
    but_top_held = top_held_of z ws t.top (omega (arith, v.valid.ranged.b_low)) h k.held.1.1

    pub but_top_read : top_recs z ws ≡ t.top
    unfolding top_recs
    but_top_read = rw (but_count, top_read z ws t.top (omega (arith, v.valid.ranged.b_low)) h but_top_held (top_inside z ws v k.long)) (take-append_seam t.top _)

  -- what is said of the place of every block is said of every entry of a level's list
  listed_each : (P : ℕ → Type 0) → Every (λ b. P (place_of b)) (all_blocks t.levels) → (j : ℕ) (xs : List ℕ) → xs ≡ places_at t j → (i : ℕ) → i < length xs → P (get_or xs i 0)
  listed_each P a j xs e = every_entry P xs (rw e (every_places P (get_or t.levels j []) (blocks_at (λ b. P (place_of b)) t.levels j a)))

  -- each listed block can be read and merged
  module _ (used : List Bool) (m : Marks used (used_in t)) where
    listed_at_lem : (b : Block) → Memᴰ b (all_blocks t.levels) → ListedBlock z ws used (place_of b)
    listed_at_lem b i =
        let h = every_at (BlockFits z.geo) (all_blocks t.levels) f b i in
        let e = every_at (λ c. part ws (place_start z (place_of c)) (block_width z.geo) ≡ block_words z.geo c.recs) (all_blocks t.levels) k.standing b i in
        let n = count_read z ws (place_of b) b.recs h.fits e in
        let u : used_in t ≡ map place_of (all_blocks t.levels) = in_use_are t.levels ∙ places_are z.geo (all_blocks t.levels) f in
        record {
          place = place_below b h;
          taken = m (place_of b) ∙ ap (member (place_of b)) u ∙ member_map place_of (all_blocks t.levels) b i;
          low = rw n h.filled;
          high = rw n h.fits;
          bits = rw (mark_read z ws (place_of b) b.recs h.fits e, n) (mark_low (length b.recs) b.recs (omega arith));
        }

    pub listed_block_lem : (j : ℕ) (xs : List ℕ) → xs ≡ places_at t j → (i : ℕ) → i < length xs → ListedBlock z ws used (get_or xs i 0)
    listed_block_lem = listed_each (ListedBlock z ws used) (every_make (λ b. ListedBlock z ws used (place_of b)) (all_blocks t.levels) listed_at_lem)

  -- the level that a list names
  pub listed_level : (j : ℕ) (xs : List ℕ) → xs ≡ places_at t j → map (block_at z ws) xs ≡ get_or t.levels j []
  listed_level j xs e = ap (map (block_at z ws)) e ∙ blocks_back z ws (get_or t.levels j []) (blocks_at (λ b. block_at z ws (place_of b) ≡ b) t.levels j blocks_read)

  -- each listed place is one of the store's, and has at most B records
  pub listed_low : (j : ℕ) (xs : List ℕ) → xs ≡ places_at t j → (i : ℕ) → i < length xs → get_or xs i 0 < z.geo.p
  listed_low = listed_each (λ q. q < z.geo.p) (every_turn (BlockFits z.geo) (λ b. place_of b < z.geo.p) (all_blocks t.levels) (λ b d. place_below b d) f)

  pub listed_high : (j : ℕ) (xs : List ℕ) → xs ≡ places_at t j → (i : ℕ) → i < length xs → record_count z ws (get_or xs i 0) ≤ z.geo.b
  listed_high =
      listed_each (λ q. record_count z ws q ≤ z.geo.b)
      (every_both (BlockFits z.geo) (λ b. part ws (place_start z (place_of b)) (block_width z.geo) ≡ block_words z.geo b.recs) (λ b. record_count z ws (place_of b) ≤ z.geo.b) (all_blocks t.levels)
      (λ b d s. rw (count_read z ws (place_of b) b.recs d.fits s) d.fits) f k.standing)

-- no level is longer than 2,048 blocks
pub inside_short : (z : Layout) (e t : Store) → Proper z → Inside z.geo e t → (j : ℕ) → length (get_or t.levels j []) ≤ 2048
inside_short z e t v n j =
    dite (dec_lt j z.geo.h)
    (λ y. omega (arith, n.doubled j, level_high z.geo v.valid {i = suc j} y))
    (λ y. let q : get_or t.levels j [] ≡ [] = get_or-eq_default t.levels [] (omega (arith, n.many)) in rw q (omega arith))

-- the places of a level that is l
pub places_new : (z : Layout) (e t : Store) → Inside z.geo e t → (j : ℕ) (l : Level) → get_or t.levels j [] ≡ l → (places_of l ≡ places_at t j) × (length l ≡ length (places_at t j))
places_new z e t n j l q = (
  ap places_of (sym q) ∙ places_are z.geo (get_or t.levels j []) (blocks_at (BlockFits z.geo) t.levels j (inside_fit z.geo e t n)),
  ap length (sym q) ∙ sym (length-map (get_or t.levels j []) place_of),
)

-- level 0 of what stands has room in its words
pub top_fits_lem : (z : Layout) (t : Store) (ws lists : List ℕ) (r : Run) → Stands z t ws lists r → length t.top ≤ top_capacity_of z.geo
unfolding store_of top_recs
top_fits_lem z t ws lists r s =
    let e : take (top_count_at z ws) (top_slots z ws) ≡ t.top = ap (λ (x : Store). x.top) s.store in
    rw (← e, length-take) (omega (arith, top_slots_length z ws))

-- words that hold a store after blocks were written are those with its level 0 laid anew: it stands there already
pub held_words : (z : Layout) (t : Store) (bs : List Block) (ws ws' : List ℕ) → HoldsBut z ws' t → ws' ≡ with_blocks z bs ws → ws' ≡ lay_all (top_part z t) (with_blocks z bs ws)
held_words z t bs ws ws' k e = sym (lay_all_held (top_part z t) ws' k.held) ∙ ap (lay_all (top_part z t)) e

-- What stands. t is a store of a call, in words and lists.
module _ (z : Layout) (e t : Store) (ws lists : List ℕ) (r : Run) (v : Proper z) (n : Inside z.geo e t) where
  -- how it comes to stand
  pub stand : HoldsBut z ws t → length t.top ≤ top_capacity_of z.geo → Listed z.geo.h z.geo.h lists r.ns (places_at t) → r.cursor ≡ t.cursor → Stands z t ws lists r
  unfolding store_of
  stand k h l d =
      let f = inside_fit z.geo e t n in
      let ls = ap (map (λ (l : List ℕ). map (block_at z ws) l)) (lists_are z.geo.h lists r.ns t n.many l) ∙ levels_back z ws t.levels (blocks_read z ws t v f k) in
      let tp = but_top_read z ws t v f k h in
      let lv = but_live z ws t v f k in
      record { store = λ i. record { live = lv i; cursor = d i; top = tp i; levels = ls i }; held = k; listed = l; cursor = d }

  module _ (s : Stands z t ws lists r) where
    fit : Every (BlockFits z.geo) (all_blocks t.levels)
    fit = inside_fit z.geo e t n

    -- the places in use are those that the lists name
    pub used_is : used_in t ≡ named (lists_of z.geo.h lists r.ns)
    used_is = in_use_are t.levels ∙ places_are z.geo (all_blocks t.levels) fit ∙ sym (named_places t.levels) ∙ ap named (sym (lists_are z.geo.h lists r.ns t n.many s.listed))

    -- level j + 1: its blocks are those that its list names
    module _ (j : ℕ) (h : j < z.geo.h) where
      pub level_is : map (block_at z ws) (list_of z.geo.h lists r.ns j) ≡ get_or t.levels j []
      level_is = listed_level z ws t v fit s.held j (list_of z.geo.h lists r.ns j) (s.listed.places j h)

      pub entries_are : (length (list_of z.geo.h lists r.ns j) ≡ get_or r.ns j 0) × (get_or r.ns j 0 ≡ length (get_or t.levels j []))
      entries_are = (ap length (s.listed.places j h) ∙ sym (s.listed.counts j h), count_is z.geo.h lists r.ns t n.many s.listed j)

      -- they fit its part
      pub in_part : get_or r.ns j 0 ≤ part_room z.geo.h (suc j)
      in_part = (part_fits z v (suc j) (get_or r.ns j 0) h (omega (arith, entries_are, n.doubled j))).0

      -- its records can be counted
      pub countable : Countable z ws (list_of z.geo.h lists r.ns j)
      countable = record {
        proper = v;
        words = s.held.long;
        few = omega (arith, entries_are, inside_short z e t v n j);
        place = listed_low z ws t v fit s.held j (list_of z.geo.h lists r.ns j) (s.listed.places j h);
        high = listed_high z ws t v fit s.held j (list_of z.geo.h lists r.ns j) (s.listed.places j h);
      }

      -- and its blocks merged, if their keys rise
      pub mergeables : (used : List Bool) → Marks used (used_in t) → (i : ℕ) → i < length (list_of z.geo.h lists r.ns j) → ListedBlock z ws used (get_or (list_of z.geo.h lists r.ns j) i 0)
      mergeables used m = listed_block_lem z ws t v fit s.held used m j (list_of z.geo.h lists r.ns j) (s.listed.places j h)

      pub stored : (used : List Bool) → Marks used (used_in t) → Rising 0 (records (get_or t.levels j [])) → Stored z ws used (part_of z.geo.h lists (suc j)) (get_or r.ns j 0)
      stored used m rises =
          let c = entries_are in
          record {
            long = omega (arith, in_part, part_of_length z.geo.h (suc j) lists s.listed.long);
            high = omega (arith, c, inside_short z e t v n j);
            blocks = λ i l. subst (ListedBlock z ws used) (get_or-take (get_or r.ns j 0) (part_of z.geo.h lists (suc j)) i 0 l) (mergeables used m i (omega arith));
            rises = ap (λ (x : Level). rising 0 (records x)) level_is ∙ rising_test 0 (records (get_or t.levels j [])) rises;
          }

    pub markable : Markable z.geo.h lists r.ns
    markable = record {
      high = v.valid.ranged.h_high;
      long = s.listed.long;
      fit = in_part;
      low = λ j h i l. omega (arith, (countable j h).place i l, v.valid.places_high);
    }

    -- marks of what the lists name
    pub marking : (used : List Bool) → Marks used (named (lists_of z.geo.h lists r.ns)) × (length used ≡ 8192) → Marking used t
    marking used m = (λ q. rw used_is (m.0 q), m.1)
