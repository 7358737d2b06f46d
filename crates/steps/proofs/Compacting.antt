-- Step 5 for one level, on words and lists.
use Prim.Native.Nat.{ℕ, zero, suc, ◌+◌, ◌-◌, ◌≤◌, ◌<◌}
use mathlib.Core.Path.{◌≡◌, refl, sym, ap, ◌∙◌, subst}
use mathlib.Core.Bool.{Bool, true, false}
use mathlib.Core.List.{List, [], ◌∷◌, map, append-nil}
use mathlib.Core.Logic.{◌≢◌}
use native.Mathlib.Decide.{ℕ_discrete}
use native.Mathlib.Nat.{add-zero}
use native.Mathlib.Omega.{arith}
use lib.Dec.{eqb}
use lib.ListN.{length, take, drop, get_or, set, length-set}
use lib.Seq.{get_or-set_same, get_or-set_other}
use borrow.Author.Tests.{eq-eqb, ne_eqb}
use Rattle.slices.specs.Slices.{put_at}
use Rattle.levels.specs.Basics.{if◌then◌otherwise◌}
use Rattle.levels.specs.Waste.{needs_compact}
use Rattle.levels.specs.Waste as waste
use Rattle.levels.specs.Place.{Allocation, Settled, settle, places_of}
use Rattle.levels.specs.Store.{Store, used_in, allocation_of}
use Rattle.levels.specs.Call.{Compaction, compact_level, compact_if_needed, after_compactions}
use Rattle.levels.specs.Count.{blocks_compacted}
use Rattle.levels.specs.Count as levels
use Rattle.levels.specs.InCall.{CompactionFacts}
use Rattle.levels.proofs.Room.{compact_room_numbers}
use Rattle.levels.proofs.StoreRows.{set_at}
use Rattle.levels.proofs.Inside.{inside_used}
use Rattle.levels.proofs.CompactInside.{compact_facts, compaction_newly}
use Rattle.words.specs.Stores.{block_at, place_of}
use Rattle.words.specs.Calls.{compacted_blocks}
use Rattle.words.proofs.Blocks.{blocks_none}
use Rattle.words.proofs.Steps.{standing_compaction}
use Rattle.lists.specs.Flat.{part_start, part_room, part_of}
use Rattle.lists.specs.Lists.{list_of, lists_of, Listed, places_at}
use Rattle.lists.specs.Holds.{HoldsBut}
use Rattle.lists.proofs.Flat.{part_inside, part_fits}
use Rattle.lists.proofs.Arrays.{listed_put}
use Rattle.lists.proofs.Laws.{but_blocks}
use Rattle.blocks.specs.Blocks.{Marks}
use Rattle.merging.specs.declared.Merged.{Merged}
use Rattle.merging.specs.Contract.{Leaves}
use Rattle.compaction.specs.Machine.{Countable, Compactable}
use Rattle.pair.proofs.Room.{count_few}
use Rattle.steps.specs.declared.Counts.{Counts}
use Rattle.steps.specs.declared.Run.{Run}
use Rattle.steps.specs.Running.{Tally, counts_in, no_counts, named, store_of, Marking, numbers_of, plus, sum_of, index_of, counted, Grown, Leaving, Running, compacted_counts}
use Rattle.steps.proofs.Standing.{inside_short, stand, top_fits_lem, held_words, places_new, level_is, entries_are, in_part, countable, mergeables, marking}
use Rattle.layout.specs.declared.Layout.{Layout}

-- the clauses of compact_if_needed, as laws
pub needed_is : (z : Layout) (t : Store) (j : ℕ) → needs_compact z.geo.b (get_or t.levels j []) ≡ true → compact_if_needed z.geo (suc j) t ≡ compact_level z.geo (suc j) t ∷ []
unfolding compact_if_needed
needed_is z t j h = rw (h, compact_if_needed)

pub not_needed : (z : Layout) (t : Store) (j : ℕ) → needs_compact z.geo.b (get_or t.levels j []) ≡ false → compact_if_needed z.geo (suc j) t ≡ []
unfolding compact_if_needed
not_needed z t j h = rw (h, compact_if_needed)

-- The tally. Nothing more:
pub same_counts : (a b : levels.Counts) → b.merges ≡ 0 → b.written ≡ 0 → b.compacted ≡ 0 → a ≡ plus a b
same_counts a b x y z =
    let m : a.merges ≡ a.merges + b.merges = omega arith in
    let w : a.written ≡ a.written + b.written = omega arith in
    let c : a.compacted ≡ a.compacted + b.compacted = omega arith in
    λ i. record { merges = m i; written = w i; compacted = c i }

pub grown_none : (f : ℕ → levels.Counts) (t : Tally) → ((j : ℕ) → ((f j).merges ≡ 0) × ((f j).written ≡ 0) × ((f j).compacted ≡ 0)) → Grown f t t
grown_none f t h = (refl, λ j l. let n = h (suc j) in same_counts (numbers_of (counts_in t j)) (f (suc j)) n.0 n.1 n.2)

abbrev none : levels.Counts
none = numbers_of no_counts

-- where the counts of level j + 1 stand
index_is : (level j : ℕ) → level ≡ suc j → level ≤ 3 → index_of level ≡ j
index_is level zero e h = ap index_of e
index_is level (suc zero) e h = ap index_of e
index_is level (suc (suc zero)) e h = ap index_of e
index_is level (suc (suc (suc j))) e h = absurd (omega arith)

-- c more at the entry one below a level's number, whatever the level, where the tally has that entry
pub grown_at : (f : ℕ → levels.Counts) (t u : Tally) (level j : ℕ) (c : Counts) → level ≡ suc j → j < length t → u ≡ set t (level - 1) (sum_of (counts_in t (level - 1)) c) → ((i : ℕ) → f i ≡ (if eqb level i then numbers_of c otherwise none)) → Grown f t u
grown_at f t u level j c el h e q =
    let b : level - 1 ≡ j = omega arith in
    let d : u ≡ set t j (sum_of (counts_in t j) c) = e ∙ rw b in
    rw d (length-set t j (sum_of (counts_in t j) c), λ i l. more i (ℕ_discrete i j))
  where
    more : (i : ℕ) → Dec (i ≡ j) → numbers_of (counts_in (set t j (sum_of (counts_in t j) c)) i) ≡ plus (numbers_of (counts_in t i)) (f (suc i))
    more i (yes y) = rw (y, get_or-set_same t j (sum_of (counts_in t j) c) no_counts h) (ap (plus (numbers_of (counts_in t j))) (sym (q (suc j) ∙ rw (eq-eqb level (suc j) el))))
    more i (no n) =
        rw (get_or-set_other t j i (sum_of (counts_in t j) c) no_counts n)
        (same_counts (numbers_of (counts_in t i)) none refl refl refl ∙ ap (plus (numbers_of (counts_in t i))) (sym (q (suc i) ∙ rw (ne_eqb level (suc i) (λ y. n (omega arith))))))

-- c more for level j + 1
pub grown_counted : (f : ℕ → levels.Counts) (t u : Tally) (level j : ℕ) (c : Counts) → level ≡ suc j → level ≤ 3 → j < length t → u ≡ counted t level c → ((i : ℕ) → f i ≡ (if eqb level i then numbers_of c otherwise none)) → Grown f t u
grown_counted f t u level j c el l3 h e q =
    let b : j ≡ level - 1 = omega arith in
    grown_at f t u level j c el h (e ∙ rw (index_is level j el l3 ∙ b)) q

-- the counts of one compaction
compacted_one : (c : Compaction) (n level : ℕ) → c.level ≡ level → blocks_compacted c ≡ n → (i : ℕ) → compacted_counts (c ∷ []) i ≡ (if eqb level i then (record { merges = 0; written = 0; compacted = n }) otherwise none)
compacted_one c n level e b i =
    ap (λ (x : ℕ). of ((if eqb x i then blocks_compacted c otherwise 0) + 0)) e ∙ ap (λ (x : ℕ). of ((if eqb level i then x otherwise 0) + 0)) b ∙ go (eqb level i)
  where
    of : ℕ → levels.Counts
    of x = record { merges = 0; written = 0; compacted = x }

    go : (t : Bool) → ◌≡◌ {A = levels.Counts} (record { merges = 0; written = 0; compacted = (if t then n otherwise 0) + 0 }) (if t then (record { merges = 0; written = 0; compacted = n }) otherwise none)
    go true = ap (λ (x : ℕ). record { merges = 0; written = 0; compacted = x }) (add-zero n)
    go false = refl

-- what step 5 for a level leaves alone: level 0, and every other level
needed_keeps : (z : Layout) (t : Store) (j : ℕ) → ((after_compactions t (compact_if_needed z.geo (suc j) t)).top ≡ t.top) × ((i : ℕ) → i ≢ j → get_or (after_compactions t (compact_if_needed z.geo (suc j) t)).levels i [] ≡ get_or t.levels i [])
unfolding compact_level
needed_keeps z t j = go (needs_compact z.geo.b (get_or t.levels j [])) refl
  where
    Keeps : List Compaction → Type 0
    Keeps cs = ((after_compactions t cs).top ≡ t.top) × ((i : ℕ) → i ≢ j → get_or (after_compactions t cs).levels i [] ≡ get_or t.levels i [])

    go : (b : Bool) → needs_compact z.geo.b (get_or t.levels j []) ≡ b → Keeps (compact_if_needed z.geo (suc j) t)
    go true e = subst Keeps (sym (needed_is z t j e)) (refl, λ i n. set_at [] (λ l. l ≡ get_or t.levels i []) t.levels j _ i (λ y. absurd (n y)) refl)
    go false e = subst Keeps (sym (not_needed z t j e)) (refl, λ i n. refl)

-- Step 5 for level j + 1, whose list is lent.
module _ (z : Layout) (ws lists : List ℕ) (r : Run) (k : Running 2000000000 z ws lists r) (j level x : ℕ) (el : level ≡ suc j) (high : level ≤ z.geo.h) (ex : x ≡ z.geo.h) where
  abbrev t : Store
  t = store_of z ws lists r

  low : j < z.geo.h
  low = omega arith

  -- what `entries` asks
  pub entries_ask : (level ≤ x) × ((x ≤ 3) × ((get_or r.ns j 0 ≤ part_room x level) × (length lists ≡ 4096)))
  entries_ask = rw (ex, el) (low, (k.proper.valid.ranged.h_high, (in_part z k.entry t ws lists r k.proper k.inside k.stands j low, k.stands.listed.long)))

  -- what it lends
  abbrev list : List ℕ
  list = take (get_or r.ns j 0) (part_of x lists level)

  list_is : list ≡ list_of z.geo.h lists r.ns j
  list_is = rw (ex, el)

  -- what `needs_compacting` asks
  pub due_asks : Countable z ws list
  due_asks = rw list_is (countable z k.entry t ws lists r k.proper k.inside k.stands j low)

  blocks_are : map (block_at z ws) list ≡ get_or t.levels j []
  blocks_are = ap (map (block_at z ws)) list_is ∙ level_is z k.entry t ws lists r k.proper k.inside k.stands j low

  -- a level that does not need compacting
  pub kept_level : needs_compact z.geo.b (map (block_at z ws) list) ≡ false → (s : Store) → s ≡ t
      → Leaving z (after_compactions s (compact_if_needed z.geo level s)) (compacted_blocks (compact_if_needed z.geo level s)) (compacted_counts (compact_if_needed z.geo level s)) ws r ws lists r
  kept_level h s es =
      rw (es, el, not_needed z t j (ap (needs_compact z.geo.b) (sym blocks_are) ∙ h)) (record { stands = k.stands; words = held_words z t [] ws ws k.stands.held (sym (blocks_none z ws)); counts = grown_none (compacted_counts []) r.tally (λ i. (refl, refl, refl)) })

  -- a level that needs it, with the marks of the places in use
  module _ (h : needs_compact z.geo.b (map (block_at z ws) list) ≡ true) (used : List Bool) (ms : Marks used (named (lists_of x lists r.ns)) × (length used ≡ 8192)) where
    marks : Marking used t
    marks = marking z k.entry t ws lists r k.proper k.inside k.stands used (rw ex at ms)

    needs : needs_compact z.geo.b (get_or t.levels j []) ≡ true
    needs = ap (needs_compact z.geo.b) (sym blocks_are) ∙ h

    c : Compaction
    c = compact_level z.geo (suc j) t

    facts : CompactionFacts z.geo k.entry c
    unfolding c
    facts = compact_facts z.geo k.entry t j k.proper.valid low k.inside needs

    st : Settled
    st = settle z.geo.p (allocation_of t) (waste.compact z.geo.b (get_or t.levels j []))

    here : get_or c.finish.levels j [] ≡ st.level
    unfolding c st compact_level
    here = get_or-set_same t.levels j st.level [] (omega (arith, k.inside.many, low))

    new : (places_of st.level ≡ places_at c.finish j) × (length st.level ≡ length (places_at c.finish j))
    new = places_new z k.entry c.finish facts.finish_inside j st.level here

    fits : length st.level ≤ part_room z.geo.h (suc j)
    fits = (part_fits z k.proper (suc j) (length st.level) low (omega (arith, facts.finish_inside.doubled j, ap length here))).0

    -- what `compact` asks
    pub list_asks : Compactable z ws used list r.cursor
    list_asks =
        let s = k.stands in
        let e = entries_are z k.entry t ws lists r k.proper k.inside s j low in
        rw list_is
        (record {
          proper = k.proper;
          words = s.held.long;
          marks_long = marks.1;
          cursor_low = omega (arith, s.cursor, k.inside.cursor);
          few = omega (arith, e, inside_short z k.entry t k.proper k.inside j);
          blocks = mergeables z k.entry t ws lists r k.proper k.inside s j low used marks.0;
          free = omega (arith, e, count_few z.geo.p used (used_in t) marks.0, compact_room_numbers z.geo j (length (used_in t)) (get_or r.ns j 0) k.proper.valid low (inside_used z.geo k.entry t k.inside) (omega (arith, e, k.inside.doubled j)));
        })

    -- what it leaves
    module _ (ws' : List ℕ) (used' : List Bool) (out : List ℕ) (m : Merged)
        (left : (a : Allocation) → a.cursor ≡ r.cursor → Marks used a.used → Leaves z (settle z.geo.p a (waste.compact z.geo.b (map (block_at z ws) list))) ws ws' used' out m) where
      left_is : Leaves z st ws ws' used' out m
      unfolding st
      left_is = rw blocks_are at (left (allocation_of t) (sym k.stands.cursor) marks.0)

      pub out_long : 4096 ≡ length out
      out_long = sym left_is.list_long

      pub list_few : m.writes ≤ 8192
      unfolding c st compact_level
      list_few = omega (arith, facts.room, left_is.writes, k.proper.valid.places_high)

      -- the new list, put in its place
      module _ (at : ℕ) (ea : at ≡ part_start x level) where
        at_is : at ≡ part_start z.geo.h (suc j)
        at_is = ea ∙ rw (ex, el)

        pub copy_asks : (0 + m.count ≤ length out) × (at + m.count ≤ length lists)
        copy_asks = (omega (arith, left_is.count_high, left_is.list_long), omega (arith, at_is, left_is.count, fits, k.stands.listed.long, part_inside z.geo.h (suc j)))

        relisted : Listed z.geo.h z.geo.h (put_at at (take m.count (drop 0 out)) lists) (set r.ns j m.count) (places_at c.finish)
        unfolding c st
        relisted =
            let q : length (places_of st.level) ≡ m.count = ap length new.0 ∙ sym new.1 ∙ sym left_is.count in
            rw (at_is, left_is.list, ← q)
            (listed_put z.geo.h z.geo.h z.geo.h j lists r.ns (places_of st.level) (places_at t) (places_at c.finish) k.stands.listed low (omega arith) (omega arith) k.proper.valid.ranged.h_high (λ i a b. a)
            (omega (arith, q, left_is.count, fits)) (sym new.0) (λ i a. ap (map place_of) (other i a)))
          where
            other : (i : ℕ) → i ≢ j → get_or c.finish.levels i [] ≡ get_or t.levels i []
            other = rw (needed_is z t j needs) at (needed_keeps z t j).1

        pub compacted : (lists' : List ℕ) (u : Run) (tally : Tally) → lists' ≡ put_at at (take m.count (drop 0 out)) lists → tally ≡ counted r.tally level (record { merges = 0; written = 0; compacted = m.writes })
            → u ≡ record { ns = set r.ns j m.count; cursor = m.cursor; tally = tally } → (s : Store) → s ≡ t
            → Leaving z (after_compactions s (compact_if_needed z.geo level s)) (compacted_blocks (compact_if_needed z.geo level s)) (compacted_counts (compact_if_needed z.geo level s)) ws r ws' lists' u
        unfolding c st compact_level
        compacted lists' u tally ep et eu s es =
            let fits = top_fits_lem z t ws lists r k.stands in
            let held : HoldsBut z ws' c.finish = rw left_is.words (but_blocks z ws st.written t c.finish k.proper k.stands.held refl refl fits (standing_compaction z k.proper k.entry c ws k.stands.held.long facts k.stands.held.standing)) in
            let w : blocks_compacted c ≡ m.writes = compaction_newly z.geo k.entry c facts ∙ sym left_is.writes in
            rw (es, el, needed_is z t j needs, eu, append-nil, ep)
            (record {
              stands = stand z k.entry c.finish ws' _ _ k.proper facts.finish_inside held fits relisted left_is.cursor;
              words = held_words z c.finish st.written ws ws' held left_is.words;
              counts = grown_counted (compacted_counts (c ∷ [])) r.tally tally level j (record { merges = 0; written = 0; compacted = m.writes }) el (omega (arith, el, low, k.proper.valid.ranged.h_high)) (omega (arith, low, k.proper.valid.ranged.h_high, k.small.three)) et
                  (λ i. compacted_one c m.writes (suc j) refl w i ∙ ap (λ (x : ℕ). if eqb x i then (record { merges = 0; written = 0; compacted = m.writes }) otherwise none) (sym el));
            })
