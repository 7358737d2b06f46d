-- What put and delete rest on: a record goes into level 0, after the merges that make room for it.
use Prim.Native.Nat.{ℕ, suc, ◌-◌, ◌≤◌, ◌<◌}
use mathlib.Core.Path.{◌≡◌, refl, sym, ap, ◌∙◌, subst}
use mathlib.Core.Bool.{Bool, true, false, ◌||◌, or-true}
use mathlib.Core.List.{List, []}
use native.Mathlib.Nat.{mul-le-mul}
use native.Mathlib.Omega.{arith}
use lib.Dec.{ltb}
use lib.ListN.{length, set}
use borrow.Author.Tests.{lt-ltb, ltb-true}
use Rattle.std.specs.Prelude.{Result, Ok, Err, is_ok}
use Rattle.slices.specs.Ranks.{among, count_below, ranked, rank_of}
use Rattle.geometry.specs.Geometry.{Ranged, top_capacity_of}
use Rattle.geometry.proofs.Laws.{key_limit_high}
use Rattle.levels.specs.Basics.{is_some}
use Rattle.levels.specs.Record.{Rec}
use Rattle.levels.specs.Map.{find, is_live}
use Rattle.levels.specs.Store.{Store, rows}
use Rattle.levels.specs.Call.{Merge, merges_from, after_merges}
use Rattle.levels.specs.Put.{insert, merges_for, with_record, delete_rec}
use Rattle.levels.specs.Sound.{Fits}
use Rattle.levels.proofs.Rising.{rising_test}
use Rattle.levels.proofs.InCall.{ListFacts}
use Rattle.levels.proofs.Entry.{inside_fit}
use Rattle.levels.proofs.CallMerges.{for_none, for_full, full_top, call_facts, call_within, call_top}
use Rattle.levels.proofs.PutDelete.{top_room, enter_is, delete_live, delete_count}
use Rattle.words.specs.Stores.{live_at, top_count_at, top_recs, keys_of, store_at, with_store, with_blocks}
use Rattle.words.specs.Calls.{written_blocks, left_words}
use Rattle.words.specs.Passed.{Passed}
use Rattle.words.proofs.Ranks.{found_is}
use Rattle.words.proofs.Blocks.{blocks_none, blocks_length}
use Rattle.words.proofs.Reason.{passed_count}
use Rattle.top.specs.Top.{TopReady, Room, with_top}
use Rattle.top.proofs.Laws.{with_top_words, top_count_back, top_back, words_ready, top_rises, set_live}
use Rattle.steps.specs.Running.{Tally}
use Rattle.levels.specs.Tickets.{tickets_of}
use Rattle.words.proofs.Rows.{Filed, filed_none, filed_by}
use Rattle.cascade.specs.Cascade.{FullStore, MergedAll}
use Rattle.writer.specs.Change.{room_at, with_entered, Counted, Entered}
use Rattle.layout.proofs.Laws.{fitted_live}
use Rattle.layout.specs.declared.Layout.{Layout}

-- level 0 need not be merged, by the key instead of where it stands
unfoldable pub has_room : Layout → List ℕ → ℕ → Bool
has_room z ws k = is_some (find k (top_recs z ws)) || ltb (top_count_at z ws) (top_capacity_of z.geo)

-- a key is found where it is one of the keys
rank_found : (b : Bool) (i : ℕ) → is_ok (ranked b i) ≡ b
rank_found true i = refl
rank_found false i = refl

-- where the key stands says if there is room
pub room_at_lem : (z : Layout) (ws : List ℕ) (k : ℕ) (at : Result ℕ ℕ) → at ≡ rank_of k (keys_of (top_recs z ws)) → room_at z ws at ≡ has_room z ws k
unfolding room_at has_room
room_at_lem z ws k at e = ap (λ (b : Bool). b || ltb (top_count_at z ws) (top_capacity_of z.geo)) (ap is_ok e ∙ rank_found (among k (keys_of (top_recs z ws))) (count_below k (keys_of (top_recs z ws))) ∙ found_is k (top_recs z ws))

-- where there is room, level 0 takes the record
pub room_is : (z : Layout) (ws : List ℕ) (at : Result ℕ ℕ) → room_at z ws at ≡ true → Room z ws at
unfolding room_at
room_is z ws (Ok i) h = tt
room_is z ws (Err i) h = ltb-true (top_count_at z ws) (top_capacity_of z.geo) h

-- live stands in the words
pub ready_live : (z : Layout) (ws : List ℕ) → TopReady z ws → z.live < length ws
ready_live z ws k = fitted_live z ws (record { proper = k.proper; words = k.words })

-- What the merges of a put or delete of k leave: the store, the words with its blocks written, and all words.
abbrev store_by : Layout → List ℕ → ℕ → Store
store_by z ws k = after_merges (store_at z ws) (merges_for z.geo (store_at z ws) k)

abbrev blocks_by : Layout → List ℕ → ℕ → List ℕ
blocks_by z ws k = with_blocks z (written_blocks (merges_for z.geo (store_at z ws) k)) ws

abbrev left_by : Layout → List ℕ → ℕ → List ℕ
left_by z ws k = left_words z ws (merges_for z.geo (store_at z ws) k) (store_by z ws k)

-- That store.
module _ (z : Layout) (ws : List ℕ) (p : Passed z ws) (k : ℕ) where
  facts : ListFacts z.geo (store_at z ws) (store_at z ws) (merges_for z.geo (store_at z ws) k)
  facts = call_facts z.geo (store_at z ws) p.proper.valid p.fits p.sound k

  -- level 0 has room for the key then
  merged_room : (is_some (find k (store_by z ws k).top) || ltb (length (store_by z ws k).top) (top_capacity_of z.geo)) ≡ true
  merged_room = go (is_some (find k (store_at z ws).top) || ltb (length (store_at z ws).top) (top_capacity_of z.geo)) refl
    where
      go : (b : Bool) → (is_some (find k (store_at z ws).top) || ltb (length (store_at z ws).top) (top_capacity_of z.geo)) ≡ b
          → (is_some (find k (store_by z ws k).top) || ltb (length (store_by z ws k).top) (top_capacity_of z.geo)) ≡ true
      go true e = rw (for_none z.geo (store_at z ws) k e) e
      go false e =
          rw (lt-ltb (length (store_by z ws k).top) (top_capacity_of z.geo) (call_top z.geo (store_at z ws) p.proper.valid p.fits p.sound k e))
          (or-true (is_some (find k (store_by z ws k).top)))

  merged_top : length (store_by z ws k).top ≤ top_capacity_of z.geo
  merged_top = go (is_some (find k (store_at z ws).top) || ltb (length (store_at z ws).top) (top_capacity_of z.geo)) refl
    where
      go : (b : Bool) → (is_some (find k (store_at z ws).top) || ltb (length (store_at z ws).top) (top_capacity_of z.geo)) ≡ b
          → length (store_by z ws k).top ≤ top_capacity_of z.geo
      go true e = rw (for_none z.geo (store_at z ws) k e) p.fits.top_fits
      go false e = omega (arith, call_top z.geo (store_at z ws) p.proper.valid p.fits p.sound k e)

  merged_fits : Fits z.geo (store_by z ws k)
  merged_fits = record {
    level_count = facts.inside.many;
    top_fits = merged_top;
    level_fits = λ i h. call_within z.geo (store_at z ws) p.proper.valid p.fits p.sound k (suc i) (omega arith) (omega arith);
    blocks_fit = inside_fit z.geo (store_at z ws) (store_by z ws k) facts.inside;
  }

  merged_long : length (blocks_by z ws k) ≡ z.length
  merged_long = blocks_length z (written_blocks (merges_for z.geo (store_at z ws) k)) ws ∙ p.long

  -- its words
  module _ (us : List ℕ) (e : us ≡ left_by z ws k) where
    is_words : us ≡ with_store z (store_by z ws k) (blocks_by z ws k)
    unfolding left_words
    is_words = e

    top_is : top_recs z us ≡ (store_by z ws k).top
    top_is =
        ap (top_recs z) is_words
        ∙ top_back z (store_by z ws k) (blocks_by z ws k) p.proper merged_fits merged_long

    count_is : top_count_at z us ≡ length (store_by z ws k).top
    count_is =
        ap (top_count_at z) is_words
        ∙ top_count_back z (store_by z ws k) (blocks_by z ws k) p.proper merged_fits merged_long

    pub merged_ready : TopReady z us
    merged_ready =
        subst (TopReady z) (sym is_words)
        (words_ready z (store_by z ws k) (blocks_by z ws k) p.proper merged_fits merged_long
        (rising_test 0 (store_by z ws k).top facts.inside.sorted.0))

    pub merged_has : has_room z us k ≡ true
    unfolding has_room
    merged_has = rw (top_is, count_is) merged_room

    -- the record and live entered there
    pub merged_entered : (r : Rec) (live : ℕ) → r.key ≡ k → with_entered z us r live ≡ left_words z ws (merges_for z.geo (store_at z ws) k) (with_record r live (store_by z ws k))
    unfolding with_entered left_words
    merged_entered r live q =
        let t : Store = store_by z ws k in
        let xs : List ℕ = blocks_by z ws k in
        let u : Store = record { live = t.live; cursor = t.cursor; top = insert r t.top; levels = t.levels } in
        let room : length (insert r t.top) ≤ top_capacity_of z.geo = subst (λ (x : ℕ). length (insert r (after_merges (store_at z ws) (merges_for z.geo (store_at z ws) x)).top) ≤ top_capacity_of z.geo) q (top_room z.geo (store_at z ws) p.proper.valid p.fits p.sound r live) in
        let fits : Fits z.geo u = record { level_count = merged_fits.level_count; top_fits = room; level_fits = merged_fits.level_fits; blocks_fit = merged_fits.blocks_fit } in
        ap (λ (rs : List Rec). set (with_top z us (insert r rs)) z.live live) top_is
        ∙ ap (λ (xs : List ℕ). set (with_top z xs (insert r t.top)) z.live live) is_words
        ∙ ap (λ (xs : List ℕ). set xs z.live live) (with_top_words z t xs p.proper merged_fits merged_long (insert r t.top) room)
        ∙ set_live z u xs p.proper fits merged_long live

-- A store that passes.
module _ (z : Layout) (ws : List ℕ) (p : Passed z ws) where
  top_count : top_count_at z ws ≡ length (store_at z ws).top
  top_count = passed_count z ws p

  -- it is ready for level 0's edits
  pub holds_ready : TopReady z ws
  holds_ready =
      subst (TopReady z) p.written
      (words_ready z (store_at z ws) ws p.proper p.fits p.long (top_rises z (store_at z ws) p.sound))

  pub holds_ranged : Ranged z.geo
  holds_ranged = p.proper.valid.ranged

  -- live stands in the words, which are few
  pub holds_live : (z.live < length ws) × (length ws ≤ 400000)
  holds_live = (fitted_live z ws (record { proper = p.proper; words = p.long }), rw p.long p.proper.short)

  -- live is small, and at least 1 if a key is live
  pub live_small : live_at z ws ≤ 16384
  unfolding store_at
  live_small =
      let v = p.proper.valid in
      omega (arith, p.sound.live_fits, key_limit_high z.geo v, mul-le-mul v.ranged.b_high v.bottom_high)

  pub live_some : (k : ℕ) → is_live k (rows (store_at z ws)) ≡ true → 1 ≤ live_at z ws
  unfolding store_at
  live_some k h =
      let s : Store = store_at z ws in
      omega (arith, p.sound.live_exact, delete_count z.geo s p.proper.valid p.fits p.sound k true (merges_for z.geo s k) (with_record (delete_rec k) (s.live - 1) (after_merges s (merges_for z.geo s k))) (delete_live z.geo s k h ∙ enter_is z.geo s (delete_rec k) true (s.live - 1)))

  module _ (k : ℕ) where
    test_is : has_room z ws k ≡ (is_some (find k (store_at z ws).top) || ltb (length (store_at z ws).top) (top_capacity_of z.geo))
    unfolding has_room store_at
    test_is = rw top_count

    -- with room there are no merges
    none_made : has_room z ws k ≡ true → merges_for z.geo (store_at z ws) k ≡ []
    none_made h = for_none z.geo (store_at z ws) k (sym test_is ∙ h)

    none_left : has_room z ws k ≡ true → ws ≡ left_by z ws k
    unfolding left_words
    none_left h =
        sym (ap (with_store z (store_at z ws)) (blocks_none z ws) ∙ p.written) ∙ ap (λ (ms : List Merge). left_words z ws ms (after_merges (store_at z ws) ms)) (sym (none_made h))

    -- without room level 0 is full, and merged
    pub full_store : has_room z ws k ≡ false → FullStore z ws
    full_store h =
        record {
          passed = p;
          full = top_count ∙ full_top z.geo (store_at z ws) p.proper.valid p.fits p.sound k (sym test_is ∙ h);
        }

    all_made : has_room z ws k ≡ false → merges_for z.geo (store_at z ws) k ≡ merges_from z.geo (store_at z ws)
    all_made h = for_full z.geo (store_at z ws) k (sym test_is ∙ h)

    all_left : (us : List ℕ) (t : Tally) → has_room z ws k ≡ false → MergedAll z ws us t → us ≡ left_by z ws k
    all_left us t h m = m.words ∙ ap (λ (ms : List Merge). left_words z ws ms (after_merges (store_at z ws) ms)) (sym (all_made h))

    -- and then ready for the record
    pub all_ready : (us : List ℕ) (t : Tally) → has_room z ws k ≡ false → MergedAll z ws us t → TopReady z us × (has_room z us k ≡ true)
    all_ready us t h m =
        let q = all_left us t h m in
        (merged_ready z ws p k us q, merged_has z ws p k us q)

  -- The record is entered, with no merges and after them.
  pub none_entered : (r : Rec) (live : ℕ) (t : Tally) (out : List ℕ) → has_room z ws r.key ≡ true → Counted t [] → out ≡ with_entered z ws r live → Entered z ws r live t out
  none_entered r live t out h n w = record {
    words = w ∙ merged_entered z ws p r.key ws (none_left r.key h) r live refl;
    counts = subst (Counted t) (sym (none_made r.key h)) n;
  }

  pub all_entered : (r : Rec) (live : ℕ) (us : List ℕ) (t : Tally) (out : List ℕ) → has_room z ws r.key ≡ false → MergedAll z ws us t → out ≡ with_entered z us r live → Entered z ws r live t out
  all_entered r live us t out h m w = record {
    words = w ∙ merged_entered z ws p r.key us (all_left r.key us t h m) r live refl;
    counts = subst (Counted t) (sym (all_made r.key h)) (record { one = m.one; two = m.two; three = m.three });
  }

  -- The tickets of its merges are filed: none, and all.
  pub none_filed : (k : ℕ) (rows : List (List ℕ)) → has_room z ws k ≡ true → Filed (tickets_of z.geo (merges_for z.geo (store_at z ws) k)) rows rows
  none_filed k rows h = filed_none _ rows (ap (tickets_of z.geo) (none_made k h))

  pub all_filed : (k : ℕ) (rows rows' : List (List ℕ)) → has_room z ws k ≡ false → Filed (tickets_of z.geo (merges_from z.geo (store_at z ws))) rows rows' → Filed (tickets_of z.geo (merges_for z.geo (store_at z ws) k)) rows rows'
  all_filed k rows rows' h f = filed_by _ _ rows rows' (ap (tickets_of z.geo) (all_made k h)) f
