-- Demand 2 on words: the map of the words that format, a put and a delete leave, what is looked up in them, and refusal 5.
use Prim.Native.Nat.{ℕ, ◌≤◌}
use mathlib.Core.Path.{◌≡◌, refl, sym, ◌∙◌, ap, subst}
use mathlib.Core.Bool.{Bool, true, false, true≢false}
use mathlib.Core.List.{List, []}
use mathlib.Core.Option.{Option, none, some}
use mathlib.Core.Logic.{◌≢◌}
use native.Mathlib.Omega.{arith}
use lib.Dec.{eqb}
use lib.ListN.{length}
use borrow.Author.Tests.{eqb-true, eq-eqb}
use Rattle.geometry.specs.declared.Geometry.{Geometry}
use Rattle.geometry.specs.Geometry.{key_limit_of}
use Rattle.levels.specs.Basics.{is_some}
use Rattle.levels.specs.Record.{Rec, has_tombstone}
use Rattle.levels.specs.Map.{find, view, is_live, map_of, live_count, first_from, next}
use Rattle.levels.specs.Store.{Store, rows}
use Rattle.levels.specs.Call.{Merge}
use Rattle.levels.specs.Put.{Change, refused, absent, entered, insert, put, delete, without, put_rec}
use Rattle.levels.specs.Rising.{Rising, Risings}
use Rattle.levels.specs.Sound.{Fits}
use Rattle.levels.proofs.Insert.{without_none, find_insert, find_insert_other, find_without, find_without_other}
use Rattle.levels.proofs.View.{test_risings, unmarked_clean, map_rising, look_up_find, is_live_find, Smallest, first_from_smallest}
use Rattle.levels.proofs.Empty.{empty_map}
use Rattle.levels.proofs.PutDelete.{EnterFacts, PutSays, DeleteSays, put_says, delete_says, put_map, delete_map, put_full}
use Rattle.words.specs.Stores.{geometry_at, live_at, store_at, layout_at, with_blocks, with_store}
use Rattle.words.specs.Form.{reason_of}
use Rattle.words.specs.Calls.{Outcome, ChangeAnswer, map_at, look_answer, next_answer, written_blocks, left_words, change_answer, change_outcome, format_of, look_up_of, next_of, put_of, delete_of}
use Rattle.words.specs.Passed.{Passed, Standing}
use Rattle.words.proofs.State.{read_back}
use Rattle.words.proofs.Reason.{size_legal, reason_passed, reason_most, blocks_geometry, layout_same, with_geometry}
use Rattle.words.proofs.Steps.{entered_standing, put_of_lem, delete_of_lem, put_passes, delete_passes}
use Rattle.words.proofs.Formatted.{format_sizes, format_leaves, format_holds_empty}
use Rattle.layout.specs.Layouts.{Proper}
use Rattle.layout.specs.declared.Layout.{Layout}
use Rattle.words.proofs.Blocks.{blocks_length}

-- the map of the words of a store is the store's
map_back : (ws us : List ℕ) (s : Store) → Proper (layout_at ws) → geometry_at us ≡ geometry_at ws → length us ≡ (layout_at ws).length → Fits (layout_at ws).geo s → Standing (layout_at ws) us s.levels → map_at (with_store (layout_at ws) s us) ≡ map_of (rows s)
map_back ws us s k g l f d =
    let z : Layout = layout_at ws in
    ap (λ (x : Layout). map_of (rows (store_at x (with_store z s us)))) (layout_same (with_store z s us) ws (with_geometry ws us s k f l g)) ∙ ap (λ (x : Store). map_of (rows x)) (read_back z s us k f l d)

-- "Format": the map has no key
pub format_map : (ws : List ℕ) (g : Geometry) → (format_of ws g).answer.reason ≡ 0 → map_at (format_of ws g).words ≡ []
format_map ws g e =
    let y = format_sizes ws g e in
    ap map_at (format_leaves ws g y) ∙ ap (λ (x : Store). map_of (rows x)) (format_holds_empty g (size_legal (length ws) g y).0) ∙ empty_map g

-- the words that a call leaves which enters a record
left_map : (ws : List ℕ) (r : Rec) (was : Bool) (live : ℕ) (ms : List Merge) (t : Store) → Passed (layout_at ws) ws → EnterFacts (layout_at ws).geo (store_at (layout_at ws) ws) r was live ms t → map_at (left_words (layout_at ws) ws ms t) ≡ map_of (rows t)
unfolding left_words
left_map ws r was live ms t p f =
    let z : Layout = layout_at ws in
    map_back ws (with_blocks z (written_blocks ms) ws) t p.proper (blocks_geometry ws (written_blocks ms) p.proper p.long) (blocks_length z (written_blocks ms) ws ∙ p.long) f.fits (entered_standing z ws r was live ms t p f)

pub none_is : (o : Option Rec) → is_some o ≡ false → o ≡ none
none_is none q = refl
none_is (some r) q = absurd (true≢false q)

sorted : (ws : List ℕ) → reason_of ws ≡ 0 → Risings (rows (store_at (layout_at ws) ws))
sorted ws e = test_risings (rows (store_at (layout_at ws) ws)) (reason_passed ws e).sound.keys_rise

-- A key is live if the map has it.
pub live_in_map : (ws : List ℕ) (k : ℕ) → reason_of ws ≡ 0 → is_live k (rows (store_at (layout_at ws) ws)) ≡ is_some (find k (map_at ws))
live_in_map ws k e = is_live_find k (rows (store_at (layout_at ws) ws)) (sorted ws e)

-- a key that is not live is not in the map
not_found : (ws : List ℕ) (k : ℕ) → reason_of ws ≡ 0 → is_live k (rows (store_at (layout_at ws) ws)) ≡ false → find k (map_at ws) ≡ none
not_found ws k e h = none_is (find k (map_at ws)) (sym (live_in_map ws k e) ∙ h)

-- Look up answers what the map has.
pub look_up_map : (ws : List ℕ) (k : ℕ) → reason_of ws ≡ 0 → look_up_of ws k ≡ look_answer (find k (map_at ws))
unfolding look_up_of
look_up_map ws k e = rw (eq-eqb (reason_of ws) 0 e, look_up_of) (ap look_answer (look_up_find k (rows (store_at (layout_at ws) ws)) (sorted ws e)))

-- Next answers the first record of the map at or above k.
pub next_map : (ws : List ℕ) (k : ℕ) → reason_of ws ≡ 0 → next_of ws k ≡ next_answer (first_from k (map_at ws))
unfolding next_of next
next_map ws k e = rw (eq-eqb (reason_of ws) 0 e, next_of)

-- the map's keys rise, no record of it is a mark
pub map_rises : (ws : List ℕ) → reason_of ws ≡ 0 → Rising 0 (map_at ws)
map_rises ws e = map_rising (rows (store_at (layout_at ws) ws)) (sorted ws e)

pub map_unmarked : (ws : List ℕ) → has_tombstone (map_at ws) ≡ false
unfolding map_of
map_unmarked ws = unmarked_clean (view (rows (store_at (layout_at ws) ws)))

-- so Next's record has the smallest key of the map at or above k
pub next_smallest_map : (ws : List ℕ) (k : ℕ) → reason_of ws ≡ 0 → Smallest k (λ j. find j (map_at ws)) (first_from k (map_at ws))
next_smallest_map ws k e = first_from_smallest k 0 (map_at ws) (map_rises ws e)

-- "no lent word changes" where a put or delete is turned down, whatever the words are
kept_words : (z : Layout) (ws : List ℕ) (c : Change) → (change_outcome z ws c).answer.reason ≢ 0 → (change_outcome z ws c).words ≡ ws
unfolding change_outcome
kept_words z ws (refused n) h = refl
kept_words z ws absent h = refl
kept_words z ws (entered was ms t) h = absurd (h refl)

pub put_refused_words : (ws : List ℕ) (k v : ℕ) → (put_of ws k v).answer.reason ≢ 0 → (put_of ws k v).words ≡ ws
unfolding put_of
put_refused_words ws k v h = kept_words (layout_at ws) ws _ h

pub delete_refused_words : (ws : List ℕ) (k : ℕ) → (delete_of ws k).answer.reason ≢ 0 → (delete_of ws k).words ≡ ws
unfolding delete_of
delete_refused_words ws k h = kept_words (layout_at ws) ws _ h

-- a put and a delete leave the six words of the geometry
left_geometry : (ws : List ℕ) (r : Rec) (was : Bool) (live : ℕ) (ms : List Merge) (t : Store) → Passed (layout_at ws) ws → EnterFacts (layout_at ws).geo (store_at (layout_at ws) ws) r was live ms t → geometry_at (left_words (layout_at ws) ws ms t) ≡ geometry_at ws
unfolding left_words
left_geometry ws r was live ms t p f =
    with_geometry ws (with_blocks (layout_at ws) (written_blocks ms) ws) t p.proper f.fits (blocks_length (layout_at ws) (written_blocks ms) ws ∙ p.long) (blocks_geometry ws (written_blocks ms) p.proper p.long)

-- Words that pass the form check.
module _ (ws : List ℕ) (e : reason_of ws ≡ 0) where
  -- "a finite map fed with the same accepted puts and deletes": after a put the map has its record for its key
  pub put_enters : (k v : ℕ) → (put_of ws k v).answer.reason ≡ 0 → map_at (put_of ws k v).words ≡ insert (put_rec k v) (map_at ws)
  unfolding change_outcome
  put_enters k v q =
      let p = reason_passed ws e in
      let o = put_of_lem ws k v e in
      ap (λ (x : Outcome ChangeAnswer). map_at x.words) o
      ∙ go (put (layout_at ws).geo (store_at (layout_at ws) ws) k v) refl (put_says (layout_at ws).geo (store_at (layout_at ws) ws) p.proper.valid p.fits p.sound k v) (sym (ap (λ (x : Outcome ChangeAnswer). x.answer.reason) o) ∙ q)
    where
      go : (c : Change) → put (layout_at ws).geo (store_at (layout_at ws) ws) k v ≡ c → PutSays (layout_at ws).geo (store_at (layout_at ws) ws) k v c → (change_outcome (layout_at ws) ws c).answer.reason ≡ 0
          → map_at (change_outcome (layout_at ws) ws c).words ≡ insert (put_rec k v) (map_at ws)
      go (refused n) d h z = absurd (omega (arith, h.0, z))
      go absent d h z = absurd h
      go (entered was ms t) d h z =
          let p = reason_passed ws e in
          left_map ws _ was _ ms t p h ∙ put_map (layout_at ws).geo (store_at (layout_at ws) ws) p.proper.valid p.fits p.sound k v was ms t d

  -- and after a delete it is without its key
  pub delete_takes_out : (k : ℕ) → (delete_of ws k).answer.reason ≡ 0 → map_at (delete_of ws k).words ≡ without k (map_at ws)
  unfolding change_outcome
  delete_takes_out k q =
      let p = reason_passed ws e in
      ap (λ (x : Outcome ChangeAnswer). map_at x.words) (delete_of_lem ws k e)
      ∙ go (delete (layout_at ws).geo (store_at (layout_at ws) ws) k) refl (delete_says (layout_at ws).geo (store_at (layout_at ws) ws) p.proper.valid p.fits p.sound k)
    where
      go : (c : Change) → delete (layout_at ws).geo (store_at (layout_at ws) ws) k ≡ c → DeleteSays (layout_at ws).geo (store_at (layout_at ws) ws) k c
          → map_at (change_outcome (layout_at ws) ws c).words ≡ without k (map_at ws)
      go (refused n) d h = absurd h
      go absent d h = sym (without_none k (map_at ws) (not_found ws k e h))
      go (entered was ms t) d h =
          let p = reason_passed ws e in
          left_map ws _ was _ ms t p h.1 ∙ delete_map (layout_at ws).geo (store_at (layout_at ws) ws) p.proper.valid p.fits p.sound k was ms t d

  -- So a key that was put is found with its payload, a key that was deleted is not found, and every other key is looked up as before.
  pub put_finds : (k v : ℕ) → (put_of ws k v).answer.reason ≡ 0 → look_up_of (put_of ws k v).words k ≡ record { reason = 0; found = true; pay = v }
  put_finds k v q =
      look_up_map (put_of ws k v).words k (put_passes ws k v e)
      ∙ ap (λ (m : List Rec). look_answer (find k m)) (put_enters k v q) ∙ ap look_answer (find_insert (put_rec k v) (map_at ws))

  pub put_others : (k v j : ℕ) → (put_of ws k v).answer.reason ≡ 0 → k ≢ j → look_up_of (put_of ws k v).words j ≡ look_up_of ws j
  put_others k v j q n =
      look_up_map (put_of ws k v).words j (put_passes ws k v e)
      ∙ ap (λ (m : List Rec). look_answer (find j m)) (put_enters k v q) ∙ ap look_answer (find_insert_other j (put_rec k v) (map_at ws) n)
      ∙ sym (look_up_map ws j e)

  pub delete_finds : (k : ℕ) → (delete_of ws k).answer.reason ≡ 0 → look_up_of (delete_of ws k).words k ≡ record { reason = 0; found = false; pay = 0 }
  delete_finds k q =
      look_up_map (delete_of ws k).words k (delete_passes ws k e)
      ∙ ap (λ (m : List Rec). look_answer (find k m)) (delete_takes_out k q)
      ∙ ap look_answer (find_without 0 k (map_at ws) (map_rises ws e))

  pub delete_others : (k j : ℕ) → (delete_of ws k).answer.reason ≡ 0 → k ≢ j → look_up_of (delete_of ws k).words j ≡ look_up_of ws j
  delete_others k j q n =
      look_up_map (delete_of ws k).words j (delete_passes ws k e)
      ∙ ap (λ (m : List Rec). look_answer (find j m)) (delete_takes_out k q) ∙ ap look_answer (find_without_other j k (map_at ws) n)
      ∙ sym (look_up_map ws j e)

  -- "live (number of keys in the map)"
  map_length : length (map_at ws) ≡ (store_at (layout_at ws) ws).live
  unfolding live_count
  map_length = (reason_passed ws e).sound.live_exact

  pub live_map : live_at (layout_at ws) ws ≡ length (map_at ws)
  unfolding store_at
  live_map = sym map_length

  -- "and at most N"
  pub map_within : length (map_at ws) ≤ key_limit_of (layout_at ws).geo
  map_within = omega (arith, map_length, (reason_passed ws e).sound.live_fits)

  -- Refusal 5 of words that pass: "only for a new key when the map holds its stated limit", and then it is due.
  full_passes : (k v : ℕ) → (put_of ws k v).answer.reason ≡ 5 → (find k (map_at ws) ≡ none) × (length (map_at ws) ≡ key_limit_of (layout_at ws).geo)
  unfolding change_outcome
  full_passes k v q =
      let p = reason_passed ws e in
      go (put (layout_at ws).geo (store_at (layout_at ws) ws) k v) (put_says (layout_at ws).geo (store_at (layout_at ws) ws) p.proper.valid p.fits p.sound k v)
      (sym (ap (λ (x : Outcome ChangeAnswer). x.answer.reason) (put_of_lem ws k v e)) ∙ q)
    where
      go : (c : Change) → PutSays (layout_at ws).geo (store_at (layout_at ws) ws) k v c → (change_outcome (layout_at ws) ws c).answer.reason ≡ 5
          → (find k (map_at ws) ≡ none) × (length (map_at ws) ≡ key_limit_of (layout_at ws).geo)
      go (refused n) h z = (not_found ws k e h.1, map_length ∙ h.2)
      go absent h z = absurd h
      go (entered was ms t) h z = absurd (omega (arith, z))

  pub put_full_outcome : (k v : ℕ) → find k (map_at ws) ≡ none → length (map_at ws) ≡ key_limit_of (layout_at ws).geo → put_of ws k v ≡ record { answer = change_answer 5 false []; words = ws }
  unfolding change_outcome
  put_full_outcome k v h l =
      let s : Store = store_at (layout_at ws) ws in
      let n = live_in_map ws k e ∙ ap is_some h in
      put_of_lem ws k v e ∙ ap (change_outcome (layout_at ws) ws) (put_full (layout_at ws).geo s k v n (eq-eqb s.live (key_limit_of (layout_at ws).geo) (sym map_length ∙ l)))

  pub put_full_then : (k v : ℕ) → find k (map_at ws) ≡ none → length (map_at ws) ≡ key_limit_of (layout_at ws).geo → (put_of ws k v).answer.reason ≡ 5
  put_full_then k v h l = ap (λ (x : Outcome ChangeAnswer). x.answer.reason) (put_full_outcome k v h l)

  -- Every other put is accepted, and "The answer says if k was live."
  pub put_accepted : (k v : ℕ) → (find k (map_at ws) ≡ none → length (map_at ws) ≢ key_limit_of (layout_at ws).geo) → ((put_of ws k v).answer.reason ≡ 0) × ((put_of ws k v).answer.live ≡ is_some (find k (map_at ws)))
  unfolding change_outcome
  put_accepted k v d =
      let p = reason_passed ws e in
      subst (λ (x : Outcome ChangeAnswer). (x.answer.reason ≡ 0) × (x.answer.live ≡ is_some (find k (map_at ws)))) (sym (put_of_lem ws k v e))
      (go (put (layout_at ws).geo (store_at (layout_at ws) ws) k v) (put_says (layout_at ws).geo (store_at (layout_at ws) ws) p.proper.valid p.fits p.sound k v))
    where
      go : (c : Change) → PutSays (layout_at ws).geo (store_at (layout_at ws) ws) k v c → ((change_outcome (layout_at ws) ws c).answer.reason ≡ 0) × ((change_outcome (layout_at ws) ws c).answer.live ≡ is_some (find k (map_at ws)))
      go (refused n) h = absurd (d (not_found ws k e h.1) (map_length ∙ h.2))
      go absent h = absurd h
      go (entered was ms t) h = (refl, sym h.was_live ∙ live_in_map ws k e)

  -- and every delete
  pub delete_accepted : (k : ℕ) → ((delete_of ws k).answer.reason ≡ 0) × ((delete_of ws k).answer.live ≡ is_some (find k (map_at ws)))
  unfolding change_outcome
  delete_accepted k =
      let p = reason_passed ws e in
      subst (λ (x : Outcome ChangeAnswer). (x.answer.reason ≡ 0) × (x.answer.live ≡ is_some (find k (map_at ws)))) (sym (delete_of_lem ws k e))
      (go (delete (layout_at ws).geo (store_at (layout_at ws) ws) k) (delete_says (layout_at ws).geo (store_at (layout_at ws) ws) p.proper.valid p.fits p.sound k))
    where
      go : (c : Change) → DeleteSays (layout_at ws).geo (store_at (layout_at ws) ws) k c → ((change_outcome (layout_at ws) ws c).answer.reason ≡ 0) × ((change_outcome (layout_at ws) ws c).answer.live ≡ is_some (find k (map_at ws)))
      go (refused n) h = absurd h
      go absent h = (refl, sym h ∙ live_in_map ws k e)
      go (entered was ms t) h = (refl, sym h.1.was_live ∙ live_in_map ws k e)

  -- both leave the six words of the geometry, and as many words as there were
  pub put_geometry : (k v : ℕ) → geometry_at (put_of ws k v).words ≡ geometry_at ws
  unfolding change_outcome
  put_geometry k v =
      let p = reason_passed ws e in
      ap (λ (x : Outcome ChangeAnswer). geometry_at x.words) (put_of_lem ws k v e)
      ∙ go (put (layout_at ws).geo (store_at (layout_at ws) ws) k v) (put_says (layout_at ws).geo (store_at (layout_at ws) ws) p.proper.valid p.fits p.sound k v)
    where
      go : (c : Change) → PutSays (layout_at ws).geo (store_at (layout_at ws) ws) k v c → geometry_at (change_outcome (layout_at ws) ws c).words ≡ geometry_at ws
      go (refused n) h = refl
      go absent h = refl
      go (entered was ms t) h = left_geometry ws _ was _ ms t (reason_passed ws e) h

  pub delete_geometry : (k : ℕ) → geometry_at (delete_of ws k).words ≡ geometry_at ws
  unfolding change_outcome
  delete_geometry k =
      let p = reason_passed ws e in
      ap (λ (x : Outcome ChangeAnswer). geometry_at x.words) (delete_of_lem ws k e)
      ∙ go (delete (layout_at ws).geo (store_at (layout_at ws) ws) k) (delete_says (layout_at ws).geo (store_at (layout_at ws) ws) p.proper.valid p.fits p.sound k)
    where
      go : (c : Change) → DeleteSays (layout_at ws).geo (store_at (layout_at ws) ws) k c → geometry_at (change_outcome (layout_at ws) ws c).words ≡ geometry_at ws
      go (refused n) h = refl
      go absent h = refl
      go (entered was ms t) h = left_geometry ws _ was _ ms t (reason_passed ws e) h.1

  same_length : (out : List ℕ) → geometry_at out ≡ geometry_at ws → reason_of out ≡ 0 → length out ≡ length ws
  same_length out q z = (reason_passed out z).long ∙ ap (λ (y : Layout). y.length) (layout_same out ws q) ∙ sym (reason_passed ws e).long

  pub put_length : (k v : ℕ) → length (put_of ws k v).words ≡ length ws
  put_length k v = same_length (put_of ws k v).words (put_geometry k v) (put_passes ws k v e)

  pub delete_length : (k : ℕ) → length (delete_of ws k).words ≡ length ws
  delete_length k = same_length (delete_of ws k).words (delete_geometry k) (delete_passes ws k e)

-- Demand 2, of all words: "A put is turned down as full only for a new key when the map holds its stated limit."
pub put_full_only : (ws : List ℕ) (k v : ℕ) → (put_of ws k v).answer.reason ≡ 5 → (find k (map_at ws) ≡ none) × (length (map_at ws) ≡ key_limit_of (layout_at ws).geo)
unfolding put_of change_outcome
put_full_only ws k v q = go (eqb (reason_of ws) 0) refl
  where
    go : (t : Bool) → eqb (reason_of ws) 0 ≡ t → (find k (map_at ws) ≡ none) × (length (map_at ws) ≡ key_limit_of (layout_at ws).geo)
    go true z = full_passes ws (eqb-true (reason_of ws) 0 z) k v q
    go false z = let r : reason_of ws ≡ 5 = rw (z, put_of) at q in absurd (omega (arith, r, reason_most ws))
