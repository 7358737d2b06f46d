-- Put and delete on a store that passes the form check: the map afterwards, the store passes the form check again, and refusal 5.
use Prim.Native.Nat.{ℕ, suc, ◌-◌, ◌≤◌}
use mathlib.Core.Path.{◌≡◌, refl, sym, ◌∙◌, ap, subst}
use mathlib.Core.Bool.{Bool, true, false, not, ◌||◌, true≢false}
use mathlib.Core.List.{List, [], ◌∷◌, map}
use mathlib.Core.Option.{Option, none, some}
use mathlib.Core.Logic.{◌≢◌}
use native.Mathlib.Omega.{arith}
use native.Mathlib.Decide.{ℕ_discrete}
use lib.Dec.{ltb, eqb}
use lib.ListN.{length}
use borrow.Author.Tests.{ltb-true, eqb-true, eqb-false, eq-eqb}
use Rattle.geometry.specs.declared.Geometry.{Geometry}
use Rattle.geometry.specs.Geometry.{Valid, key_limit_of, top_capacity_of}
use Rattle.levels.specs.Basics.{if◌then◌otherwise◌, or_else, is_some}
use Rattle.levels.specs.Record.{Rec, records, clean_tombstones}
use Rattle.levels.specs.Map.{find, decides, present, look_up, is_live, map_of, live_count, first_from, next}
use Rattle.levels.specs.Store.{Store, rows}
use Rattle.levels.specs.Call.{Merge, after_merges}
use Rattle.levels.specs.Put.{Change, refused, absent, entered, insert, merges_for, merges_of, with_record, enter, put, delete, put_rec, delete_rec, without}
use Rattle.levels.specs.Rising.{Risings}
use Rattle.levels.specs.Sound.{Fits, Sound}
use Rattle.levels.specs.Inside.{Inside}
use Rattle.levels.proofs.Basics.{and_left, and_right, and_both}
use Rattle.levels.proofs.Overlay.{same_find}
use Rattle.levels.proofs.View.{test_risings, risings_test, map_rising, look_up_find}
use Rattle.levels.proofs.Entry.{entry_of, inside_fit, inside_tight, inside_unmarked}
use Rattle.levels.proofs.MergeBounds.{list_map}
use Rattle.levels.proofs.CallMerges.{for_none, call_facts, call_within, call_top}
use Rattle.levels.proofs.Insert.{insert_rising, find_insert, find_insert_other, insert_most, insert_new, insert_old, insert_all, without_rising, find_without, find_without_other, without_length}

-- live afterwards
abbrev pub live_put : Bool → ℕ → ℕ
live_put was n = if was then n otherwise suc n

-- a record laid over all rows: at its key it decides, at every other key what decided before
over_same : (r : Rec) (top : List Rec) (ls : List (List Rec)) → look_up r.key (insert r top ∷ ls) ≡ present (some r)
unfolding look_up decides
over_same r top ls = ap (λ (o : Option Rec). present (or_else o (decides r.key ls))) (find_insert r top)

over_other : (j : ℕ) (r : Rec) (top : List Rec) (ls : List (List Rec)) → r.key ≢ j → look_up j (insert r top ∷ ls) ≡ look_up j (top ∷ ls)
unfolding look_up decides
over_other j r top ls n = ap (λ (o : Option Rec). present (or_else o (decides j ls))) (find_insert_other j r top n)

-- What a put or delete of a record r leaves: its key's lookup, every other key's, and the form check passes.
pub record EnterFacts (g : Geometry) (s : Store) (r : Rec) (was : Bool) (live : ℕ) (ms : List Merge) (t : Store) : Type 0 where
  -- "The answer says if k was live"
  pub was_live : is_live r.key (rows s) ≡ was
  -- the merges of the call, and "the call's own record and live then entered"
  pub merges : ms ≡ merges_for g s r.key
  pub store : t ≡ with_record r live (after_merges s ms)
  pub here : look_up r.key (rows t) ≡ present (some r)
  pub other : (j : ℕ) → r.key ≢ j → look_up j (rows t) ≡ look_up j (rows s)
  pub sorted : Risings (rows t)
  pub fits : Fits g t
  pub sound : Sound g t

module _ (g : Geometry) (s : Store) (v : Valid g) (f : Fits g s) (o : Sound g s) (r : Rec) (live : ℕ) where
  merged : Inside g s (after_merges s (merges_for g s r.key))
  merged = (call_facts g s v f o r.key).inside

  enter_sorted : Risings (rows (with_record r live (after_merges s (merges_for g s r.key))))
  enter_sorted = let n = merged in (insert_rising 0 r (after_merges s (merges_for g s r.key)).top (omega arith) n.sorted.0, n.sorted.1)

  enter_other : (j : ℕ) → r.key ≢ j → look_up j (rows (with_record r live (after_merges s (merges_for g s r.key)))) ≡ look_up j (rows s)
  enter_other j d = let t : Store = after_merges s (merges_for g s r.key) in over_other j r t.top (map records t.levels) d ∙ merged.looks j

  enter_here : look_up r.key (rows (with_record r live (after_merges s (merges_for g s r.key)))) ≡ present (some r)
  enter_here = let t : Store = after_merges s (merges_for g s r.key) in over_same r t.top (map records t.levels)

  -- level 0 has room for the record
  pub top_room : length (insert r (after_merges s (merges_for g s r.key)).top) ≤ top_capacity_of g
  top_room = go (is_some (find r.key s.top)) (ltb (length s.top) (top_capacity_of g)) refl refl
    where
      none_made : (is_some (find r.key s.top) || ltb (length s.top) (top_capacity_of g)) ≡ true → (after_merges s (merges_for g s r.key)).top ≡ s.top
      none_made e = ap (λ (ms : List Merge). (after_merges s ms).top) (for_none g s r.key e)

      found : (a : Option Rec) → find r.key s.top ≡ a → is_some a ≡ true → length (insert r s.top) ≡ length s.top
      found none e q = absurd (true≢false (sym q))
      found (some x) e q = insert_old 0 r x s.top (test_risings (rows s) o.keys_rise).0 e

      go : (a b : Bool) → is_some (find r.key s.top) ≡ a → ltb (length s.top) (top_capacity_of g) ≡ b → length (insert r (after_merges s (merges_for g s r.key)).top) ≤ top_capacity_of g
      go true b d e =
          let q : (is_some (find r.key s.top) || ltb (length s.top) (top_capacity_of g)) ≡ true = rw d in
          omega (arith, ap (λ (l : List Rec). length (insert r l)) (none_made q), found (find r.key s.top) refl d, f.top_fits)
      go false true d e =
          let q : (is_some (find r.key s.top) || ltb (length s.top) (top_capacity_of g)) ≡ true = rw (d, e) in
          omega (arith, ap (λ (l : List Rec). length (insert r l)) (none_made q), insert_most r s.top, ltb-true (length s.top) (top_capacity_of g) e)
      go false false d e =
          let q : (is_some (find r.key s.top) || ltb (length s.top) (top_capacity_of g)) ≡ false = rw (d, e) in
          omega (arith, insert_most r (after_merges s (merges_for g s r.key)).top, call_top g s v f o r.key q)

  enter_facts : (was : Bool) → is_live r.key (rows s) ≡ was → (not r.tombstone || eqb r.pay 0) ≡ true → live ≤ key_limit_of g
      → live_count (rows (with_record r live (after_merges s (merges_for g s r.key)))) ≡ live
      → EnterFacts g s r was live (merges_for g s r.key) (with_record r live (after_merges s (merges_for g s r.key)))
  enter_facts was w c l q =
      let t : Store = after_merges s (merges_for g s r.key) in
      let a = call_facts g s v f o r.key in
      let n = merged in
      record {
        was_live = w;
        merges = refl;
        store = refl;
        here = enter_here;
        other = enter_other;
        sorted = enter_sorted;
        fits = record {
          level_count = n.many;
          top_fits = top_room;
          level_fits = λ i h. call_within g s v f o r.key (suc i) (omega arith) (omega arith);
          blocks_fit = inside_fit g s t n;
        };
        sound = record {
          live_exact = q;
          live_fits = l;
          cursor_inside = n.cursor;
          places_once = n.once;
          keys_rise = risings_test (rows (with_record r live t)) enter_sorted;
          bottom_unmarked = inside_unmarked g s t v n;
          tombstones_clean = and_both _ _ (insert_all (λ (x : Rec). not x.tombstone || eqb x.pay 0) r t.top c (and_left (clean_tombstones t.top) _ n.clean)) (and_right (clean_tombstones t.top) _ n.clean);
          tight = inside_tight g s t n a.ruled;
        };
      }

-- The map when one key's lookup changes: to a record, or to none.
module _ (ls ms : List (List Rec)) (sl : Risings ls) (sm : Risings ms) where
  pub map_insert : (r : Rec) → look_up r.key ms ≡ some r → ((j : ℕ) → r.key ≢ j → look_up j ms ≡ look_up j ls) → map_of ms ≡ insert r (map_of ls)
  map_insert r h d =
      same_find 0 0 (map_of ms) (insert r (map_of ls)) (map_rising ms sm) (insert_rising 0 r (map_of ls) (omega arith) (map_rising ls sl)) (λ k. go k (ℕ_discrete r.key k))
    where
      go : (k : ℕ) → Dec (r.key ≡ k) → find k (map_of ms) ≡ find k (insert r (map_of ls))
      go k (yes e) = subst (λ (j : ℕ). find j (map_of ms) ≡ find j (insert r (map_of ls))) e (sym (look_up_find r.key ms sm) ∙ h ∙ sym (find_insert r (map_of ls)))
      go k (no n) = sym (look_up_find k ms sm) ∙ d k n ∙ look_up_find k ls sl ∙ sym (find_insert_other k r (map_of ls) n)

  pub map_without : (k : ℕ) → look_up k ms ≡ none → ((j : ℕ) → k ≢ j → look_up j ms ≡ look_up j ls) → map_of ms ≡ without k (map_of ls)
  map_without k h d =
      same_find 0 0 (map_of ms) (without k (map_of ls)) (map_rising ms sm) (without_rising 0 k (map_of ls) (map_rising ls sl)) (λ j. go j (ℕ_discrete k j))
    where
      go : (j : ℕ) → Dec (k ≡ j) → find j (map_of ms) ≡ find j (without k (map_of ls))
      go j (yes e) = subst (λ (i : ℕ). find i (map_of ms) ≡ find i (without k (map_of ls))) e (sym (look_up_find k ms sm) ∙ h ∙ sym (find_without 0 k (map_of ls) (map_rising ls sl)))
      go j (no n) = sym (look_up_find j ms sm) ∙ d j n ∙ look_up_find j ls sl ∙ sym (find_without_other j k (map_of ls) n)

  -- the number of keys: one more if the key was not live, one fewer if it is no longer
  pub count_insert : (r : Rec) (was : Bool) → is_live r.key ls ≡ was → map_of ms ≡ insert r (map_of ls) → live_count ms ≡ live_put was (live_count ls)
  unfolding live_count is_live
  count_insert r was w e = ap length e ∙ go (look_up r.key ls) refl was w
    where
      go : (a : Option Rec) → look_up r.key ls ≡ a → (was : Bool) → is_some a ≡ was → length (insert r (map_of ls)) ≡ live_put was (length (map_of ls))
      go none q true w = absurd (true≢false (sym w))
      go none q false w = insert_new r (map_of ls) (sym (look_up_find r.key ls sl) ∙ q)
      go (some x) q true w = insert_old 0 r x (map_of ls) (map_rising ls sl) (sym (look_up_find r.key ls sl) ∙ q)
      go (some x) q false w = absurd (true≢false w)

  pub count_without : (k : ℕ) → is_live k ls ≡ true → map_of ms ≡ without k (map_of ls) → suc (live_count ms) ≡ live_count ls
  unfolding live_count is_live
  count_without k w e = ap (λ (l : List Rec). suc (length l)) e ∙ go (look_up k ls) refl w
    where
      go : (a : Option Rec) → look_up k ls ≡ a → is_some a ≡ true → suc (length (without k (map_of ls))) ≡ length (map_of ls)
      go none q w = absurd (true≢false (sym w))
      go (some x) q w = without_length k x (map_of ls) (sym (look_up_find k ls sl) ∙ q)

-- the clauses of put and delete, as laws
pub enter_is : (g : Geometry) (s : Store) (r : Rec) (was : Bool) (live : ℕ) → enter g s r was live ≡ entered was (merges_for g s r.key) (with_record r live (after_merges s (merges_for g s r.key)))
unfolding enter
enter_is g s r was live = refl

pub put_live : (g : Geometry) (s : Store) (k v : ℕ) → is_live k (rows s) ≡ true → put g s k v ≡ enter g s (put_rec k v) true s.live
unfolding put
put_live g s k v e = rw (e, put)

pub put_full : (g : Geometry) (s : Store) (k v : ℕ) → is_live k (rows s) ≡ false → eqb s.live (key_limit_of g) ≡ true → put g s k v ≡ refused 5
unfolding put
put_full g s k v e d = rw (e, put, d, put)

pub put_new : (g : Geometry) (s : Store) (k v : ℕ) → is_live k (rows s) ≡ false → eqb s.live (key_limit_of g) ≡ false → put g s k v ≡ enter g s (put_rec k v) false (suc s.live)
unfolding put
put_new g s k v e d = rw (e, put, d, put)

pub delete_live : (g : Geometry) (s : Store) (k : ℕ) → is_live k (rows s) ≡ true → delete g s k ≡ enter g s (delete_rec k) true (s.live - 1)
unfolding delete
delete_live g s k e = rw (e, delete)

pub delete_absent : (g : Geometry) (s : Store) (k : ℕ) → is_live k (rows s) ≡ false → delete g s k ≡ absent
unfolding delete
delete_absent g s k e = rw (e, delete)

-- where level 0 has the key, or room, neither makes a merge
pub put_still : (g : Geometry) (s : Store) (k v : ℕ) → (is_some (find k s.top) || ltb (length s.top) (top_capacity_of g)) ≡ true → merges_of (put g s k v) ≡ []
unfolding enter merges_of
put_still g s k v e = go (is_live k (rows s)) (eqb s.live (key_limit_of g)) refl refl
  where
    go : (live full : Bool) → is_live k (rows s) ≡ live → eqb s.live (key_limit_of g) ≡ full → merges_of (put g s k v) ≡ []
    go true full p q = ap merges_of (put_live g s k v p) ∙ for_none g s k e
    go false true p q = ap merges_of (put_full g s k v p q)
    go false false p q = ap merges_of (put_new g s k v p q) ∙ for_none g s k e

pub delete_still : (g : Geometry) (s : Store) (k : ℕ) → (is_some (find k s.top) || ltb (length s.top) (top_capacity_of g)) ≡ true → merges_of (delete g s k) ≡ []
unfolding enter merges_of
delete_still g s k e = go (is_live k (rows s)) refl
  where
    go : (live : Bool) → is_live k (rows s) ≡ live → merges_of (delete g s k) ≡ []
    go true p = ap merges_of (delete_live g s k p) ∙ for_none g s k e
    go false p = ap merges_of (delete_absent g s k p)

-- one key's lookup, and every other key's, in one
pick : (j k : ℕ) (ms ls : List (List Rec)) (a : Option Rec) → look_up k ms ≡ a → ((j : ℕ) → k ≢ j → look_up j ms ≡ look_up j ls) → look_up j ms ≡ (if eqb j k then a otherwise look_up j ls)
pick j k ms ls a h d = go (eqb j k) refl
  where
    go : (t : Bool) → eqb j k ≡ t → look_up j ms ≡ (if t then a otherwise look_up j ls)
    go true e = ap (λ (i : ℕ). look_up i ms) (eqb-true j k e) ∙ h
    go false e = d j (λ q. eqb-false j k e (sym q))

-- What each outcome of a put says: refusal 5 only for a new key while the map holds N; it is never absent; and what is entered.
abbrev pub PutSays : Geometry → Store → ℕ → ℕ → Change → Type 0
PutSays g s k p (refused n) = (n ≡ 5) × (is_live k (rows s) ≡ false) × (s.live ≡ key_limit_of g)
PutSays g s k p absent = ⊥
PutSays g s k p (entered was ms t) = EnterFacts g s (put_rec k p) was (live_put was s.live) ms t

-- What each outcome of a delete says: it is never refused; "absent means no change" for a key that is not live; and what is entered.
abbrev pub DeleteSays : Geometry → Store → ℕ → Change → Type 0
DeleteSays g s k (refused n) = ⊥
DeleteSays g s k absent = is_live k (rows s) ≡ false
DeleteSays g s k (entered was ms t) = (was ≡ true) × EnterFacts g s (delete_rec k) was (s.live - 1) ms t

module _ (g : Geometry) (s : Store) (v : Valid g) (f : Fits g s) (o : Sound g s) where
  sorted_here : Risings (rows s)
  sorted_here = test_risings (rows s) o.keys_rise

  enter_put : (k p : ℕ) (was : Bool) → is_live k (rows s) ≡ was → live_put was s.live ≤ key_limit_of g
      → EnterFacts g s (put_rec k p) was (live_put was s.live) (merges_for g s k) (with_record (put_rec k p) (live_put was s.live) (after_merges s (merges_for g s k)))
  enter_put k p was w l =
      let r : Rec = put_rec k p in
      let t : Store = with_record r (live_put was s.live) (after_merges s (merges_for g s k)) in
      let st = enter_sorted g s v f o r (live_put was s.live) in
      let e = map_insert (rows s) (rows t) sorted_here st r (enter_here g s v f o r (live_put was s.live)) (enter_other g s v f o r (live_put was s.live)) in
      enter_facts g s v f o r (live_put was s.live) was w refl l (count_insert (rows s) (rows t) sorted_here st r was w e ∙ ap (live_put was) o.live_exact)

  enter_delete : (k : ℕ) → is_live k (rows s) ≡ true → EnterFacts g s (delete_rec k) true (s.live - 1) (merges_for g s k) (with_record (delete_rec k) (s.live - 1) (after_merges s (merges_for g s k)))
  enter_delete k w =
      let r : Rec = delete_rec k in
      let t : Store = with_record r (s.live - 1) (after_merges s (merges_for g s k)) in
      let st = enter_sorted g s v f o r (s.live - 1) in
      let e = map_without (rows s) (rows t) sorted_here st k (enter_here g s v f o r (s.live - 1)) (enter_other g s v f o r (s.live - 1)) in
      enter_facts g s v f o r (s.live - 1) true w refl (omega (arith, o.live_fits)) (omega (arith, count_without (rows s) (rows t) sorted_here st k w e, o.live_exact))

  -- All about a put.
  pub put_says : (k p : ℕ) → PutSays g s k p (put g s k p)
  put_says k p = go (is_live k (rows s)) (eqb s.live (key_limit_of g)) refl refl
    where
      go : (a b : Bool) → is_live k (rows s) ≡ a → eqb s.live (key_limit_of g) ≡ b → PutSays g s k p (put g s k p)
      go true b d q = subst (PutSays g s k p) (sym (put_live g s k p d ∙ enter_is g s (put_rec k p) true s.live)) (enter_put k p true d o.live_fits)
      go false true d q = subst (PutSays g s k p) (sym (put_full g s k p d q)) (refl, d, eqb-true s.live (key_limit_of g) q)
      go false false d q =
          subst (PutSays g s k p) (sym (put_new g s k p d q ∙ enter_is g s (put_rec k p) false (suc s.live)))
          (enter_put k p false d (below s.live (key_limit_of g) o.live_fits (eqb-false s.live (key_limit_of g) q)))
        where
          below : (a b : ℕ) → a ≤ b → a ≢ b → suc a ≤ b
          below a b l n = omega arith

  -- All about a delete.
  pub delete_says : (k : ℕ) → DeleteSays g s k (delete g s k)
  delete_says k = go (is_live k (rows s)) refl
    where
      go : (a : Bool) → is_live k (rows s) ≡ a → DeleteSays g s k (delete g s k)
      go true d = subst (DeleteSays g s k) (sym (delete_live g s k d ∙ enter_is g s (delete_rec k) true (s.live - 1))) (refl, enter_delete k d)
      go false d = subst (DeleteSays g s k) (sym (delete_absent g s k d)) d

  pub put_facts : (k p : ℕ) (was : Bool) (ms : List Merge) (t : Store) → put g s k p ≡ entered was ms t → EnterFacts g s (put_rec k p) was (live_put was s.live) ms t
  put_facts k p was ms t e = subst (PutSays g s k p) e (put_says k p)

  pub delete_facts : (k : ℕ) (was : Bool) (ms : List Merge) (t : Store) → delete g s k ≡ entered was ms t → (was ≡ true) × EnterFacts g s (delete_rec k) was (s.live - 1) ms t
  delete_facts k was ms t e = subst (DeleteSays g s k) e (delete_says k)

  -- Demand 2: the merges of a call leave the map
  pub call_map : (k : ℕ) → map_of (rows (after_merges s (merges_for g s k))) ≡ map_of (rows s)
  call_map k = list_map g s s (merges_for g s k) (entry_of g s v f o) (call_facts g s v f o k)

  -- a put changes the lookup of its key alone
  pub put_look_up : (k p : ℕ) (was : Bool) (ms : List Merge) (t : Store) → put g s k p ≡ entered was ms t → (j : ℕ) → look_up j (rows t) ≡ (if eqb j k then some (put_rec k p) otherwise look_up j (rows s))
  put_look_up k p was ms t e j = pick j k (rows t) (rows s) (some (put_rec k p)) (put_facts k p was ms t e).here (put_facts k p was ms t e).other

  -- and so a delete
  pub delete_look_up : (k : ℕ) (was : Bool) (ms : List Merge) (t : Store) → delete g s k ≡ entered was ms t → (j : ℕ) → look_up j (rows t) ≡ (if eqb j k then none otherwise look_up j (rows s))
  delete_look_up k was ms t e j = pick j k (rows t) (rows s) none (delete_facts k was ms t e).1.here (delete_facts k was ms t e).1.other

  -- "a finite map fed with the same accepted puts and deletes": the map after a put has the record for its key
  pub put_map : (k p : ℕ) (was : Bool) (ms : List Merge) (t : Store) → put g s k p ≡ entered was ms t → map_of (rows t) ≡ insert (put_rec k p) (map_of (rows s))
  put_map k p was ms t e = let d = put_facts k p was ms t e in map_insert (rows s) (rows t) sorted_here d.sorted (put_rec k p) d.here d.other

  -- and after a delete it is without its key
  pub delete_map : (k : ℕ) (was : Bool) (ms : List Merge) (t : Store) → delete g s k ≡ entered was ms t → map_of (rows t) ≡ without k (map_of (rows s))
  delete_map k was ms t e = let d = (delete_facts k was ms t e).1 in map_without (rows s) (rows t) sorted_here d.sorted k d.here d.other

  -- so Next answers from that map
  pub put_next : (k p : ℕ) (was : Bool) (ms : List Merge) (t : Store) → put g s k p ≡ entered was ms t → (j : ℕ) → next j (rows t) ≡ first_from j (insert (put_rec k p) (map_of (rows s)))
  unfolding next
  put_next k p was ms t e j = ap (first_from j) (put_map k p was ms t e)

  pub delete_next : (k : ℕ) (was : Bool) (ms : List Merge) (t : Store) → delete g s k ≡ entered was ms t → (j : ℕ) → next j (rows t) ≡ first_from j (without k (map_of (rows s)))
  unfolding next
  delete_next k was ms t e j = ap (first_from j) (delete_map k was ms t e)

  -- and the number of keys: one more for a new key, as many for a live one, one fewer after a delete
  pub put_count : (k p : ℕ) (was : Bool) (ms : List Merge) (t : Store) → put g s k p ≡ entered was ms t → live_count (rows t) ≡ live_put was (live_count (rows s))
  put_count k p was ms t e = let d = put_facts k p was ms t e in count_insert (rows s) (rows t) sorted_here d.sorted (put_rec k p) was d.was_live (put_map k p was ms t e)

  pub delete_count : (k : ℕ) (was : Bool) (ms : List Merge) (t : Store) → delete g s k ≡ entered was ms t → suc (live_count (rows t)) ≡ live_count (rows s)
  delete_count k was ms t e =
      let d = delete_facts k was ms t e in
      count_without (rows s) (rows t) sorted_here d.1.sorted k (d.1.was_live ∙ d.0) (delete_map k was ms t e)

  -- The store passes the form check again
  pub put_sound : (k p : ℕ) (was : Bool) (ms : List Merge) (t : Store) → put g s k p ≡ entered was ms t → Fits g t × Sound g t
  put_sound k p was ms t e = let d = put_facts k p was ms t e in (d.fits, d.sound)

  pub delete_sound : (k : ℕ) (was : Bool) (ms : List Merge) (t : Store) → delete g s k ≡ entered was ms t → Fits g t × Sound g t
  delete_sound k was ms t e = let d = (delete_facts k was ms t e).1 in (d.fits, d.sound)

  -- "A put is turned down as full only for a new key when the map holds its stated limit", and then it is
  pub put_refused : (k p : ℕ) → (put g s k p ≡ refused 5 → (is_live k (rows s) ≡ false) × (s.live ≡ key_limit_of g)) × ((is_live k (rows s) ≡ false) × (s.live ≡ key_limit_of g) → put g s k p ≡ refused 5)
  put_refused k p = (
    (λ e. let d = subst (PutSays g s k p) e (put_says k p) in (d.1, d.2)),
    λ d. put_full g s k p d.0 (eq-eqb s.live (key_limit_of g) d.1),
  )

  -- and for no other reason
  pub put_reason_lem : (k p n : ℕ) → put g s k p ≡ refused n → n ≡ 5
  put_reason_lem k p n e = (subst (PutSays g s k p) e (put_says k p)).0

  -- a delete is never refused
  pub delete_never : (k n : ℕ) → delete g s k ≢ refused n
  delete_never k n e = subst (DeleteSays g s k) e (delete_says k)
