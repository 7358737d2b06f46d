-- Document 02, card 5, "One merge, or none", on any words: a put and a delete get the reason and make the merges into level 1 that the words at entry foretell.
use Prim.Native.Nat.{ℕ, zero, suc, ◌+◌, ◌*◌, ◌≤◌}
use mathlib.Core.Path.{◌≡◌, refl, sym, ◌∙◌, ap, subst}
use mathlib.Core.Bool.{Bool, true, false, not, ◌&&◌, true≢false}
use mathlib.Core.List.{List, [], ◌∷◌}
use mathlib.Core.Option.{Option, none, some}
use mathlib.Core.Logic.{◌≢◌}
use native.Mathlib.Omega.{arith}
use lib.Dec.{eqb}
use lib.ListN.{length, take}
use borrow.Author.Tests.{eqb-true, eqb-false, eq-eqb, ne_eqb, not-true}
use Rattle.geometry.specs.Geometry.{key_limit_of, top_capacity_of}
use Rattle.levels.specs.Basics.{if◌then◌otherwise◌, is_some, total}
use Rattle.levels.specs.Record.{Rec}
use Rattle.levels.specs.Map.{find}
use Rattle.levels.specs.Store.{Store}
use Rattle.levels.specs.Call.{Merge}
use Rattle.levels.specs.Put.{Change, refused, absent, entered, put, delete, merges_for, merges_of}
use Rattle.levels.specs.Count.{blocks_merged, total_into, counts_of}
use Rattle.levels.specs.Every.{First}
use Rattle.levels.proofs.Basics.{and_left, and_right, and_both}
use Rattle.levels.proofs.OneMerge.{OneFirst, one_first, into_first, none_empty, call_one, call_first_writes}
use Rattle.levels.proofs.PutDelete.{PutSays, DeleteSays, put_says, delete_says}
use Rattle.words.specs.Stores.{top_count_at, top_recs, store_at, layout_at}
use Rattle.words.specs.Form.{reason_of}
use Rattle.words.specs.Calls.{Outcome, ChangeAnswer, map_at, change_outcome, put_of, delete_of, forecast_in, top_merges, is_full, put_reason, foretold, will_put_merge_of, will_delete_merge_of}
use Rattle.words.specs.Demand.{Own, Demand}
use Rattle.words.proofs.Reason.{reason_passed, passed_count}
use Rattle.words.proofs.Steps.{put_of_lem, delete_of_lem}
use Rattle.words.proofs.Demand.{own_by, put_demand, delete_demand}
use Rattle.words.proofs.MapAfter.{none_is, live_in_map, put_full_outcome, put_accepted}
use Rattle.layout.specs.declared.Layout.{Layout}

-- refusal 5: a new key while the map holds as many as it may, and not else
pub full_is : (limit : ℕ) (rs : List Rec) (k : ℕ) → is_full limit rs k ≡ true → (find k rs ≡ none) × (length rs ≡ limit)
full_is limit rs k q = (none_is (find k rs) (not-true (is_some (find k rs)) (and_left (not (is_some (find k rs))) _ q)), eqb-true (length rs) limit (and_right (not (is_some (find k rs))) _ q))

pub full_not : (limit : ℕ) (rs : List Rec) (k : ℕ) → is_full limit rs k ≡ false → find k rs ≡ none → length rs ≢ limit
full_not limit rs k q h l = true≢false (sym (and_both (not (is_some (find k rs))) (eqb (length rs) limit) (ap (λ (o : Option Rec). not (is_some o)) h) (eq-eqb _ _ l)) ∙ q)

pub put_reason_passed : (ws : List ℕ) (k : ℕ) → reason_of ws ≡ 0 → put_reason ws k ≡ (if is_full (key_limit_of (layout_at ws).geo) (map_at ws) k then 5 otherwise 0)
unfolding put_reason
put_reason_passed ws k e = rw (eq-eqb (reason_of ws) 0 e, put_reason)

-- The reason that is foretold, and what one merge means.
foretold_reason : (n m : ℕ) → (foretold n m).reason ≡ n
foretold_reason zero m = refl
foretold_reason (suc n) m = refl

foretold_one : (n m : ℕ) → (foretold n m).merges ≡ 1 → (n ≡ 0) × (m ≡ 1)
foretold_one zero m e = (refl, e)
foretold_one (suc n) m e = absurd (omega (arith, e))

pub will_put_reason : (ws : List ℕ) (k : ℕ) → (will_put_merge_of ws k).reason ≡ put_reason ws k
unfolding will_put_merge_of
will_put_reason ws k = foretold_reason _ _

pub will_delete_reason : (ws : List ℕ) (k : ℕ) → (will_delete_merge_of ws k).reason ≡ reason_of ws
unfolding will_delete_merge_of
will_delete_reason ws k = foretold_reason _ _

-- "A refused call makes none."
foretold_none : (n m : ℕ) → n ≢ 0 → foretold n m ≡ record { reason = n; merges = 0 }
foretold_none zero m h = absurd (h refl)
foretold_none (suc n) m h = refl

refused_foretold : (z : Layout) (ws : List ℕ) (n m : ℕ) → n ≢ 0 → forecast_in (change_outcome z ws (refused n)).answer ≡ foretold n m
unfolding change_outcome counts_of
refused_foretold z ws n m h = sym (foretold_none n m h)

-- words that are turned down: the reason, and no merge
pub will_put_turned_down : (ws : List ℕ) (k : ℕ) → reason_of ws ≢ 0 → will_put_merge_of ws k ≡ record { reason = reason_of ws; merges = 0 }
unfolding will_put_merge_of put_reason
will_put_turned_down ws k h = rw (ne_eqb (reason_of ws) 0 h, put_reason) (foretold_none (reason_of ws) (top_merges (layout_at ws) ws k) h)

pub will_delete_turned_down : (ws : List ℕ) (k : ℕ) → reason_of ws ≢ 0 → will_delete_merge_of ws k ≡ record { reason = reason_of ws; merges = 0 }
unfolding will_delete_merge_of
will_delete_turned_down ws k h = foretold_none (reason_of ws) _ h

-- Words that pass the form check.
module _ (ws : List ℕ) (e : reason_of ws ≡ 0) where
  -- the merges into level 1 of the call that enters a record of k
  entered_merges : (k : ℕ) → total_into 1 (λ m. 1) (merges_for (layout_at ws).geo (store_at (layout_at ws) ws) k) ≡ top_merges (layout_at ws) ws k
  unfolding top_merges store_at
  entered_merges k =
      let p = reason_passed ws e in
      call_one (layout_at ws).geo (store_at (layout_at ws) ws) p.proper.valid p.fits p.sound k
      ∙ ap (λ (n : ℕ). if eqb n (top_capacity_of (layout_at ws).geo) && not (is_some (find k (top_recs (layout_at ws) ws))) then 1 otherwise 0) (sym (passed_count (layout_at ws) ws p))

  entered_foretold : (k : ℕ) (was : Bool) (ms : List Merge) (t : Store) → ms ≡ merges_for (layout_at ws).geo (store_at (layout_at ws) ws) k
      → forecast_in (change_outcome (layout_at ws) ws (entered was ms t)).answer ≡ foretold 0 (top_merges (layout_at ws) ws k)
  unfolding change_outcome counts_of
  entered_foretold k was ms t q = ap (foretold 0) (ap (total_into 1 (λ (m : Merge). 1)) q ∙ entered_merges k)

  put_passed : (k v : ℕ) → forecast_in (put_of ws k v).answer ≡ foretold (put_of ws k v).answer.reason (top_merges (layout_at ws) ws k)
  unfolding change_outcome
  put_passed k v =
      let p = reason_passed ws e in
      subst (λ (x : Outcome ChangeAnswer). forecast_in x.answer ≡ foretold x.answer.reason (top_merges (layout_at ws) ws k)) (sym (put_of_lem ws k v e))
      (go (put (layout_at ws).geo (store_at (layout_at ws) ws) k v) (put_says (layout_at ws).geo (store_at (layout_at ws) ws) p.proper.valid p.fits p.sound k v))
    where
      go : (c : Change) → PutSays (layout_at ws).geo (store_at (layout_at ws) ws) k v c → forecast_in (change_outcome (layout_at ws) ws c).answer ≡ foretold (change_outcome (layout_at ws) ws c).answer.reason (top_merges (layout_at ws) ws k)
      go (refused n) h = refused_foretold (layout_at ws) ws n _ (λ z. omega (arith, h.0, z))
      go absent h = absurd h
      go (entered was ms t) h = entered_foretold k was ms t h.merges

  put_reason_is : (k v : ℕ) → (put_of ws k v).answer.reason ≡ put_reason ws k
  put_reason_is k v = go (is_full (key_limit_of (layout_at ws).geo) (map_at ws) k) refl ∙ sym (put_reason_passed ws k e)
    where
      go : (t : Bool) → is_full (key_limit_of (layout_at ws).geo) (map_at ws) k ≡ t → (put_of ws k v).answer.reason ≡ (if t then 5 otherwise 0)
      go true q = let z = full_is (key_limit_of (layout_at ws).geo) (map_at ws) k q in ap (λ (o : Outcome ChangeAnswer). o.answer.reason) (put_full_outcome ws e k v z.0 z.1)
      go false q = (put_accepted ws e k v (full_not (key_limit_of (layout_at ws).geo) (map_at ws) k q)).0

  delete_passed : (k : ℕ) → forecast_in (delete_of ws k).answer ≡ foretold 0 (if is_some (find k (map_at ws)) then top_merges (layout_at ws) ws k otherwise 0)
  unfolding change_outcome counts_of
  delete_passed k =
      let p = reason_passed ws e in
      subst (λ (x : Outcome ChangeAnswer). forecast_in x.answer ≡ foretold 0 (if is_some (find k (map_at ws)) then top_merges (layout_at ws) ws k otherwise 0)) (sym (delete_of_lem ws k e))
      (go (delete (layout_at ws).geo (store_at (layout_at ws) ws) k) (delete_says (layout_at ws).geo (store_at (layout_at ws) ws) p.proper.valid p.fits p.sound k))
    where
      go : (c : Change) → DeleteSays (layout_at ws).geo (store_at (layout_at ws) ws) k c → forecast_in (change_outcome (layout_at ws) ws c).answer ≡ foretold 0 (if is_some (find k (map_at ws)) then top_merges (layout_at ws) ws k otherwise 0)
      go (refused n) h = absurd h
      go absent h = rw (sym (live_in_map ws k e) ∙ h)
      go (entered was ms t) h = rw (sym (live_in_map ws k e) ∙ h.1.was_live ∙ h.0) (entered_foretold k was ms t h.1.merges)

-- A put and a delete of any words: the reason and the merges into level 1 are those foretold.
pub put_foretold : (ws : List ℕ) (k v : ℕ) → forecast_in (put_of ws k v).answer ≡ will_put_merge_of ws k
unfolding put_of will_put_merge_of put_reason
put_foretold ws k v = go (eqb (reason_of ws) 0) refl
  where
    go : (t : Bool) → eqb (reason_of ws) 0 ≡ t → forecast_in (put_of ws k v).answer ≡ will_put_merge_of ws k
    go true z = let e = eqb-true (reason_of ws) 0 z in put_passed ws e k v ∙ ap (λ (n : ℕ). foretold n (top_merges (layout_at ws) ws k)) (put_reason_is ws e k v)
    go false z = rw (z, put_of, put_reason) (refused_foretold (layout_at ws) ws (reason_of ws) (top_merges (layout_at ws) ws k) (eqb-false (reason_of ws) 0 z))

pub delete_foretold : (ws : List ℕ) (k : ℕ) → forecast_in (delete_of ws k).answer ≡ will_delete_merge_of ws k
unfolding delete_of will_delete_merge_of
delete_foretold ws k = go (eqb (reason_of ws) 0) refl
  where
    go : (t : Bool) → eqb (reason_of ws) 0 ≡ t → forecast_in (delete_of ws k).answer ≡ will_delete_merge_of ws k
    go true z = let e = eqb-true (reason_of ws) 0 z in delete_passed ws e k ∙ ap (λ (n : ℕ). foretold n (if is_some (find k (map_at ws)) then top_merges (layout_at ws) ws k otherwise 0)) (sym e)
    go false z = rw (z, delete_of) (refused_foretold (layout_at ws) ws (reason_of ws) _ (eqb-false (reason_of ws) 0 z))

-- by the map alone, of words that pass: a put, by refusal 5, and a delete, by its key
module _ (ws : List ℕ) (e : reason_of ws ≡ 0) (k : ℕ) (t : Bool) where
  pub will_put : is_full (key_limit_of (layout_at ws).geo) (map_at ws) k ≡ t → will_put_merge_of ws k ≡ foretold (if t then 5 otherwise 0) (top_merges (layout_at ws) ws k)
  unfolding will_put_merge_of
  will_put q = ap (λ (n : ℕ). foretold n (top_merges (layout_at ws) ws k)) (put_reason_passed ws k e ∙ ap (λ (b : Bool). if b then 5 otherwise 0) q)

  pub will_delete : is_some (find k (map_at ws)) ≡ t → will_delete_merge_of ws k ≡ record { reason = 0; merges = if t then top_merges (layout_at ws) ws k otherwise 0 }
  unfolding will_delete_merge_of
  will_delete q = ap (λ (n : ℕ). foretold n (if is_some (find k (map_at ws)) then top_merges (layout_at ws) ws k otherwise 0)) e ∙ ap (λ (b : Bool). foretold 0 (if b then top_merges (layout_at ws) ws k otherwise 0)) q

-- In words: one merge "exactly .. if level 0 holds K(0) × B records and the key isn't among them", of a call that is not turned down.
module _ (ws : List ℕ) (k : ℕ) where
  top_one : top_merges (layout_at ws) ws k ≡ 1 → (top_count_at (layout_at ws) ws ≡ top_capacity_of (layout_at ws).geo) × (find k (top_recs (layout_at ws) ws) ≡ none)
  unfolding top_merges
  top_one q = go (eqb (top_count_at (layout_at ws) ws) (top_capacity_of (layout_at ws).geo)) (find k (top_recs (layout_at ws) ws)) refl refl q
    where
      go : (a : Bool) (o : Option Rec) → eqb (top_count_at (layout_at ws) ws) (top_capacity_of (layout_at ws).geo) ≡ a → find k (top_recs (layout_at ws) ws) ≡ o → ◌≡◌ {A = ℕ} (if a && not (is_some o) then 1 otherwise 0) 1
          → (top_count_at (layout_at ws) ws ≡ top_capacity_of (layout_at ws).geo) × (find k (top_recs (layout_at ws) ws) ≡ none)
      go true none d f z = (eqb-true _ _ d, f)
      go true (some r) d f z = absurd (omega (arith, z))
      go false o d f z = absurd (omega (arith, z))

  top_then : top_count_at (layout_at ws) ws ≡ top_capacity_of (layout_at ws).geo → find k (top_recs (layout_at ws) ws) ≡ none → top_merges (layout_at ws) ws k ≡ 1
  unfolding top_merges
  top_then d f = rw (eq-eqb (top_count_at (layout_at ws) ws) (top_capacity_of (layout_at ws).geo) d, f)

  pub will_put_one : (will_put_merge_of ws k).merges ≡ 1 → (put_reason ws k ≡ 0) × ((top_count_at (layout_at ws) ws ≡ top_capacity_of (layout_at ws).geo) × (find k (top_recs (layout_at ws) ws) ≡ none))
  unfolding will_put_merge_of
  will_put_one q = let z = foretold_one (put_reason ws k) (top_merges (layout_at ws) ws k) q in (z.0, top_one z.1)

  pub will_put_then : put_reason ws k ≡ 0 → top_count_at (layout_at ws) ws ≡ top_capacity_of (layout_at ws).geo → find k (top_recs (layout_at ws) ws) ≡ none → (will_put_merge_of ws k).merges ≡ 1
  unfolding will_put_merge_of
  will_put_then r d f = ap (λ (n : ℕ). (foretold n (top_merges (layout_at ws) ws k)).merges) r ∙ top_then d f

  -- of a delete: and the key is live
  pub will_delete_one : (will_delete_merge_of ws k).merges ≡ 1
      → (reason_of ws ≡ 0) × (is_some (find k (map_at ws)) ≡ true) × ((top_count_at (layout_at ws) ws ≡ top_capacity_of (layout_at ws).geo) × (find k (top_recs (layout_at ws) ws) ≡ none))
  unfolding will_delete_merge_of
  will_delete_one q =
      let z = foretold_one (reason_of ws) (if is_some (find k (map_at ws)) then top_merges (layout_at ws) ws k otherwise 0) q in
      let y = go (is_some (find k (map_at ws))) z.1 in
      (z.0, y.0, top_one y.1)
    where
      go : (t : Bool) → (if t then top_merges (layout_at ws) ws k otherwise 0) ≡ 1 → (t ≡ true) × (top_merges (layout_at ws) ws k ≡ 1)
      go true h = (refl, h)
      go false h = absurd (omega (arith, h))

  pub will_delete_then : reason_of ws ≡ 0 → is_some (find k (map_at ws)) ≡ true → top_count_at (layout_at ws) ws ≡ top_capacity_of (layout_at ws).geo → find k (top_recs (layout_at ws) ws) ≡ none → (will_delete_merge_of ws k).merges ≡ 1
  unfolding will_delete_merge_of
  will_delete_then r l d f =
      ap (λ (n : ℕ). (foretold n (if is_some (find k (map_at ws)) then top_merges (layout_at ws) ws k otherwise 0)).merges) r
      ∙ ap (λ (t : Bool). if t then top_merges (layout_at ws) ws k otherwise 0) l ∙ top_then d f

-- and none otherwise: there are no two
foretold_most : (n m : ℕ) → m ≤ 1 → (foretold n m).merges ≤ 1
foretold_most zero m h = h
foretold_most (suc n) m h = omega arith

top_most : (ws : List ℕ) (k : ℕ) → top_merges (layout_at ws) ws k ≤ 1
unfolding top_merges
top_most ws k = go (eqb (top_count_at (layout_at ws) ws) (top_capacity_of (layout_at ws).geo) && not (is_some (find k (top_recs (layout_at ws) ws))))
  where
    go : (t : Bool) → (if t then 1 otherwise 0) ≤ 1
    go true = omega arith
    go false = omega arith

pub will_put_most : (ws : List ℕ) (k : ℕ) → (will_put_merge_of ws k).merges ≤ 1
unfolding will_put_merge_of
will_put_most ws k = foretold_most (put_reason ws k) (top_merges (layout_at ws) ws k) (top_most ws k)

pub will_delete_most : (ws : List ℕ) (k : ℕ) → (will_delete_merge_of ws k).merges ≤ 1
unfolding will_delete_merge_of
will_delete_most ws k = foretold_most (reason_of ws) _ (go (is_some (find k (map_at ws))))
  where
    go : (t : Bool) → (if t then top_merges (layout_at ws) ws k otherwise 0) ≤ 1
    go true = top_most ws k
    go false = omega arith

-- The list of merges of a call on words that pass, by demand 3: its first is the one into level 1, and no later one is.
module _ (ws : List ℕ) (e : reason_of ws ≡ 0) (own : Option Own) (ms : List Merge) (a : ChangeAnswer) (out : List ℕ) (d : Demand (layout_at ws) ws own ms a out) where
  demand_first : OneFirst ms
  demand_first = one_first (layout_at ws).geo ms d.first_out d.later_deepest

  -- what is counted as written into level 1 is what that merge wrote, at most (G + 1) × w blocks
  demand_writes : a.level1.written ≤ ((layout_at ws).geo.g + 1) * (layout_at ws).geo.w
  demand_writes =
      let p = reason_passed ws e in
      let s : Store = store_at (layout_at ws) ws in
      let writes = own_by (layout_at ws) s (First (λ (m : Merge). blocks_merged m ≤ ((layout_at ws).geo.g + 1) * (layout_at ws).geo.w)) tt (call_first_writes (layout_at ws).geo s p.proper.valid p.fits p.sound) own in
      let h = subst (First (λ (m : Merge). blocks_merged m ≤ ((layout_at ws).geo.g + 1) * (layout_at ws).geo.w)) (sym d.list) writes in
      omega (arith, d.written_counted 1 (omega arith) (omega arith), into_first blocks_merged ms demand_first, go ms h)
    where
      go : (ms : List Merge) → First (λ m. blocks_merged m ≤ ((layout_at ws).geo.g + 1) * (layout_at ws).geo.w) ms → total blocks_merged (take 1 ms) ≤ ((layout_at ws).geo.g + 1) * (layout_at ws).geo.w
      go [] h = omega arith
      go (m ∷ ms) h = omega (arith, h)

module _ (ws : List ℕ) (e : reason_of ws ≡ 0) (k : ℕ) where
  pub put_one_first : (v : ℕ) → OneFirst (merges_of (put (layout_at ws).geo (store_at (layout_at ws) ws) k v))
  put_one_first v = demand_first ws e _ _ _ _ (put_demand ws k v e)

  pub delete_one_first : OneFirst (merges_of (delete (layout_at ws).geo (store_at (layout_at ws) ws) k))
  delete_one_first = demand_first ws e _ _ _ _ (delete_demand ws k e)

  -- so many of the list are into level 1 as are foretold
  pub put_list_foretold : (v : ℕ) → total_into 1 (λ m. 1) (merges_of (put (layout_at ws).geo (store_at (layout_at ws) ws) k v)) ≡ (will_put_merge_of ws k).merges
  put_list_foretold v = sym ((put_demand ws k v e).merges_counted 1 (omega arith) (omega arith)) ∙ ap (λ a. a.merges) (put_foretold ws k v)

  pub delete_list_foretold : total_into 1 (λ m. 1) (merges_of (delete (layout_at ws).geo (store_at (layout_at ws) ws) k)) ≡ (will_delete_merge_of ws k).merges
  delete_list_foretold = sym ((delete_demand ws k e).merges_counted 1 (omega arith) (omega arith)) ∙ ap (λ a. a.merges) (delete_foretold ws k)

  -- none is foretold: none is made, into no level
  pub put_none : (v : ℕ) → (will_put_merge_of ws k).merges ≡ 0 → merges_of (put (layout_at ws).geo (store_at (layout_at ws) ws) k v) ≡ []
  put_none v q = none_empty _ (put_one_first v) (put_list_foretold v ∙ q)

  pub delete_none : (will_delete_merge_of ws k).merges ≡ 0 → merges_of (delete (layout_at ws).geo (store_at (layout_at ws) ws) k) ≡ []
  delete_none q = none_empty _ delete_one_first (delete_list_foretold ∙ q)

  -- what the first writes
  pub put_first_writes : (v : ℕ) → (put_of ws k v).answer.level1.written ≤ ((layout_at ws).geo.g + 1) * (layout_at ws).geo.w
  put_first_writes v = demand_writes ws e _ _ _ _ (put_demand ws k v e)

  pub delete_first_writes : (delete_of ws k).answer.level1.written ≤ ((layout_at ws).geo.g + 1) * (layout_at ws).geo.w
  delete_first_writes = demand_writes ws e _ _ _ _ (delete_demand ws k e)
