-- Demand 3, as one theorem about the whole list of merges that a put or delete makes, on any words that pass the form check, refused calls included.
use Prim.Native.Nat.{ℕ, zero, suc, ◌-◌, ◌≤◌}
use mathlib.Core.Path.{◌≡◌, refl, sym, ◌∙◌, ap, subst}
use mathlib.Core.Bool.{Bool, true, false}
use mathlib.Core.List.{List, []}
use mathlib.Core.Option.{Option, none, some}
use native.Mathlib.Omega.{arith}
use lib.Dec.{eqb}
use lib.ListN.{length}
use borrow.Author.Tests.{eq-eqb, ne_eqb}
use Rattle.geometry.specs.declared.Geometry.{Geometry}
use Rattle.geometry.specs.Geometry.{Valid, capacity_of, key_limit_of}
use Rattle.levels.specs.Record.{Rec}
use Rattle.levels.specs.Map.{is_live}
use Rattle.levels.specs.Store.{Store, rows, blocks_of}
use Rattle.levels.specs.Call.{Compaction, Merge, after_merges, Chained}
use Rattle.levels.specs.Put.{Change, refused, absent, entered, put, delete, merges_for, merges_of, put_rec, delete_rec}
use Rattle.levels.specs.Count.{run_of, overlap_of, Counts, counts_of}
use Rattle.levels.specs.Every.{Every, First, Later}
use Rattle.levels.specs.Sound.{Fits, Sound}
use Rattle.levels.specs.InCall.{CompactionFacts, MergeFacts, Deepest}
use Rattle.levels.proofs.Every.{every_turn}
use Rattle.levels.proofs.MergeBounds.{run_inside, run_fewest, run_first, overlap_most, merge_writes_most, merge_writes_growth, merge_found, merge_ruled, compaction_found}
use Rattle.levels.proofs.CallMerges.{fits_within, call_facts, call_ends, first_out, later_deepest}
use Rattle.levels.proofs.PutDelete.{live_put, EnterFacts, PutSays, DeleteSays, put_says, delete_says}
use Rattle.words.specs.Stores.{store_at, layout_at, with_blocks}
use Rattle.words.specs.Form.{reason_of}
use Rattle.words.specs.Calls.{Outcome, ChangeAnswer, left_words, change_outcome, put_of, delete_of}
use Rattle.words.specs.Demand.{CompactionDemand, MergeDemand, Own, own_put, own_delete, with_own, merges_own, counts_at, Demand}
use Rattle.words.specs.Passed.{Passed}
use Rattle.words.proofs.Reason.{reason_passed}
use Rattle.words.proofs.Steps.{put_of_lem, delete_of_lem}
use Rattle.layout.specs.Layouts.{Proper}
use Rattle.layout.specs.declared.Layout.{Layout}
use Rattle.pieces.specs.Pieces.{lay_all}

-- what holds of each compacting, and of each merge
compaction_demand : (g : Geometry) (e : Store) (c : Compaction) → CompactionFacts g e c → CompactionDemand g c
compaction_demand g e c f = record { level_low = f.level_low; level_high = f.level_high; needed = f.needed; is = f.is; found = compaction_found g e c f }

merge_demand : (g : Geometry) (e : Store) (m : Merge) → Valid g → MergeFacts g e m → MergeDemand g m
unfolding overlap_of run_of
merge_demand g e m v f = record {
  is = f.is;
  window_is = f.window_is;
  level_high = f.level_high;
  run_inside = run_inside g e m v f;
  overlap_is = refl;
  fewest = run_fewest g e m v f;
  lowest = λ j h. run_first g e m v f j;
  overlap_high = overlap_most g e m v f;
  writes_high = merge_writes_most g e m v f;
  writes_growth = merge_writes_growth g e m v f;
  found = merge_found g e m v f;
  compactions_in_order = f.five.follows;
  compactions_each = every_turn (CompactionFacts g e) (CompactionDemand g) m.compactions (λ c. compaction_demand g e c) f.five.facts;
  compacted = λ i l h. merge_ruled g e m v f i l;
}

-- what the rules say of the list of merges from the store s on
record ListRules (z : Layout) (s : Store) (ms : List Merge) : Type 0 where
  facts : Every (MergeFacts z.geo s) ms
  chained : Chained s ms
  first : First (λ m. m.level ≡ 0) ms
  later : Later (Deepest z.geo) ms
  ended : (i : ℕ) → i ≤ z.geo.h → length (blocks_of z.geo i (after_merges s ms)) ≤ capacity_of z.geo i

call_rules : (z : Layout) (s : Store) (k : ℕ) → Proper z → Fits z.geo s → Sound z.geo s → ListRules z s (merges_for z.geo s k)
call_rules z s k v f o =
    let a = call_facts z.geo s v.valid f o k in
    record { facts = a.facts; chained = a.chained; first = first_out z.geo s v.valid f o k; later = later_deepest z.geo s v.valid f o k; ended = call_ends z.geo s v.valid f o k }

-- of no merge: no level of a store that passes holds more than K blocks
none_rules : (z : Layout) (s : Store) → Proper z → Fits z.geo s → ListRules z s []
none_rules z s v f = record { facts = tt; chained = tt; first = tt; later = tt; ended = fits_within z.geo s v.valid f }

-- the counts of an answer that takes them from a list
pub counted : (a : ChangeAnswer) (ms : List Merge) → a.level1 ≡ counts_of 1 ms → a.level2 ≡ counts_of 2 ms → a.level3 ≡ counts_of 3 ms → (i : ℕ) → 1 ≤ i → i ≤ 3 → counts_at a i ≡ counts_of i ms
counted a ms x y z zero l h = absurd (omega arith)
counted a ms x y z (suc zero) l h = x
counted a ms x y z (suc (suc zero)) l h = y
counted a ms x y z (suc (suc (suc zero))) l h = z
counted a ms x y z (suc (suc (suc (suc n)))) l h = absurd (omega arith)

counts_none : (i : ℕ) → counts_of i [] ≡ record { merges = 0; written = 0; compacted = 0 }
unfolding counts_of
counts_none i = refl

-- the demand, from what holds of each merge, the words, and the counts
demand_of : (z : Layout) (ws : List ℕ) (own : Option Own) (ms : List Merge) (a : ChangeAnswer) (out : List ℕ) → Proper z → ms ≡ merges_own z.geo (store_at z ws) own → ListRules z (store_at z ws) ms
    → out ≡ left_words z ws ms (with_own own (after_merges (store_at z ws) ms)) → ((i : ℕ) → 1 ≤ i → i ≤ 3 → counts_at a i ≡ counts_of i ms) → Demand z ws own ms a out
unfolding counts_of
demand_of z ws own ms a out v q r w n = record {
  list = q;
  each = every_turn (MergeFacts z.geo (store_at z ws)) (MergeDemand z.geo) ms (λ m x. merge_demand z.geo (store_at z ws) m v.valid x) r.facts;
  in_order = r.chained;
  first_out = r.first;
  later_deepest = r.later;
  ended = r.ended;
  words = w;
  merges_counted = λ i l h. ap (λ (x : Counts). x.merges) (n i l h);
  written_counted = λ i l h. ap (λ (x : Counts). x.written) (n i l h);
  compacted_counted = λ i l h. ap (λ (x : Counts). x.compacted) (n i l h);
  zeros = λ q i l h. n i l h ∙ ap (counts_of i) q ∙ counts_none i;
}

-- a call that enters nothing leaves the words
left_none : (z : Layout) (ws : List ℕ) → Passed z ws → ws ≡ left_words z ws [] (store_at z ws)
unfolding left_words with_blocks lay_all
left_none z ws p = sym p.written

-- a call that is refused, or a delete of an absent key
nothing_demand : (z : Layout) (ws : List ℕ) (c : Change) → Passed z ws → merges_of c ≡ [] → (change_outcome z ws c).words ≡ ws → ((i : ℕ) → 1 ≤ i → i ≤ 3 → counts_at (change_outcome z ws c).answer i ≡ counts_of i [])
    → Demand z ws none (merges_of c) (change_outcome z ws c).answer (change_outcome z ws c).words
nothing_demand z ws c p q w n =
    subst (λ (ms : List Merge). Demand z ws none ms (change_outcome z ws c).answer (change_outcome z ws c).words) (sym q)
    (demand_of z ws none [] (change_outcome z ws c).answer (change_outcome z ws c).words p.proper refl (none_rules z (store_at z ws) p.proper p.fits) (w ∙ left_none z ws p) n)

-- a call that enters a record
entered_demand : (z : Layout) (ws : List ℕ) (r : Rec) (was : Bool) (live : ℕ) (ms : List Merge) (t : Store) → Passed z ws → EnterFacts z.geo (store_at z ws) r was live ms t
    → Demand z ws (some (record { recorded = r; live = live })) ms (change_outcome z ws (entered was ms t)).answer (change_outcome z ws (entered was ms t)).words
unfolding change_outcome
entered_demand z ws r was live ms t p f =
    let s : Store = store_at z ws in
    let a = subst (ListRules z s) (sym f.merges) (call_rules z s r.key p.proper p.fits p.sound) in
    demand_of z ws (some (record { recorded = r; live = live })) ms _ _ p.proper f.merges a (ap (left_words z ws ms) f.store) (counted (change_outcome z ws (entered was ms t)).answer ms refl refl refl)

-- what a put enters, by its outcome
own_full : (z : Layout) (s : Store) (k v : ℕ) → is_live k (rows s) ≡ false → s.live ≡ key_limit_of z.geo → own_put z.geo s k v ≡ none
own_full z s k v e q = rw (e, own_put, eq-eqb s.live (key_limit_of z.geo) q, own_put)

own_put_lem : (z : Layout) (s : Store) (k v : ℕ) (was : Bool) (ms : List Merge) (t : Store) → EnterFacts z.geo s (put_rec k v) was (live_put was s.live) ms t
    → own_put z.geo s k v ≡ some (record { recorded = put_rec k v; live = live_put was s.live })
own_put_lem z s k v true ms t f = rw (f.was_live, own_put)
own_put_lem z s k v false ms t f =
    let n : eqb s.live (key_limit_of z.geo) ≡ false = ne_eqb s.live (key_limit_of z.geo) (λ q. omega (arith, q, f.sound.live_fits, ap (λ (x : Store). x.live) f.store)) in
    rw (f.was_live, own_put, n, own_put)

put_case : (z : Layout) (ws : List ℕ) (k v : ℕ) → Passed z ws → (c : Change) → PutSays z.geo (store_at z ws) k v c
    → Demand z ws (own_put z.geo (store_at z ws) k v) (merges_of c) (change_outcome z ws c).answer (change_outcome z ws c).words
unfolding merges_of change_outcome
put_case z ws k v p (refused n) h =
    subst (λ (o : Option Own). Demand z ws o [] (change_outcome z ws (refused n)).answer ws) (sym (own_full z (store_at z ws) k v h.1 h.2))
    (nothing_demand z ws (refused n) p refl refl (counted (change_outcome z ws (refused n)).answer [] refl refl refl))
put_case z ws k v p absent h = absurd h
put_case z ws k v p (entered was ms t) h =
    subst (λ (o : Option Own). Demand z ws o ms (change_outcome z ws (entered was ms t)).answer (change_outcome z ws (entered was ms t)).words) (sym (own_put_lem z (store_at z ws) k v was ms t h))
    (entered_demand z ws (put_rec k v) was (live_put was (store_at z ws).live) ms t p h)

delete_case : (z : Layout) (ws : List ℕ) (k : ℕ) → Passed z ws → (c : Change) → DeleteSays z.geo (store_at z ws) k c
    → Demand z ws (own_delete z.geo (store_at z ws) k) (merges_of c) (change_outcome z ws c).answer (change_outcome z ws c).words
unfolding merges_of change_outcome
delete_case z ws k p (refused n) h = absurd h
delete_case z ws k p absent h =
    let q : own_delete z.geo (store_at z ws) k ≡ none = rw (h, own_delete) in
    subst (λ (o : Option Own). Demand z ws o [] (change_outcome z ws absent).answer ws) (sym q)
    (nothing_demand z ws absent p refl refl (counted (change_outcome z ws absent).answer [] refl refl refl))
delete_case z ws k p (entered was ms t) h =
    let q : own_delete z.geo (store_at z ws) k ≡ some (record { recorded = delete_rec k; live = (store_at z ws).live - 1 }) = rw (h.1.was_live ∙ h.0, own_delete) in
    subst (λ (o : Option Own). Demand z ws o ms (change_outcome z ws (entered was ms t)).answer (change_outcome z ws (entered was ms t)).words) (sym q)
    (entered_demand z ws (delete_rec k) was ((store_at z ws).live - 1) ms t p h.1)

-- Demand 3, of every put on words that pass the form check.
pub put_demand : (ws : List ℕ) (k v : ℕ) → reason_of ws ≡ 0
    → let z = layout_at ws in let s = store_at z ws in Demand z ws (own_put z.geo s k v) (merges_of (put z.geo s k v)) (put_of ws k v).answer (put_of ws k v).words
put_demand ws k v e =
    let z : Layout = layout_at ws in
    let s : Store = store_at z ws in
    let p = reason_passed ws e in
    subst (λ (x : Outcome ChangeAnswer). Demand z ws (own_put z.geo s k v) (merges_of (put z.geo s k v)) x.answer x.words) (sym (put_of_lem ws k v e))
    (put_case z ws k v p (put z.geo s k v) (put_says z.geo s p.proper.valid p.fits p.sound k v))

-- and of every delete
pub delete_demand : (ws : List ℕ) (k : ℕ) → reason_of ws ≡ 0
    → let z = layout_at ws in let s = store_at z ws in Demand z ws (own_delete z.geo s k) (merges_of (delete z.geo s k)) (delete_of ws k).answer (delete_of ws k).words
delete_demand ws k e =
    let z : Layout = layout_at ws in
    let s : Store = store_at z ws in
    let p = reason_passed ws e in
    subst (λ (x : Outcome ChangeAnswer). Demand z ws (own_delete z.geo s k) (merges_of (delete z.geo s k)) x.answer x.words) (sym (delete_of_lem ws k e))
    (delete_case z ws k p (delete z.geo s k) (delete_says z.geo s p.proper.valid p.fits p.sound k))

-- what holds of no merge and of the merges that enter a record of any key holds of the merges that a call gives
pub own_by : (z : Layout) (s : Store) (P : List Merge → Type 0) → P [] → ((k : ℕ) → P (merges_for z.geo s k)) → (own : Option Own) → P (merges_own z.geo s own)
own_by z s P n f none = n
own_by z s P n f (some o) = f o.recorded.key
