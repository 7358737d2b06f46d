-- Which words a put or delete without a merge may change: live, c and level 0. Every other word is what it was.
use Prim.Native.Nat.{ℕ, ◌≤◌, ◌<◌}
use mathlib.Core.Path.{◌≡◌, refl, sym, ◌∙◌, ap, subst}
use mathlib.Core.Bool.{Bool, false, true≢false}
use mathlib.Core.List.{List, [], ◌∷◌}
use mathlib.Core.Logic.{◌≢◌, ◌⊎◌, inl, inr, dite}
use native.Mathlib.Decide.{dec_lt}
use Rattle.pieces.proofs.Pieces.{lay_all_beside, stacked_clear, within_clear, within_most}
use Rattle.levels.specs.Every.{Every}
use mathlib.Core.Option.{none}
use native.Mathlib.Omega.{arith}
use lib.ListN.{length}
use Rattle.levels.specs.Basics.{is_some}
use Rattle.levels.specs.Record.{Rec}
use Rattle.levels.specs.Map.{find}
use Rattle.levels.specs.Store.{Store}
use Rattle.levels.specs.Call.{Merge, after_merges}
use Rattle.levels.specs.Put.{Change, refused, absent, entered, put, delete, with_record, merges_of}
use Rattle.levels.specs.Sound.{Fits}
use Rattle.levels.proofs.PutDelete.{EnterFacts, PutSays, DeleteSays, put_says, delete_says}
use Rattle.words.specs.Stores.{word, store_at, layout_at, pieces, top_pieces, with_blocks, with_store}
use Rattle.words.specs.Halves.{list_part, top_part}
use Rattle.words.specs.Form.{reason_of}
use Rattle.words.specs.Calls.{Outcome, ChangeAnswer, map_at, left_words, change_outcome, put_of, delete_of}
use Rattle.words.specs.Passed.{Passed}
use Rattle.words.proofs.Stacking.{top_stacked}
use Rattle.words.proofs.Resting.{top_store}
use Rattle.words.proofs.Reason.{reason_passed, passed_held}
use Rattle.words.proofs.Steps.{put_of_lem, delete_of_lem}
use Rattle.words.proofs.MapAfter.{delete_accepted}
use Rattle.words.proofs.Forecast.{put_foretold, delete_foretold, put_none, delete_none}
use Rattle.layout.specs.Layouts.{Proper}
use Rattle.layout.specs.declared.Layout.{Layout}
use Rattle.pieces.specs.Pieces.{Clear, Held, lay_all, piece}
use Rattle.words.proofs.State.{with_length}

-- the words `out` are ws but for live, c and level 0
pub record KeptBelow (z : Layout) (ws out : List ℕ) : Type 0 where
  pub long : length out ≡ length ws
  pub kept : (i : ℕ) → i ≢ z.live → i ≢ z.count → (i < z.marks) ⊎ (z.lists ≤ i) → word out i ≡ word ws i

kept_self : (z : Layout) (ws : List ℕ) → KeptBelow z ws ws
kept_self z ws = record { long = refl; kept = λ i n m l. refl }

one_clear : (i at x : ℕ) → i ≢ at → Clear i 1 (piece at (x ∷ []))
one_clear i at x n = dite (dec_lt i at) (λ h. inl (omega arith)) (λ h. inr (omega (arith, n)))

-- a store with other records in level 0 and another live, over words that hold it as it was
record_kept : (z : Layout) (ws : List ℕ) (t : Store) → Proper z → Fits z.geo t → length ws ≡ z.length → Every (Held ws) (list_part z t) → KeptBelow z ws (with_store z t ws)
record_kept z ws t k f l e =
    record {
      long = with_length z t ws;
      kept = λ i n m o. ap (λ (xs : List ℕ). word xs i) (sym (top_store z t ws k f l e)) ∙ lay_all_beside (top_part z t) ws i (one_clear i z.live t.live n, (one_clear i z.count (length t.top) m, top_clear i o));
    }
  where
    top_clear : (i : ℕ) → (i < z.marks) ⊎ (z.lists ≤ i) → Every (Clear i 1) (top_pieces z t.top)
    top_clear i (inl h) = stacked_clear (top_pieces z t.top) z.marks i 1 (omega arith) (top_stacked z t.top k f.top_fits).0
    top_clear i (inr h) = within_clear (top_pieces z t.top) i 1 (within_most (top_pieces z t.top) z.lists i h (top_stacked z t.top k f.top_fits).1)

-- a call that enters a record and merges nothing
entered_kept : (z : Layout) (ws : List ℕ) (r : Rec) (was : Bool) (live : ℕ) (ms : List Merge) (t : Store) → Passed z ws → EnterFacts z.geo (store_at z ws) r was live ms t → ms ≡ [] → KeptBelow z ws (left_words z ws ms t)
unfolding left_words with_blocks lay_all pieces
entered_kept z ws r was live ms t p f q =
    let s : Store = store_at z ws in
    let a : t ≡ with_record r live s = f.store ∙ ap (λ (x : List Merge). with_record r live (after_merges s x)) q in
    let w : left_words z ws ms t ≡ with_store z (with_record r live s) ws = λ i. left_words z ws (q i) (a i) in
    let h = passed_held z ws p in
    subst (KeptBelow z ws) (sym w)
    (record_kept z ws (with_record r live s) p.proper (subst (Fits z.geo) a f.fits) p.long (h.1.0, (h.1.1.1.0, h.1.1.1.1.1.1.1)))

-- Words that pass the form check, a put that merges nothing: refused ones too.
pub put_keeps : (ws : List ℕ) (k v : ℕ) → reason_of ws ≡ 0 → merges_of (put (layout_at ws).geo (store_at (layout_at ws) ws) k v) ≡ [] → KeptBelow (layout_at ws) ws (put_of ws k v).words
unfolding change_outcome merges_of
put_keeps ws k v e q =
    let p = reason_passed ws e in
    subst (λ (x : Outcome ChangeAnswer). KeptBelow (layout_at ws) ws x.words) (sym (put_of_lem ws k v e))
    (go (put (layout_at ws).geo (store_at (layout_at ws) ws) k v) (put_says (layout_at ws).geo (store_at (layout_at ws) ws) p.proper.valid p.fits p.sound k v) q)
  where
    go : (c : Change) → PutSays (layout_at ws).geo (store_at (layout_at ws) ws) k v c → merges_of c ≡ [] → KeptBelow (layout_at ws) ws (change_outcome (layout_at ws) ws c).words
    go (refused n) h z = kept_self (layout_at ws) ws
    go absent h z = absurd h
    go (entered was ms t) h z = entered_kept (layout_at ws) ws _ was _ ms t (reason_passed ws e) h z

-- and a delete, of an absent key too
pub delete_keeps : (ws : List ℕ) (k : ℕ) → reason_of ws ≡ 0 → merges_of (delete (layout_at ws).geo (store_at (layout_at ws) ws) k) ≡ [] → KeptBelow (layout_at ws) ws (delete_of ws k).words
unfolding change_outcome merges_of
delete_keeps ws k e q =
    let p = reason_passed ws e in
    subst (λ (x : Outcome ChangeAnswer). KeptBelow (layout_at ws) ws x.words) (sym (delete_of_lem ws k e))
    (go (delete (layout_at ws).geo (store_at (layout_at ws) ws) k) (delete_says (layout_at ws).geo (store_at (layout_at ws) ws) p.proper.valid p.fits p.sound k) q)
  where
    go : (c : Change) → DeleteSays (layout_at ws).geo (store_at (layout_at ws) ws) k c → merges_of c ≡ [] → KeptBelow (layout_at ws) ws (change_outcome (layout_at ws) ws c).words
    go (refused n) h z = absurd h
    go absent h z = kept_self (layout_at ws) ws
    go (entered was ms t) h z = entered_kept (layout_at ws) ws _ was _ ms t (reason_passed ws e) h.1 z

-- The answer says which call merges nothing: the first merge of a call is into level 1, so the call counts none there.
pub put_unmerged : (ws : List ℕ) (k v : ℕ) → reason_of ws ≡ 0 → (put_of ws k v).answer.level1.merges ≡ 0 → merges_of (put (layout_at ws).geo (store_at (layout_at ws) ws) k v) ≡ []
put_unmerged ws k v e q =
    put_none ws e k v (sym (ap (λ a. a.merges) (put_foretold ws k v)) ∙ q)

pub delete_unmerged : (ws : List ℕ) (k : ℕ) → reason_of ws ≡ 0 → (delete_of ws k).answer.level1.merges ≡ 0 → merges_of (delete (layout_at ws).geo (store_at (layout_at ws) ws) k) ≡ []
delete_unmerged ws k e q =
    delete_none ws e k (sym (ap (λ a. a.merges) (delete_foretold ws k)) ∙ q)

-- "absent means no change": a delete of a key that the map has not leaves every word.
pub delete_absent_words : (ws : List ℕ) (k : ℕ) → reason_of ws ≡ 0 → find k (map_at ws) ≡ none → (delete_of ws k).words ≡ ws
unfolding change_outcome
delete_absent_words ws k e q =
    let p = reason_passed ws e in
    let o = delete_of_lem ws k e in
    let a : (change_outcome (layout_at ws) ws (delete (layout_at ws).geo (store_at (layout_at ws) ws) k)).answer.live ≡ false = sym (ap (λ (x : Outcome ChangeAnswer). x.answer.live) o) ∙ (delete_accepted ws e k).1 ∙ ap is_some q in
    ap (λ (x : Outcome ChangeAnswer). x.words) o
    ∙ go (delete (layout_at ws).geo (store_at (layout_at ws) ws) k) (delete_says (layout_at ws).geo (store_at (layout_at ws) ws) p.proper.valid p.fits p.sound k) a
  where
    go : (c : Change) → DeleteSays (layout_at ws).geo (store_at (layout_at ws) ws) k c → (change_outcome (layout_at ws) ws c).answer.live ≡ false → (change_outcome (layout_at ws) ws c).words ≡ ws
    go (refused n) h z = refl
    go absent h z = refl
    go (entered was ms t) h z = absurd (true≢false (sym h.0 ∙ z))
