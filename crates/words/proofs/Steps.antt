-- The words through the merges of a call: after each merge and each compaction the blocks of all levels stand in their places;
-- so the words that a put or delete leaves pass the form check.
use Prim.Native.Nat.{ℕ}
use mathlib.Core.Path.{◌≡◌, sym, ◌∙◌, ap, subst}
use mathlib.Core.Bool.{Bool}
use mathlib.Core.List.{List, [], ◌∷◌, ◌++◌}
use lib.ListN.{length}
use borrow.Author.Tests.{eq-eqb}
use Rattle.layout.specs.declared.Layout.{Layout}
use Rattle.layout.specs.Layouts.{Proper}
use Rattle.levels.specs.Record.{Rec, Level}
use Rattle.levels.specs.Place.{places_of}
use Rattle.levels.specs.Store.{Store, used_in, allocation_of}
use Rattle.levels.specs.Call.{Compaction, Merge, after_compactions, after_merge, after_merges, Follows, Chained}
use Rattle.levels.specs.Put.{Change, refused, absent, entered, put, delete}
use Rattle.levels.specs.Every.{Every}
use Rattle.levels.specs.InCall.{CompactionFacts, MergeFacts}
use Rattle.levels.proofs.Stays.{takes_free, takes_distinct}
use Rattle.levels.proofs.Entry.{inside_fit}
use Rattle.levels.proofs.InCall.{ListFacts}
use Rattle.levels.proofs.CallMerges.{call_facts}
use Rattle.levels.proofs.PutDelete.{EnterFacts, PutSays, DeleteSays, put_says, delete_says}
use Rattle.pieces.specs.Pieces.{lay_all}
use Rattle.words.specs.Stores.{layout_at, store_at, with_blocks}
use Rattle.words.specs.Form.{reason_of}
use Rattle.words.specs.Calls.{Outcome, ChangeAnswer, compacted_blocks, written_blocks, left_words, change_outcome, put_of, delete_of}
use Rattle.words.specs.Passed.{Standing, Passed}
use Rattle.words.proofs.Blocks.{blocks_append, blocks_length}
use Rattle.words.proofs.Laid.{standing_step}
use Rattle.words.proofs.Reason.{reason_passed, reason_back, blocks_geometry}

-- One compaction, one merge, the compactions of a merge, and the merges of a call with their compactings.
module _ (z : Layout) (k : Proper z) (e : Store) where
  pub standing_compaction : (c : Compaction) (ws : List ℕ) → length ws ≡ z.length → CompactionFacts z.geo e c → Standing z ws c.start.levels → Standing z (with_blocks z c.written ws) c.finish.levels
  standing_compaction c ws n f l =
      standing_step z ws c.start.levels c.finish.levels c.written k n (inside_fit z.geo e c.start f.start_inside) l f.written_fit
      (takes_distinct z.geo.p (allocation_of c.start) (places_of c.written) f.changed.takes)
      (takes_free z.geo.p (used_in c.start) (allocation_of c.start) (places_of c.written) (λ p q. q) f.changed.takes) f.stays

  pub standing_merge : (m : Merge) (ws : List ℕ) → length ws ≡ z.length → MergeFacts z.geo e m → Standing z ws m.start.levels → Standing z (with_blocks z m.written ws) m.finish.levels
  standing_merge m ws n f l =
      standing_step z ws m.start.levels m.finish.levels m.written k n (inside_fit z.geo e m.start f.start_inside) l f.written_fit
      (takes_distinct z.geo.p (allocation_of m.start) (places_of m.written) f.changed.takes)
      (takes_free z.geo.p (used_in m.start) (allocation_of m.start) (places_of m.written) (λ p q. q) f.changed.takes) f.stays

  pub standing_compactions : (s : Store) (cs : List Compaction) (ws : List ℕ) → length ws ≡ z.length → Every (CompactionFacts z.geo e) cs → Follows s cs → Standing z ws s.levels → Standing z (with_blocks z (compacted_blocks cs) ws) (after_compactions s cs).levels
  unfolding with_blocks lay_all
  standing_compactions s [] ws n f h l = l
  standing_compactions s (c ∷ cs) ws n f h l =
      let a : List ℕ = with_blocks z c.written ws in
      let i = standing_compaction c ws n f.0 (subst (λ (t : Store). Standing z ws t.levels) (sym h.0) l) in
      subst (λ (x : List ℕ). Standing z x (after_compactions c.finish cs).levels) (sym (blocks_append z c.written (compacted_blocks cs) ws))
      (standing_compactions c.finish cs a (blocks_length z c.written ws ∙ n) f.1 h.1 i)

  pub standing_merges : (s : Store) (ms : List Merge) (ws : List ℕ) → length ws ≡ z.length → Every (MergeFacts z.geo e) ms → Chained s ms → Standing z ws s.levels → Standing z (with_blocks z (written_blocks ms) ws) (after_merges s ms).levels
  unfolding with_blocks lay_all
  standing_merges s [] ws n f h l = l
  standing_merges s (m ∷ ms) ws n f h l =
      let a : List ℕ = with_blocks z m.written ws in
      let an = blocks_length z m.written ws ∙ n in
      let b : List ℕ = with_blocks z (compacted_blocks m.compactions) a in
      let i = standing_merge m ws n f.0 (subst (λ (t : Store). Standing z ws t.levels) (sym h.0) l) in
      let j = standing_compactions m.finish m.compactions a an f.0.five.facts f.0.five.follows i in
      let q : with_blocks z (m.written ++ (compacted_blocks m.compactions ++ written_blocks ms)) ws ≡ with_blocks z (written_blocks ms) b =
      blocks_append z m.written (compacted_blocks m.compactions ++ written_blocks ms) ws ∙ blocks_append z (compacted_blocks m.compactions) (written_blocks ms) a in
      subst (λ (x : List ℕ). Standing z x (after_merges (after_merge m) ms).levels) (sym q) (standing_merges (after_merge m) ms b (blocks_length z (compacted_blocks m.compactions) a ∙ an) f.1 h.1 j)

-- a call that enters a record: the blocks of the store that it leaves stand in their places
pub entered_standing : (z : Layout) (ws : List ℕ) (r : Rec) (was : Bool) (live : ℕ) (ms : List Merge) (t : Store) → Passed z ws → EnterFacts z.geo (store_at z ws) r was live ms t → Standing z (with_blocks z (written_blocks ms) ws) t.levels
entered_standing z ws r was live ms t p f =
    let s : Store = store_at z ws in
    let a = subst (ListFacts z.geo s s) (sym f.merges) (call_facts z.geo s p.proper.valid p.fits p.sound r.key) in
    subst (λ (ls : List Level). Standing z (with_blocks z (written_blocks ms) ws) ls) (sym (ap (λ (x : Store). x.levels) f.store))
    (standing_merges z p.proper s s ms ws p.long a.facts a.chained p.standing)

-- and its words pass the form check
entered_passes : (ws : List ℕ) (r : Rec) (was : Bool) (live : ℕ) (ms : List Merge) (t : Store) → Passed (layout_at ws) ws → EnterFacts (layout_at ws).geo (store_at (layout_at ws) ws) r was live ms t → reason_of (left_words (layout_at ws) ws ms t) ≡ 0
unfolding left_words
entered_passes ws r was live ms t p f =
    let z : Layout = layout_at ws in
    reason_back ws (with_blocks z (written_blocks ms) ws) t p.proper (blocks_geometry ws (written_blocks ms) p.proper p.long) (blocks_length z (written_blocks ms) ws ∙ p.long) f.fits (entered_standing z ws r was live ms t p f) f.sound

-- a put or delete of words that pass the form check
pub put_of_lem : (ws : List ℕ) (k v : ℕ) → reason_of ws ≡ 0 → put_of ws k v ≡ change_outcome (layout_at ws) ws (put (layout_at ws).geo (store_at (layout_at ws) ws) k v)
unfolding put_of
put_of_lem ws k v e = rw (eq-eqb (reason_of ws) 0 e, put_of)

pub delete_of_lem : (ws : List ℕ) (k : ℕ) → reason_of ws ≡ 0 → delete_of ws k ≡ change_outcome (layout_at ws) ws (delete (layout_at ws).geo (store_at (layout_at ws) ws) k)
unfolding delete_of
delete_of_lem ws k e = rw (eq-eqb (reason_of ws) 0 e, delete_of)

-- What a put leaves passes the form check, so refusal 4 never follows from our own calls.
pub put_passes : (ws : List ℕ) (k v : ℕ) → reason_of ws ≡ 0 → reason_of (put_of ws k v).words ≡ 0
unfolding change_outcome
put_passes ws k v e =
    let z : Layout = layout_at ws in
    let s : Store = store_at z ws in
    let p = reason_passed ws e in
    ap (λ (x : Outcome ChangeAnswer). reason_of x.words) (put_of_lem ws k v e) ∙ go (put z.geo s k v) (put_says z.geo s p.proper.valid p.fits p.sound k v)
  where
    go : (c : Change) → PutSays (layout_at ws).geo (store_at (layout_at ws) ws) k v c → reason_of (change_outcome (layout_at ws) ws c).words ≡ 0
    go (refused n) h = e
    go absent h = e
    go (entered was ms t) h = entered_passes ws _ was _ ms t (reason_passed ws e) h

-- and what a delete leaves
pub delete_passes : (ws : List ℕ) (k : ℕ) → reason_of ws ≡ 0 → reason_of (delete_of ws k).words ≡ 0
unfolding change_outcome
delete_passes ws k e =
    let z : Layout = layout_at ws in
    let s : Store = store_at z ws in
    let p = reason_passed ws e in
    ap (λ (x : Outcome ChangeAnswer). reason_of x.words) (delete_of_lem ws k e) ∙ go (delete z.geo s k) (delete_says z.geo s p.proper.valid p.fits p.sound k)
  where
    go : (c : Change) → DeleteSays (layout_at ws).geo (store_at (layout_at ws) ws) k c → reason_of (change_outcome (layout_at ws) ws c).words ≡ 0
    go (refused n) h = e
    go absent h = e
    go (entered was ms t) h = entered_passes ws _ was _ ms t (reason_passed ws e) h.1
