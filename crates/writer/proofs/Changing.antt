-- What the proofs of put and delete need: of a store that passes, each answer of the code is the definition's.
use Prim.Native.Nat.{ℕ, suc, ◌+◌, ◌-◌, ◌≤◌}
use mathlib.Core.Path.{◌≡◌, refl, sym, ap, ◌∙◌, subst}
use mathlib.Core.Bool.{Bool, true, false, not}
use mathlib.Core.List.{List, []}
use mathlib.Core.Option.{Option as Maybe, none, some}
use Rattle.std.specs.Prelude.{Option, Result, Ok, Err}
use mathlib.Core.Logic.{◌≢◌}
use native.Mathlib.Omega.{arith}
use borrow.Author.Tests.{eq-eqb, ne_eqb}
use Rattle.geometry.specs.Geometry.{key_limit_of}
use Rattle.levels.specs.Basics.{if◌then◌otherwise◌, is_some}
use Rattle.levels.specs.Record.{Rec}
use Rattle.levels.specs.Map.{decides, present, look_up, is_live}
use Rattle.levels.specs.Store.{Store, rows}
use Rattle.levels.specs.Put.{Change, refused, absent, enter, put, delete, put_rec, delete_rec, merges_for, merges_of}
use Rattle.levels.specs.Tickets.{tickets_of}
use Rattle.levels.specs.Count.{Counts, counts_of}
use Rattle.levels.proofs.PutDelete.{enter_is, put_live, put_full, put_new, delete_live, delete_absent}
use Rattle.words.specs.Stores.{live_at, store_at}
use Rattle.words.proofs.Rows.{Filed, filed_none, filed_by}
use Rattle.words.specs.Calls.{Outcome, ChangeAnswer, change_outcome, merges_counted}
use Rattle.search.specs.declared.Held.{Held}
use Rattle.search.specs.Search.{found_of}
use Rattle.steps.specs.Running.{Tally, counts_in}
use Rattle.geometry.specs.declared.Refusal.{Refusal}
use Rattle.geometry.specs.declared.Refusal.TheVariants.{Full}
use Rattle.geometry.specs.Refusals.{number_of}
use Rattle.writer.specs.declared.Change as writer
use Rattle.writer.specs.Answers.{changed_answer}
use Rattle.writer.specs.Change.{live_found, Counted, Entered}
use Rattle.layout.specs.declared.Layout.{Layout}

-- a key is live if the record that decides for it is there and no tombstone
pub live_found_lem : (k : ℕ) (ls : List (List Rec)) → is_live k ls ≡ live_found (found_of (decides k ls))
unfolding is_live look_up
live_found_lem k ls = go (decides k ls)
  where
    pick : (r : Rec) (t : Bool) → is_some (if t then none otherwise some r) ≡ not t
    pick r true = refl
    pick r false = refl

    go : (o : Maybe Rec) → is_some (present o) ≡ live_found (found_of o)
    go none = refl
    go (some r) = pick r r.tombstone

pub live_is : (k : ℕ) (ls : List (List Rec)) (f : Option Held) (was t : Bool) → f ≡ found_of (decides k ls) → was ≡ live_found f → was ≡ t → is_live k ls ≡ t
live_is k ls f was t e w h = live_found_lem k ls ∙ ap live_found (sym e) ∙ sym w ∙ h

-- an answer and words, part by part
same_outcome : (was : Bool) (a b c x y z : Counts) (o w : List ℕ) → a ≡ x → b ≡ y → c ≡ z → o ≡ w
    → ◌≡◌ {A = Outcome ChangeAnswer} (record { answer = record { reason = 0; live = was; level1 = a; level2 = b; level3 = c }; words = o }) (record { answer = record { reason = 0; live = was; level1 = x; level2 = y; level3 = z }; words = w })
same_outcome was a b c x y z o w p q r s = rw (p, q, r, s)

-- a record entered is the change of the definition
pub enter_outcome : (z : Layout) (ws : List ℕ) (r : Rec) (was : Bool) (live : ℕ) (t : Tally) (out : List ℕ) → Entered z ws r live t out
    → ◌≡◌ {A = Outcome ChangeAnswer} (record { answer = changed_answer (Ok (record { live = was; tally = t })); words = out }) (change_outcome z ws (enter z.geo (store_at z ws) r was live))
unfolding change_outcome
enter_outcome z ws r was live t out e =
    same_outcome was _ _ _ _ _ _ _ _ e.counts.one e.counts.two e.counts.three e.words
    ∙ ap (change_outcome z ws) (sym (enter_is z.geo (store_at z ws) r was live))

-- a call that changes nothing
pub refused_outcome : (z : Layout) (ws : List ℕ) (r : Refusal) → ◌≡◌ {A = Outcome ChangeAnswer} (record { answer = changed_answer (Err r); words = ws }) (change_outcome z ws (refused (number_of r)))
unfolding change_outcome counts_of
refused_outcome z ws r = refl

pub absent_outcome : (z : Layout) (ws : List ℕ) (t : Tally) → Counted t [] → ◌≡◌ {A = Outcome ChangeAnswer} (record { answer = changed_answer (Ok (record { live = false; tally = t })); words = ws }) (change_outcome z ws absent)
unfolding change_outcome
absent_outcome z ws t n = same_outcome false _ _ _ _ _ _ ws ws n.one n.two n.three refl

-- a record entered, as the change of the definition, with its tickets
enter_filed : (z : Layout) (s : Store) (r : Rec) (was : Bool) (live : ℕ) (c : Change) (rows rows' : List (List ℕ)) → c ≡ enter z.geo s r was live → Filed (tickets_of z.geo (merges_for z.geo s r.key)) rows rows' → Filed (tickets_of z.geo (merges_of c)) rows rows'
unfolding merges_of
enter_filed z s r was live c rows rows' e f = filed_by _ _ rows rows' (ap (λ (d : Change). tickets_of z.geo (merges_of d)) (e ∙ enter_is z.geo s r was live)) f

-- The cases of put and delete, of a store that passes.
module _ (z : Layout) (ws : List ℕ) (k : ℕ) (rows0 : List (List ℕ)) where
  pub put_turned : (v : ℕ) → is_live k (rows (store_at z ws)) ≡ false → live_at z ws ≡ key_limit_of z.geo
      → ◌≡◌ {A = Outcome ChangeAnswer} (record { answer = changed_answer (Err Full); words = ws }) (change_outcome z ws (put z.geo (store_at z ws) k v)) × Filed (tickets_of z.geo (merges_of (put z.geo (store_at z ws) k v))) rows0 rows0
  unfolding store_at merges_of
  put_turned v h l =
      let q = put_full z.geo (store_at z ws) k v h (eq-eqb (live_at z ws) (key_limit_of z.geo) l) in
      (refused_outcome z ws Full ∙ ap (change_outcome z ws) (sym q), filed_none _ rows0 (ap (λ (c : Change). tickets_of z.geo (merges_of c)) q))

  pub delete_none : (t : Tally) → is_live k (rows (store_at z ws)) ≡ false → Counted t []
      → ◌≡◌ {A = Outcome ChangeAnswer} (record { answer = changed_answer (Ok (record { live = false; tally = t })); words = ws }) (change_outcome z ws (delete z.geo (store_at z ws) k)) × Filed (tickets_of z.geo (merges_of (delete z.geo (store_at z ws) k))) rows0 rows0
  unfolding merges_of
  delete_none t h n =
      let q = delete_absent z.geo (store_at z ws) k h in
      (absent_outcome z ws t n ∙ ap (change_outcome z ws) (sym q), filed_none _ rows0 (ap (λ (c : Change). tickets_of z.geo (merges_of c)) q))

  module _ (rows1 : List (List ℕ)) where
    pub put_over : (v : ℕ) (t : Tally) (out : List ℕ) → is_live k (rows (store_at z ws)) ≡ true → Entered z ws (put_rec k v) (live_at z ws) t out × Filed (tickets_of z.geo (merges_for z.geo (store_at z ws) k)) rows0 rows1
        → ◌≡◌ {A = Outcome ChangeAnswer} (record { answer = changed_answer (Ok (record { live = true; tally = t })); words = out }) (change_outcome z ws (put z.geo (store_at z ws) k v)) × Filed (tickets_of z.geo (merges_of (put z.geo (store_at z ws) k v))) rows0 rows1
    unfolding store_at
    put_over v t out h e =
        let q = put_live z.geo (store_at z ws) k v h in
        (enter_outcome z ws (put_rec k v) true (live_at z ws) t out e.0 ∙ ap (change_outcome z ws) (sym q), enter_filed z (store_at z ws) (put_rec k v) true (live_at z ws) _ rows0 rows1 q e.1)

    pub put_added : (v : ℕ) (t : Tally) (out : List ℕ) → is_live k (rows (store_at z ws)) ≡ false → live_at z ws ≢ key_limit_of z.geo → Entered z ws (put_rec k v) (live_at z ws + 1) t out × Filed (tickets_of z.geo (merges_for z.geo (store_at z ws) k)) rows0 rows1
        → ◌≡◌ {A = Outcome ChangeAnswer} (record { answer = changed_answer (Ok (record { live = false; tally = t })); words = out }) (change_outcome z ws (put z.geo (store_at z ws) k v)) × Filed (tickets_of z.geo (merges_of (put z.geo (store_at z ws) k v))) rows0 rows1
    unfolding store_at
    put_added v t out h l e =
        let n : live_at z ws + 1 ≡ suc (live_at z ws) = omega arith in
        let q = put_new z.geo (store_at z ws) k v h (ne_eqb (live_at z ws) (key_limit_of z.geo) l) in (
          enter_outcome z ws (put_rec k v) false (suc (live_at z ws)) t out (subst (λ (n : ℕ). Entered z ws (put_rec k v) n t out) n e.0) ∙ ap (change_outcome z ws) (sym q),
          enter_filed z (store_at z ws) (put_rec k v) false (suc (live_at z ws)) _ rows0 rows1 q e.1,
        )

    pub delete_over : (t : Tally) (out : List ℕ) → is_live k (rows (store_at z ws)) ≡ true → Entered z ws (delete_rec k) (live_at z ws - 1) t out × Filed (tickets_of z.geo (merges_for z.geo (store_at z ws) k)) rows0 rows1
        → ◌≡◌ {A = Outcome ChangeAnswer} (record { answer = changed_answer (Ok (record { live = true; tally = t })); words = out }) (change_outcome z ws (delete z.geo (store_at z ws) k)) × Filed (tickets_of z.geo (merges_of (delete z.geo (store_at z ws) k))) rows0 rows1
    unfolding store_at
    delete_over t out h e =
        let q = delete_live z.geo (store_at z ws) k h in
        (enter_outcome z ws (delete_rec k) true (live_at z ws - 1) t out e.0 ∙ ap (change_outcome z ws) (sym q), enter_filed z (store_at z ws) (delete_rec k) true (live_at z ws - 1) _ rows0 rows1 q e.1)

-- the merges that an answer counts are few
pub done_few : (c : Result writer.Change Refusal) (d : writer.Change) → c ≡ Ok d → merges_counted (changed_answer c) ≤ 512 → merges_counted (changed_answer (Ok d)) ≤ 512
done_few c d e h = subst (λ (x : Result writer.Change Refusal). merges_counted (changed_answer x) ≤ 512) e h
