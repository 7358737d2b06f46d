-- What the proofs of the reading calls need: each answer of the code is the definition's.
use Prim.Native.Nat.{ℕ, ◌+◌, ◌-◌}
use mathlib.Core.Path.{◌≡◌, refl, sym, ap, ◌∙◌, subst}
use mathlib.Core.Bool.{Bool, true, false}
use mathlib.Core.List.{List, []}
use mathlib.Core.Logic.{◌≢◌}
use native.Mathlib.Omega.{arith}
use lib.Dec.{eqb}
use lib.ListN.{take, drop}
use borrow.Author.Tests.{eq-eqb, ne_eqb}
use Rattle.geometry.specs.Geometry.{key_limit_of}
use Rattle.levels.specs.Basics.{if◌then◌otherwise◌, is_some}
use Rattle.levels.specs.Map.{find, map_of, decides, present, look_up, next, stretch}
use Rattle.levels.specs.Store.{rows}
use Rattle.words.specs.Stores.{store_at, layout_at}
use Rattle.words.specs.Form.{reason_of}
use Rattle.words.specs.Calls.{StretchAnswer, StretchOutcome, look_answer, look_up_of, next_answer, next_of, filled, stretch_of, show_in, show_of, about_in, about_of, check_of, is_full, top_merges, foretold, will_put_merge_of, will_delete_merge_of}
use Rattle.words.proofs.Forecast.{will_put_turned_down, will_delete_turned_down, will_put, will_delete}
use Rattle.std.specs.Prelude.{Option, Result, Ok, Err}
use Rattle.geometry.specs.declared.Refusal.{Refusal}
use Rattle.geometry.specs.Refusals.{number_of}
use Rattle.search.specs.declared.Held.{Held}
use Rattle.search.specs.Search.{found_of}
use Rattle.form.specs.Checked.{checked_of}
use Rattle.form.proofs.Ready.{checked_ready, checked_refused, checked_passes}
use Rattle.reader.specs.Answers.{looked_answer, looked_of, nexted_answer, stretch_answer, facts_answer, told_answer}
use Rattle.reader.specs.Show.{empty_part, show_part_in}
use Rattle.store.specs.Show.{show_part}
use Rattle.reader.specs.declared.Part.{Part}
use Rattle.reader.specs.declared.Facts.{Facts}
use Rattle.writer.specs.Answers.{forecast_answer}
use Rattle.reader.proofs.Answering.{look_present, part_words_in, Inside, empty_inside, part_inside_in}
use Rattle.layout.specs.declared.Layout.{Layout}
use Rattle.words.specs.Passed.{Passed}

-- A call that is turned down answers the reason, and nothing else.
module _ (ws : List ℕ) (r : Refusal) (e : Err r ≡ checked_of ws) where
  turned_down : reason_of ws ≢ 0
  turned_down y = let k = checked_refused ws r (sym e) in omega arith

  pub refused_test : eqb (reason_of ws) 0 ≡ false
  refused_test = ne_eqb (reason_of ws) 0 turned_down

  pub check_refused : number_of r ≡ check_of ws
  unfolding check_of
  check_refused = sym (checked_refused ws r (sym e)).0

  pub look_refused : (k : ℕ) → looked_answer (Err r) ≡ look_up_of ws k
  unfolding look_up_of
  look_refused k = rw (refused_test, look_up_of, (checked_refused ws r (sym e)).0)

  pub next_refused : (k : ℕ) → nexted_answer (Err r) ≡ next_of ws k
  unfolding next_of
  next_refused k = rw (refused_test, next_of, (checked_refused ws r (sym e)).0)

  pub stretch_refused : (first last : ℕ) (keys pays : List ℕ) → ◌≡◌ {A = StretchOutcome StretchAnswer} (record { answer = stretch_answer (Err r); keys = keys; pays = pays }) (stretch_of ws first last keys pays)
  unfolding stretch_of
  stretch_refused first last keys pays = rw (refused_test, stretch_of, (checked_refused ws r (sym e)).0)

  pub show_refused : (i k : ℕ) → empty_part ≡ show_part ws i k
  unfolding show_part
  show_refused i k = rw (refused_test, show_part)

  pub about_refused_lem : told_answer (Err r) ≡ about_of ws
  unfolding about_of
  about_refused_lem = rw (refused_test, about_of, (checked_refused ws r (sym e)).0)

  pub will_put_refused : (k : ℕ) → forecast_answer (Err r) ≡ will_put_merge_of ws k
  will_put_refused k = ap (λ (n : ℕ). record { reason = n; merges = 0 }) (sym (checked_refused ws r (sym e)).0) ∙ sym (will_put_turned_down ws k turned_down)

  pub will_delete_refused : (k : ℕ) → forecast_answer (Err r) ≡ will_delete_merge_of ws k
  will_delete_refused k = ap (λ (n : ℕ). record { reason = n; merges = 0 }) (sym (checked_refused ws r (sym e)).0) ∙ sym (will_delete_turned_down ws k turned_down)

module _ (ws : List ℕ) (z : Layout) (e : Ok z ≡ checked_of ws) where
  pub passed : Passed z ws
  passed = checked_passes ws z (sym e)

  ready_test : eqb (reason_of ws) 0 ≡ true
  ready_test = eq-eqb (reason_of ws) 0 (checked_ready ws z (sym e)).1

  pub check_none : 0 ≡ check_of ws
  unfolding check_of
  check_none = sym (checked_ready ws z (sym e)).1

  pub look_ready : (k : ℕ) (f : Option Held) → f ≡ found_of (decides k (rows (store_at z ws))) → looked_answer (Ok (looked_of f)) ≡ look_up_of ws k
  unfolding look_up_of look_up
  look_ready k f q =
      rw (q, ready_test, look_up_of) (look_present (decides k (rows (store_at z ws)))
      ∙ ap (λ (t : Layout). look_answer (present (decides k (rows (store_at t ws))))) (checked_ready ws z (sym e)).0)

  pub next_ready : (k : ℕ) (o : Option (ℕ × ℕ)) → nexted_answer (Ok o) ≡ next_answer (next k (rows (store_at z ws))) → nexted_answer (Ok o) ≡ next_of ws k
  unfolding next_of
  next_ready k o q =
      rw (ready_test, next_of) (q ∙ ap (λ (t : Layout). next_answer (next k (rows (store_at t ws)))) (checked_ready ws z (sym e)).0)

  pub stretch_ready : (first last : ℕ) (keys pays : List ℕ) (o : StretchOutcome StretchAnswer) → o ≡ filled (stretch first last (map_of (rows (store_at z ws)))) keys pays → o ≡ stretch_of ws first last keys pays
  unfolding stretch_of
  stretch_ready first last keys pays o q =
      rw (ready_test, stretch_of) (q ∙ ap (λ (t : Layout). filled (stretch first last (map_of (rows (store_at t ws)))) keys pays) (checked_ready ws z (sym e)).0)

  pub show_ready : (i k : ℕ) → show_part_in z ws i k ≡ show_part ws i k
  unfolding show_part
  show_ready i k = rw (ready_test, show_part) (ap (λ (t : Layout). show_part_in t ws i k) (checked_ready ws z (sym e)).0)

  pub about_ready : (f : Facts) → facts_answer f ≡ about_in z.geo (store_at z ws) → told_answer (Ok f) ≡ about_of ws
  unfolding about_of
  about_ready f q = rw (ready_test, about_of) (q ∙ ap (λ (t : Layout). about_in t.geo (store_at t ws)) (checked_ready ws z (sym e)).0)

  pub will_put_ready : (k : ℕ) → foretold (if is_full (key_limit_of z.geo) (map_of (rows (store_at z ws))) k then 5 otherwise 0) (top_merges z ws k) ≡ will_put_merge_of ws k
  will_put_ready k =
      let y = checked_ready ws z (sym e) in
      ap (λ (t : Layout). foretold (if is_full (key_limit_of t.geo) (map_of (rows (store_at t ws))) k then 5 otherwise 0) (top_merges t ws k)) y.0 ∙ sym (will_put ws y.1 k _ refl)

  pub will_delete_ready : (k : ℕ) → foretold 0 (if is_some (find k (map_of (rows (store_at z ws)))) then top_merges z ws k otherwise 0) ≡ will_delete_merge_of ws k
  will_delete_ready k =
      let y = checked_ready ws z (sym e) in
      ap (λ (t : Layout). foretold 0 (if is_some (find k (map_of (rows (store_at t ws)))) then top_merges t ws k otherwise 0)) y.0 ∙ sym (will_delete ws y.1 k _ refl)

pub part_words : (ws : List ℕ) (i k : ℕ) → take (show_part ws i k).length (drop (show_part ws i k).start ws) ≡ show_of ws i k
unfolding show_part show_of
part_words ws i k = go (eqb (reason_of ws) 0)
  where
    go : (t : Bool) → let p : Part = elim t [ true ↦ show_part_in (layout_at ws) ws i k | false ↦ empty_part ] in
        take p.length (drop p.start ws) ≡ elim t [ true ↦ show_in (layout_at ws) ws i k | false ↦ [] ]
    go true = part_words_in (layout_at ws) ws i k
    go false = refl

part_inside : (ws : List ℕ) (i k : ℕ) → Inside ws (show_part ws i k)
part_inside ws i k = go (checked_of ws) refl
  where
    go : (c : Result Layout Refusal) → c ≡ checked_of ws → Inside ws (show_part ws i k)
    go (Ok z) e = subst (Inside ws) (show_ready ws z e i k) (part_inside_in ws z (passed ws z e) i k)
    go (Err r) e = subst (Inside ws) (show_refused ws r e i k) (empty_inside ws)

-- of a part that the code has found
module _ (ws : List ℕ) (i k : ℕ) (p : Part) (e : p ≡ show_part ws i k) where
  pub part_in : Inside ws p
  part_in = subst (Inside ws) (sym e) (part_inside ws i k)

  pub part_shown : take (p.start + p.length - p.start) (drop p.start ws) ≡ show_of ws i k
  part_shown =
      let w : p.start + p.length - p.start ≡ p.length = omega arith in
      rw w (subst (λ (q : Part). take q.length (drop q.start ws) ≡ show_of ws i k) (sym e) (part_words ws i k))
