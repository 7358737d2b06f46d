-- What the proofs of put and delete need: each answer of the code is the definition's, and demands 1 to 3 of it.
use Prim.Native.Nat.{ℕ, ◌≤◌}
use mathlib.Core.Path.{◌≡◌, sym, ap, ◌∙◌, subst}
use mathlib.Core.List.{List}
use native.Mathlib.Omega.{arith}
use lib.ListN.{length}
use Rattle.geometry.specs.Geometry.{key_limit_of}
use Rattle.levels.specs.Store.{Store}
use Rattle.levels.specs.declared.Ticket.{Ticket}
use Rattle.levels.specs.Put.{put, delete, merges_of}
use Rattle.levels.specs.Tickets.{tickets_of}
use Rattle.words.specs.Stores.{store_at, layout_at}
use Rattle.words.specs.Form.{reason_of}
use Rattle.words.specs.Calls.{Outcome, ChangeAnswer, map_at, change_outcome, put_of, delete_of, put_tickets, delete_tickets, merges_counted, forecast_in}
use Rattle.words.specs.Rows.{rows_of}
use Rattle.words.specs.Demand.{Demand, own_put, own_delete}
use Rattle.words.proofs.Reason.{layout_geometry}
use Rattle.words.proofs.Steps.{put_of_lem, delete_of_lem, put_passes, delete_passes}
use Rattle.levels.proofs.Laying.{laid_length}
use Rattle.words.proofs.Rows.{Filed, filed_none, filed_by}
use Rattle.words.proofs.Tickets.{put_tickets_lem, delete_tickets_lem, put_tickets_few, delete_tickets_few, put_tickets_counted, delete_tickets_counted}
use Rattle.words.proofs.Demand.{put_demand, delete_demand}
use Rattle.words.proofs.MapAfter.{put_enters, delete_takes_out, put_refused_words, delete_refused_words, put_full_only}
use Rattle.words.proofs.Forecast.{put_foretold, delete_foretold}
use Rattle.std.specs.Prelude.{Result, Ok, Err}
use Rattle.geometry.specs.declared.Refusal.{Refusal}
use Rattle.form.specs.Checked.{checked_of}
use Rattle.form.proofs.Ready.{checked_ready, checked_refused}
use Rattle.writer.specs.declared.Change.{Change}
use Rattle.writer.specs.Answers.{changed_answer}
use Rattle.store.specs.Change.{PutDone, DeleteDone}
use Rattle.writer.proofs.Changing.{refused_outcome}
use Rattle.store.proofs.Answering.{refused_test}
use Rattle.layout.specs.declared.Layout.{Layout}

-- the reason in the answer is the definition's
reason_is : (r : Result Change Refusal) (out : List ℕ) (o : Outcome ChangeAnswer) (n : ℕ) → ◌≡◌ {A = Outcome ChangeAnswer} (record { answer = changed_answer r; words = out }) o → (changed_answer r).reason ≡ n → o.answer.reason ≡ n
reason_is r out o n e q = sym (ap (λ (x : Outcome ChangeAnswer). x.answer.reason) e) ∙ q

-- the outcome of the definition has demands 1 to 3, and card 5
pub put_done : (ws : List ℕ) (k v : ℕ) (r : Result Change Refusal) (out : List ℕ) → ◌≡◌ {A = Outcome ChangeAnswer} (record { answer = changed_answer r; words = out }) (put_of ws k v) → PutDone ws k v r out
put_done ws k v r out e =
    let w : out ≡ (put_of ws k v).words = ap (λ (x : Outcome ChangeAnswer). x.words) e in
    record {
      outcome = e;
      map = λ y q. ap map_at w ∙ put_enters ws y k v (reason_is r out (put_of ws k v) 0 e q);
      full = λ y q. let f = put_full_only ws k v (reason_is r out (put_of ws k v) 5 e q) in (f.0, f.1 ∙ ap key_limit_of (layout_geometry ws));
      kept = λ h. w ∙ put_refused_words ws k v (λ q. h (ap (λ (x : Outcome ChangeAnswer). x.answer.reason) e ∙ q));
      passes = λ y. ap reason_of w ∙ put_passes ws k v y;
      foretold = ap (λ (x : Outcome ChangeAnswer). forecast_in x.answer) e ∙ put_foretold ws k v;
      demand = λ y. let z : Layout = layout_at ws in
          let s : Store = store_at z ws in
          subst (λ (x : Outcome ChangeAnswer). Demand z ws (own_put z.geo s k v) (merges_of (put z.geo s k v)) x.answer x.words) (sym e) (put_demand ws k v y);
    }

pub delete_done : (ws : List ℕ) (k : ℕ) (r : Result Change Refusal) (out : List ℕ) → ◌≡◌ {A = Outcome ChangeAnswer} (record { answer = changed_answer r; words = out }) (delete_of ws k) → DeleteDone ws k r out
delete_done ws k r out e =
    let w : out ≡ (delete_of ws k).words = ap (λ (x : Outcome ChangeAnswer). x.words) e in
    record {
      outcome = e;
      map = λ y q. ap map_at w ∙ delete_takes_out ws y k (reason_is r out (delete_of ws k) 0 e q);
      kept = λ h. w ∙ delete_refused_words ws k (λ q. h (ap (λ (x : Outcome ChangeAnswer). x.answer.reason) e ∙ q));
      passes = λ y. ap reason_of w ∙ delete_passes ws k y;
      foretold = ap (λ (x : Outcome ChangeAnswer). forecast_in x.answer) e ∙ delete_foretold ws k;
      demand = λ y. let z : Layout = layout_at ws in
          let s : Store = store_at z ws in
          subst (λ (x : Outcome ChangeAnswer). Demand z ws (own_delete z.geo s k) (merges_of (delete z.geo s k)) x.answer x.words) (sym e) (delete_demand ws k y);
    }

-- A store that is turned down.
module _ (ws : List ℕ) (r : Refusal) (e : Err r ≡ checked_of ws) (rows : List (List ℕ)) where
  pub put_refused : (k v : ℕ) → PutDone ws k v (Err r) ws × Filed (put_tickets ws k v) rows rows
  unfolding put_of put_tickets
  put_refused k v =
      (put_done ws k v (Err r) ws (rw (refused_test ws r e, put_of, (checked_refused ws r (sym e)).0) (refused_outcome (layout_at ws) ws r)), filed_none _ rows (rw (refused_test ws r e, put_tickets)))

  pub delete_refused : (k : ℕ) → DeleteDone ws k (Err r) ws × Filed (delete_tickets ws k) rows rows
  unfolding delete_of delete_tickets
  delete_refused k =
      (delete_done ws k (Err r) ws (rw (refused_test ws r e, delete_of, (checked_refused ws r (sym e)).0) (refused_outcome (layout_at ws) ws r)), filed_none _ rows (rw (refused_test ws r e, delete_tickets)))

-- A store that passes.
module _ (ws : List ℕ) (z : Layout) (e : Ok z ≡ checked_of ws) (rows rows' : List (List ℕ)) where
  pub put_ready : (k v : ℕ) (r : Result Change Refusal) (out : List ℕ)
      → ◌≡◌ {A = Outcome ChangeAnswer} (record { answer = changed_answer r; words = out }) (change_outcome z ws (put z.geo (store_at z ws) k v)) × Filed (tickets_of z.geo (merges_of (put z.geo (store_at z ws) k v))) rows rows'
      → PutDone ws k v r out × Filed (put_tickets ws k v) rows rows'
  put_ready k v r out h =
      let y = checked_ready ws z (sym e) in (
        put_done ws k v r out (h.0 ∙ ap (λ (t : Layout). change_outcome t ws (put t.geo (store_at t ws) k v)) y.0 ∙ sym (put_of_lem ws k v y.1)),
        filed_by _ _ rows rows' (put_tickets_lem ws k v y.1 ∙ ap (λ (t : Layout). tickets_of t.geo (merges_of (put t.geo (store_at t ws) k v))) (sym y.0)) h.1,
      )

  pub delete_ready : (k : ℕ) (r : Result Change Refusal) (out : List ℕ)
      → ◌≡◌ {A = Outcome ChangeAnswer} (record { answer = changed_answer r; words = out }) (change_outcome z ws (delete z.geo (store_at z ws) k)) × Filed (tickets_of z.geo (merges_of (delete z.geo (store_at z ws) k))) rows rows'
      → DeleteDone ws k r out × Filed (delete_tickets ws k) rows rows'
  delete_ready k r out h =
      let y = checked_ready ws z (sym e) in (
        delete_done ws k r out (h.0 ∙ ap (λ (t : Layout). change_outcome t ws (delete t.geo (store_at t ws) k)) y.0 ∙ sym (delete_of_lem ws k y.1)),
        filed_by _ _ rows rows' (delete_tickets_lem ws k y.1 ∙ ap (λ (t : Layout). tickets_of t.geo (merges_of (delete t.geo (store_at t ws) k))) (sym y.0)) h.1,
      )

-- The merges that an answer counts are as many as there are tickets, which are few.
pub put_merges : (ws : List ℕ) (k v : ℕ) (r : Result Change Refusal) (out : List ℕ) → PutDone ws k v r out → (merges_counted (changed_answer r) ≡ length (put_tickets ws k v)) × (length (put_tickets ws k v) ≤ 512)
put_merges ws k v r out d = (ap (λ (x : Outcome ChangeAnswer). merges_counted x.answer) d.outcome ∙ sym (put_tickets_counted ws k v), put_tickets_few ws k v)

pub delete_merges : (ws : List ℕ) (k : ℕ) (r : Result Change Refusal) (out : List ℕ) → DeleteDone ws k r out → (merges_counted (changed_answer r) ≡ length (delete_tickets ws k)) × (length (delete_tickets ws k) ≤ 512)
delete_merges ws k r out d = (ap (λ (x : Outcome ChangeAnswer). merges_counted x.answer) d.outcome ∙ sym (delete_tickets_counted ws k), delete_tickets_few ws k)

-- 512 rows hold them all
pub rows_hold : (ts : List Ticket) (rows rows' : List (List ℕ)) (m n : ℕ) → (m ≡ length ts) × (length ts ≤ 512) → n ≡ m → length rows ≡ 512 → Filed ts rows rows' → (n ≤ 512) × (n ≤ length rows')
rows_hold ts rows rows' m n few e l f = (omega (arith, few.0, few.1, e), omega (arith, few.0, few.1, e, l, ap length f, laid_length (rows_of ts) rows))
