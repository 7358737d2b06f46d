-- Document 02, card 3: the tickets of a put and of a delete, on any words.
use Prim.Native.Nat.{ℕ, suc, ◌≤◌, ◌<◌, min}
use mathlib.Core.Path.{◌≡◌, refl, sym, ap, subst, ◌∙◌}
use mathlib.Core.Bool.{Bool, true, false, ◌||◌}
use mathlib.Core.List.{List, []}
use mathlib.Core.Option.{Option}
use native.Mathlib.Nat.{min-le_left, min-le_right}
use native.Mathlib.Omega.{arith}
use lib.Dec.{eqb, ltb}
use lib.ListN.{length, take, get_or, length-map}
use borrow.Author.Tests.{eqb-true, eq-eqb}
use Rattle.geometry.specs.Geometry.{top_capacity_of}
use Rattle.levels.specs.declared.Ticket.{Ticket}
use Rattle.levels.specs.Basics.{is_some}
use Rattle.levels.specs.Map.{is_live, find}
use Rattle.levels.specs.Store.{Store, rows}
use Rattle.levels.specs.Call.{Merge}
use Rattle.levels.specs.Put.{Change, refused, absent, entered, put, delete, merges_of}
use Rattle.levels.specs.Count.{Counts, counts_of}
use Rattle.levels.specs.Every.{Every}
use Rattle.levels.specs.Inside.{merges_most}
use Rattle.levels.specs.Tickets.{ticket_of, tickets_of, laid, written_column, TicketKeeps}
use Rattle.levels.proofs.Every.{every_turn}
use Rattle.levels.proofs.MergesFew.{merges_few}
use Rattle.levels.proofs.PutDelete as change
use Rattle.levels.proofs.Tickets.{tickets_keep, tickets_column, tickets_counted}
use Rattle.words.specs.Stores.{store_at, layout_at}
use Rattle.words.specs.Form.{reason_of}
use Rattle.words.specs.Calls.{ChangeAnswer, change_outcome, put_of, delete_of, put_tickets, delete_tickets, merges_counted}
use Rattle.words.specs.Demand.{MergeDemand, Own, counts_at, Demand}
use Rattle.words.proofs.Reason.{reason_passed}
use Rattle.words.proofs.Demand.{counted, own_by, put_demand, delete_demand}
use Rattle.levels.proofs.Laying.{laid_all, laid_at, laid_behind}
use Rattle.layout.specs.Layouts.{old}
use Rattle.layout.specs.declared.Layout.{Layout}

-- "A ticket for each merge", in the order of the merges
pub put_tickets_lem : (ws : List ℕ) (k v : ℕ) → reason_of ws ≡ 0 → put_tickets ws k v ≡ tickets_of (layout_at ws).geo (merges_of (put (layout_at ws).geo (store_at (layout_at ws) ws) k v))
unfolding put_tickets
put_tickets_lem ws k v e = rw (eq-eqb (reason_of ws) 0 e, put_tickets)

pub delete_tickets_lem : (ws : List ℕ) (k : ℕ) → reason_of ws ≡ 0 → delete_tickets ws k ≡ tickets_of (layout_at ws).geo (merges_of (delete (layout_at ws).geo (store_at (layout_at ws) ws) k))
unfolding delete_tickets
delete_tickets_lem ws k e = rw (eq-eqb (reason_of ws) 0 e, delete_tickets)

-- What holds of an answer and the tickets with it: each keeps the bounds, they are few, there are as many as the answer counts merges, and each column of blocks written has the answer's sum.
record Agree (z : Layout) (a : ChangeAnswer) (ts : List Ticket) : Type 0 where
  keep : Every (TicketKeeps z.geo) ts
  few : length ts ≤ merges_most
  number : length ts ≡ merges_counted a
  column : (i : ℕ) → 1 ≤ i → i ≤ 3 → written_column i ts ≡ (counts_at a i).written

-- on words that pass, by demand 3
demand_agree : (ws : List ℕ) (own : Option Own) (ms : List Merge) (a : ChangeAnswer) (out : List ℕ) → reason_of ws ≡ 0 → Demand (layout_at ws) ws own ms a out → Agree (layout_at ws) a (tickets_of (layout_at ws).geo ms)
unfolding counts_of
demand_agree ws own ms a out e d =
    let z : Layout = layout_at ws in
    let s : Store = store_at z ws in
    let p = reason_passed ws e in
    let few = own_by z s (λ (x : List Merge). length x ≤ merges_most) (omega arith) (merges_few z.geo s p.proper.valid p.fits p.sound) own in
    let l = every_turn (MergeDemand z.geo) (λ m. m.level < z.geo.h) ms (λ m x. x.level_high) d.each in
    record {
      keep = subst (λ (x : List Merge). Every (TicketKeeps z.geo) (tickets_of z.geo x)) (sym d.list) (own_by z s (λ x. Every (TicketKeeps z.geo) (tickets_of z.geo x)) tt (tickets_keep z.geo s p.proper.valid p.fits p.sound) own);
      few = omega (arith, length-map ms (ticket_of z.geo), ap (λ (x : List Merge). length x) d.list, few);
      number = omega (
        arith,
        length-map ms (ticket_of z.geo),
        tickets_counted z.geo ms p.proper.valid.ranged.h_high l,
        d.merges_counted 1 (omega arith) (omega arith),
        d.merges_counted 2 (omega arith) (omega arith),
        d.merges_counted 3 (omega arith) (omega arith),
      );
      column = λ i x y. tickets_column z.geo i ms ∙ sym (d.written_counted i x y);
    }

-- of words that are turned down there are none
none_agree : (z : Layout) (ws : List ℕ) (n : ℕ) → Agree z (change_outcome z ws (refused n)).answer []
unfolding change_outcome counts_of
none_agree z ws n = record {
  keep = tt;
  few = omega arith;
  number = refl;
  column = λ i l h. sym (ap (λ (x : Counts). x.written) (counted (change_outcome z ws (refused n)).answer [] refl refl refl i l h));
}

-- So of any words: the test t says if they pass, c is the change that the call then makes, m the reason if they do not.
module _ (z : Layout) (ws : List ℕ) (c : Change) (m : ℕ) where
  call_agree : (t : Bool) → (t ≡ true → Agree z (change_outcome z ws (elim t [ true ↦ c | false ↦ refused m ])).answer (tickets_of z.geo (merges_of c)))
      → Agree z (change_outcome z ws (elim t [ true ↦ c | false ↦ refused m ])).answer (elim t [ true ↦ tickets_of z.geo (merges_of c) | false ↦ [] ])
  call_agree true f = f refl
  call_agree false f = none_agree z ws m

  -- a change that makes no merge fills none
  call_still : merges_of c ≡ [] → (t : Bool) → ◌≡◌ {A = List Ticket} (elim t [ true ↦ tickets_of z.geo (merges_of c) | false ↦ [] ]) []
  call_still e true = ap (tickets_of z.geo) e
  call_still e false = refl

  -- and so a refused call
  call_none : (t : Bool) (n : ℕ) → (change_outcome z ws (elim t [ true ↦ c | false ↦ refused m ])).answer.reason ≡ suc n → ◌≡◌ {A = List Ticket} (elim t [ true ↦ tickets_of z.geo (merges_of c) | false ↦ [] ]) []
  unfolding change_outcome merges_of
  call_none false n e = refl
  call_none true n e = call_still (go c e) true
    where
      go : (d : Change) → (change_outcome z ws d).answer.reason ≡ suc n → merges_of d ≡ []
      go (refused r) q = refl
      go absent q = refl
      go (entered was ms s) q = absurd (omega (arith, q))

-- laid over a lent list
module _ (z : Layout) (a : ChangeAnswer) (ts old : List Ticket) (h : Agree z a ts) where
  agree_column : (i : ℕ) → 1 ≤ i → i ≤ 3 → length ts ≤ length old → written_column i (take (merges_counted a) (laid ts old)) ≡ (counts_at a i).written
  agree_column i l k f =
      ap (λ (n : ℕ). written_column i (take n (laid ts old))) (sym h.number) ∙ ap (written_column i) (laid_all ts old f) ∙ h.column i l k

  agree_filled : (i : ℕ) (d : Ticket) → (i < min (length old) (merges_counted a) → get_or (laid ts old) i d ≡ get_or ts i d) × (merges_counted a ≤ i → get_or (laid ts old) i d ≡ get_or old i d)
  agree_filled i d =
      let x = min-le_left (length old) (merges_counted a) in
      let y = min-le_right (length old) (merges_counted a) in
      ((λ l. laid_at ts old i d (omega (arith, h.number)) (omega arith)), λ l. laid_behind ts old i d (omega (arith, h.number)))

put_agree : (ws : List ℕ) (k v : ℕ) → Agree (layout_at ws) (put_of ws k v).answer (put_tickets ws k v)
unfolding put_of put_tickets
put_agree ws k v = call_agree (layout_at ws) ws _ (reason_of ws) (eqb (reason_of ws) 0) (λ t. let e = eqb-true (reason_of ws) 0 t in demand_agree ws _ _ _ _ e (put_demand ws k v e))

delete_agree : (ws : List ℕ) (k : ℕ) → Agree (layout_at ws) (delete_of ws k).answer (delete_tickets ws k)
unfolding delete_of delete_tickets
delete_agree ws k = call_agree (layout_at ws) ws _ (reason_of ws) (eqb (reason_of ws) 0) (λ t. let e = eqb-true (reason_of ws) 0 t in demand_agree ws _ _ _ _ e (delete_demand ws k e))

-- A call that is turned down, for reason 1 to 5, fills no ticket.
pub put_no_tickets : (ws : List ℕ) (k v n : ℕ) → (put_of ws k v).answer.reason ≡ suc n → put_tickets ws k v ≡ []
unfolding put_of put_tickets
put_no_tickets ws k v n e = call_none (layout_at ws) ws _ (reason_of ws) (eqb (reason_of ws) 0) n e

pub delete_no_tickets : (ws : List ℕ) (k n : ℕ) → (delete_of ws k).answer.reason ≡ suc n → delete_tickets ws k ≡ []
unfolding delete_of delete_tickets
delete_no_tickets ws k n e = call_none (layout_at ws) ws _ (reason_of ws) (eqb (reason_of ws) 0) n e

-- nor does a delete of a key that is not live
pub delete_absent : (ws : List ℕ) (k : ℕ) → is_live k (rows (store_at (layout_at ws) ws)) ≡ false → delete_tickets ws k ≡ []
unfolding delete_tickets merges_of
delete_absent ws k e =
    call_still (layout_at ws) ws (delete (layout_at ws).geo (store_at (layout_at ws) ws) k) (reason_of ws) (ap merges_of (change.delete_absent (layout_at ws).geo (store_at (layout_at ws) ws) k e)) (eqb (reason_of ws) 0)

-- nor does an overwriting in level 0, or a call that finds room there
pub put_still : (ws : List ℕ) (k v : ℕ) → let z = layout_at ws in let s = store_at z ws in (is_some (find k s.top) || ltb (length s.top) (top_capacity_of z.geo)) ≡ true → put_tickets ws k v ≡ []
unfolding put_tickets
put_still ws k v e =
    let z : Layout = layout_at ws in
    call_still z ws (put z.geo (store_at z ws) k v) (reason_of ws) (change.put_still z.geo (store_at z ws) k v e) (eqb (reason_of ws) 0)

pub delete_still : (ws : List ℕ) (k : ℕ) → let z = layout_at ws in let s = store_at z ws in (is_some (find k s.top) || ltb (length s.top) (top_capacity_of z.geo)) ≡ true → delete_tickets ws k ≡ []
unfolding delete_tickets
delete_still ws k e =
    let z : Layout = layout_at ws in
    call_still z ws (delete z.geo (store_at z ws) k) (reason_of ws) (change.delete_still z.geo (store_at z ws) k e) (eqb (reason_of ws) 0)

-- "The overlap and the write bound of each merge are then read from its ticket": of all words
pub put_tickets_keep : (ws : List ℕ) (k v : ℕ) → Every (TicketKeeps (layout_at ws).geo) (put_tickets ws k v)
put_tickets_keep ws k v = (put_agree ws k v).keep

pub delete_tickets_keep : (ws : List ℕ) (k : ℕ) → Every (TicketKeeps (layout_at ws).geo) (delete_tickets ws k)
delete_tickets_keep ws k = (delete_agree ws k).keep

-- there are few, so that a work array of that room holds them all
pub put_tickets_few : (ws : List ℕ) (k v : ℕ) → length (put_tickets ws k v) ≤ merges_most
put_tickets_few ws k v = (put_agree ws k v).few

pub delete_tickets_few : (ws : List ℕ) (k : ℕ) → length (delete_tickets ws k) ≤ merges_most
delete_tickets_few ws k = (delete_agree ws k).few

-- there are as many as the answer counts merges
pub put_tickets_counted : (ws : List ℕ) (k v : ℕ) → length (put_tickets ws k v) ≡ merges_counted (put_of ws k v).answer
put_tickets_counted ws k v = (put_agree ws k v).number

pub delete_tickets_counted : (ws : List ℕ) (k : ℕ) → length (delete_tickets ws k) ≡ merges_counted (delete_of ws k).answer
delete_tickets_counted ws k = (delete_agree ws k).number

-- "the written column, summed for an upper level", is the blocks written that the answer counts for the level below it, if all tickets fitted
pub put_column : (ws : List ℕ) (k v : ℕ) (old : List Ticket) (i : ℕ) → 1 ≤ i → i ≤ 3 → length (put_tickets ws k v) ≤ length old
    → written_column i (take (merges_counted (put_of ws k v).answer) (laid (put_tickets ws k v) old)) ≡ (counts_at (put_of ws k v).answer i).written
put_column ws k v old = agree_column (layout_at ws) (put_of ws k v).answer (put_tickets ws k v) old (put_agree ws k v)

pub delete_column : (ws : List ℕ) (k : ℕ) (old : List Ticket) (i : ℕ) → 1 ≤ i → i ≤ 3 → length (delete_tickets ws k) ≤ length old
    → written_column i (take (merges_counted (delete_of ws k).answer) (laid (delete_tickets ws k) old)) ≡ (counts_at (delete_of ws k).answer i).written
delete_column ws k old = agree_column (layout_at ws) (delete_of ws k).answer (delete_tickets ws k) old (delete_agree ws k)

-- "if the list is shorter, the further merges are only counted. Tickets not reached stay unchanged": the first entries, as many as there are and as are counted, are
-- filled in the order of the merges, and those behind stay
pub put_filled : (ws : List ℕ) (k v : ℕ) (old : List Ticket) (i : ℕ) (d : Ticket) → let n = merges_counted (put_of ws k v).answer in let ts = put_tickets ws k v in
    (i < min (length old) n → get_or (laid ts old) i d ≡ get_or ts i d) × (n ≤ i → get_or (laid ts old) i d ≡ get_or old i d)
put_filled ws k v old = agree_filled (layout_at ws) (put_of ws k v).answer (put_tickets ws k v) old (put_agree ws k v)

pub delete_filled : (ws : List ℕ) (k : ℕ) (old : List Ticket) (i : ℕ) (d : Ticket) → let n = merges_counted (delete_of ws k).answer in let ts = delete_tickets ws k in
    (i < min (length old) n → get_or (laid ts old) i d ≡ get_or ts i d) × (n ≤ i → get_or (laid ts old) i d ≡ get_or old i d)
delete_filled ws k old = agree_filled (layout_at ws) (delete_of ws k).answer (delete_tickets ws k) old (delete_agree ws k)
