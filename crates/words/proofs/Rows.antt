-- New entries laid over a lent list one by one.
use Prim.Native.Nat.{ℕ, zero, suc}
use mathlib.Core.Path.{◌≡◌, refl, sym, ap, subst, ◌∙◌}
use mathlib.Core.List.{List, [], ◌∷◌}
use lib.ListN.{set, take-append-drop}
use Rattle.levels.specs.declared.Ticket.{Ticket}
use Rattle.levels.specs.Tickets.{laid}
use Rattle.levels.proofs.Laying.{lay_first, lay_nowhere, laid_none}
use Rattle.words.specs.Rows.{rows_of, laid_from}

-- Laid from entry n on: from the first, none, and one by one. An entry set past the end changes nothing.
pub laid_from_start : {A : Type 0} (new old : List A) → laid_from 0 new old ≡ laid new old
unfolding laid_from
laid_from_start new old = refl

pub laid_from_none : {A : Type 0} (n : ℕ) (old : List A) → laid_from n [] old ≡ old
unfolding laid_from
laid_from_none n old = rw laid_none (take-append-drop n old)

pub laid_from_next : {A : Type 0} (n : ℕ) (x : A) (xs old : List A) → laid_from n (x ∷ xs) old ≡ laid_from (suc n) xs (set old n x)
unfolding laid_from
laid_from_next zero x xs [] = rw (lay_nowhere, lay_nowhere)
laid_from_next (suc n) x xs [] = rw (lay_nowhere, lay_nowhere)
laid_from_next zero x xs (y ∷ ys) = rw lay_first
laid_from_next (suc n) x xs (y ∷ ys) = ap (λ r. y ∷ r) (laid_from_next n x xs ys)

pub laid_first : {A : Type 0} (x : A) (xs old : List A) → laid (x ∷ xs) old ≡ laid_from 1 xs (set old 0 x)
laid_first x xs old = rw (← laid_from_start (x ∷ xs) old) (laid_from_next 0 x xs old)

-- The rows of a call's tickets, as many as there are rows.
abbrev pub Filed : List Ticket → List (List ℕ) → List (List ℕ) → Type 0
Filed ts rows rows' = rows' ≡ laid (rows_of ts) rows

pub filed_none : (ts : List Ticket) (rows : List (List ℕ)) → ts ≡ [] → Filed ts rows rows
unfolding rows_of
filed_none ts rows e = sym (laid_none rows) ∙ ap (λ (x : List Ticket). laid (rows_of x) rows) (sym e)

pub filed_by : (ts us : List Ticket) (rows rows' : List (List ℕ)) → ts ≡ us → Filed us rows rows' → Filed ts rows rows'
filed_by ts us rows rows' e f = subst (λ (x : List Ticket). Filed x rows rows') (sym e) f
