-- Document 02, card 3: new entries laid over a lent list. How many there are, which are new and which stay.
use Prim.Native.Nat.{ℕ, zero, suc, ◌≤◌, ◌<◌}
use mathlib.Core.Path.{◌≡◌, refl, sym, ap, ◌∙◌}
use mathlib.Core.List.{List, [], ◌∷◌, ◌++◌}
use native.Mathlib.Omega.{arith}
use lib.ListN.{length, take, get_or}
use lib.Seq.{take-nil, drop-nil}
use Rattle.levels.specs.Tickets.{laid}

-- the first of them
pub lay_first : {A : Type 0} (x y : A) (xs ys : List A) → laid (x ∷ xs) (y ∷ ys) ≡ x ∷ laid xs ys
unfolding laid
lay_first x y xs ys = refl

-- nothing laid changes nothing
pub laid_none : {A : Type 0} (old : List A) → laid [] old ≡ old
unfolding laid
laid_none {A = A} old = ap {A = List A} (λ r. r ++ old) (take-nil (length old))

-- nothing is laid where there is no entry
pub lay_nowhere : {A : Type 0} (new : List A) → laid new [] ≡ []
unfolding laid
lay_nowhere new = drop-nil (length new)

-- the list keeps its length
pub laid_length : {A : Type 0} (new old : List A) → length (laid new old) ≡ length old
laid_length [] old = rw laid_none
laid_length (x ∷ xs) [] = rw lay_nowhere
laid_length (x ∷ xs) (y ∷ ys) = rw lay_first (ap suc (laid_length xs ys))

-- if all fit, the list begins with all of them
pub laid_all : {A : Type 0} (new old : List A) → length new ≤ length old → take (length new) (laid new old) ≡ new
laid_all [] old h = refl
laid_all (x ∷ xs) [] h = absurd (omega arith)
laid_all (x ∷ xs) (y ∷ ys) h = rw lay_first (ap (λ r. x ∷ r) (laid_all xs ys (omega arith)))

-- those that fit stand in their order
pub laid_at : {A : Type 0} (new old : List A) (i : ℕ) (d : A) → i < length new → i < length old → get_or (laid new old) i d ≡ get_or new i d
laid_at [] old i d h k = absurd (omega arith)
laid_at (x ∷ xs) [] i d h k = absurd (omega arith)
laid_at (x ∷ xs) (y ∷ ys) zero d h k = rw lay_first
laid_at (x ∷ xs) (y ∷ ys) (suc i) d h k = rw lay_first (laid_at xs ys i d (omega arith) (omega arith))

-- entries behind them stay
pub laid_behind : {A : Type 0} (new old : List A) (i : ℕ) (d : A) → length new ≤ i → get_or (laid new old) i d ≡ get_or old i d
laid_behind [] old i d h = rw laid_none
laid_behind (x ∷ xs) [] i d h = rw lay_nowhere
laid_behind (x ∷ xs) (y ∷ ys) zero d h = absurd (omega arith)
laid_behind (x ∷ xs) (y ∷ ys) (suc i) d h = rw lay_first (laid_behind xs ys i d (omega arith))

-- those that do not fit count for nothing
pub laid_short : {A : Type 0} (new old : List A) → laid (take (length old) new) old ≡ laid new old
laid_short [] old = rw take-nil
laid_short (x ∷ xs) [] = rw (lay_nowhere, lay_nowhere)
laid_short (x ∷ xs) (y ∷ ys) =
    lay_first x y (take (length ys) xs) ys ∙ ap (λ r. x ∷ r) (laid_short xs ys) ∙ sym (lay_first x y xs ys)
