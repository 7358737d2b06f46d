-- Lists of records laid over each other, taken apart from the least key on: the least key leaves every list that has it, and the uppermost record stands.
use Prim.Native.Nat.{ℕ, ◌+◌, ◌≤◌}
use mathlib.Core.Path.{◌≡◌, refl, ◌∙◌}
use mathlib.Core.Bool.{Bool, true, false}
use mathlib.Core.List.{List, [], ◌∷◌, ◌++◌}
use native.Mathlib.Omega.{arith}
use native.Mathlib.Decide.{ℕ_discrete}
use lib.Dec.{eqb}
use lib.ListN.{length}
use borrow.Author.Tests.{eq-eqb, ne_eqb}
use Rattle.levels.specs.Basics.{if◌then◌otherwise◌}
use Rattle.levels.specs.Record.{Rec}
use Rattle.levels.specs.Map.{overlay, into, unmarked}
use Rattle.chunks.specs.Peel.{past, live_bit}
use Rattle.levels.proofs.Overlay.Way.{less, same, more}
use Rattle.levels.proofs.Overlay.{into_below, into_same, into_above, Way, way}

-- the first record, where its key is k
unfoldable pub taken : ℕ → List Rec → List Rec
taken k [] = []
taken k (r ∷ rs) = if eqb r.key k then r ∷ [] otherwise []

-- the first of two lists that has something
abbrev pub or_list : List Rec → List Rec → List Rec
or_list [] ys = ys
or_list (x ∷ xs) ys = x ∷ xs

-- the first key is not below k
abbrev pub Least : ℕ → List Rec → Type 0
Least k [] = Unit {0}
Least k (r ∷ rs) = k ≤ r.key

-- what an overlay begins with, where no first key is below k
pub record Peeled (k : ℕ) (xs ys : List Rec) : Type 0 where
  pub least : Least k (overlay xs ys)
  pub takens : taken k (overlay xs ys) ≡ or_list (taken k xs) (taken k ys)
  pub pasts : past k (overlay xs ys) ≡ overlay (past k xs) (past k ys)

-- the clauses of `taken` and `past`, as laws
pub taken_nil : (k : ℕ) → taken k [] ≡ []
unfolding taken
taken_nil k = refl

pub past_nil : (k : ℕ) → past k [] ≡ []
unfolding past
past_nil k = refl

module _ (k : ℕ) (r : Rec) (rs : List Rec) where
  pub taken_here : r.key ≡ k → taken k (r ∷ rs) ≡ r ∷ []
  unfolding taken
  taken_here e = rw (eq-eqb r.key k e)

  pub taken_not : (r.key ≡ k → ⊥) → taken k (r ∷ rs) ≡ []
  unfolding taken
  taken_not e = rw (ne_eqb r.key k e)

  pub past_here : r.key ≡ k → past k (r ∷ rs) ≡ rs
  unfolding past
  past_here e = rw (eq-eqb r.key k e)

  pub past_not : (r.key ≡ k → ⊥) → past k (r ∷ rs) ≡ r ∷ rs
  unfolding past
  past_not e = rw (ne_eqb r.key k e)

-- What an overlay begins with; neither list has to rise.
pub peel : (k : ℕ) (xs ys : List Rec) → Least k xs → Least k ys → Peeled k xs ys
unfolding overlay into
peel k [] ys p q = record { least = q; takens = rw (taken_nil k); pasts = rw (past_nil k) }
peel k (x ∷ xs) [] p q = go (ℕ_discrete x.key k)
  where
    go : Dec (x.key ≡ k) → Peeled k (x ∷ xs) []
    go (yes e) = record { least = p; takens = rw (taken_here k x (overlay xs []) e, taken_here k x xs e); pasts = rw (past_here k x (overlay xs []) e, past_here k x xs e, past_nil k) }
    go (no n) = record { least = p; takens = rw (taken_not k x (overlay xs []) n, taken_not k x xs n, taken_nil k); pasts = rw (past_not k x xs n, past_nil k, past_not k x (overlay xs []) n) }
peel k (x ∷ xs) (y ∷ ys) p q = go (way y.key x.key) (ℕ_discrete x.key k) (ℕ_discrete y.key k)
  where
    go : Way y.key x.key → Dec (x.key ≡ k) → Dec (y.key ≡ k) → Peeled k (x ∷ xs) (y ∷ ys)
    go (less h) (yes d) e = absurd (omega arith)
    go (less h) (no d) (yes e) =
        let m = into_below x (λ zs. overlay xs zs) y ys h in
        record { least = rw m q; takens = rw (m, taken_here k y (into x (λ zs. overlay xs zs) ys) e, taken_not k x xs d, taken_here k y ys e); pasts = rw (m, past_here k y (into x (λ zs. overlay xs zs) ys) e, past_not k x xs d, past_here k y ys e) }
    go (less h) (no d) (no e) =
        let m = into_below x (λ zs. overlay xs zs) y ys h in
        record { least = rw m q; takens = rw (m, taken_not k y (into x (λ zs. overlay xs zs) ys) e, taken_not k x xs d, taken_not k y ys e); pasts = rw (past_not k x xs d, past_not k y ys e, m, past_not k y (into x (λ zs. overlay xs zs) ys) e) }
    go (same h) (yes d) e =
        let m = into_same x (λ zs. overlay xs zs) y ys h in
        let f : y.key ≡ k = omega arith in
        record { least = rw m p; takens = rw (m, taken_here k x (overlay xs ys) d, taken_here k x xs d); pasts = rw (m, past_here k x (overlay xs ys) d, past_here k x xs d, past_here k y ys f) }
    go (same h) (no d) e =
        let m = into_same x (λ zs. overlay xs zs) y ys h in
        let f : y.key ≡ k → ⊥ = λ z. omega arith in
        record { least = rw m p; takens = rw (m, taken_not k x (overlay xs ys) d, taken_not k x xs d, taken_not k y ys f); pasts = rw (past_not k x xs d, past_not k y ys f, m, past_not k x (overlay xs ys) d) }
    go (more h) d (yes e) = absurd (omega arith)
    go (more h) (yes d) (no e) =
        let m = into_above x (λ zs. overlay xs zs) y ys h in
        record { least = rw m p; takens = rw (m, taken_here k x (overlay xs (y ∷ ys)) d, taken_here k x xs d); pasts = rw (m, past_here k x (overlay xs (y ∷ ys)) d, past_here k x xs d, past_not k y ys e) }
    go (more h) (no d) (no e) =
        let m = into_above x (λ zs. overlay xs zs) y ys h in
        record { least = rw m p; takens = rw (m, taken_not k x (overlay xs (y ∷ ys)) d, taken_not k x xs d, taken_not k y ys e); pasts = rw (past_not k x xs d, past_not k y ys e, m, past_not k x (overlay xs (y ∷ ys)) d) }

-- a list is its first record, where that has key k, and the rest
pub taken_past : (k : ℕ) (xs : List Rec) → xs ≡ taken k xs ++ past k xs
unfolding taken past
taken_past k [] = refl
taken_past k (x ∷ xs) = go (eqb x.key k)
  where
    go : (t : Bool) → x ∷ xs ≡ (if t then x ∷ [] otherwise []) ++ (if t then xs otherwise (x ∷ xs))
    go true = refl
    go false = refl

-- a record before a list counts if it is no tombstone
pub live_cons : (r : Rec) (rs : List Rec) → length (unmarked (r ∷ rs)) ≡ live_bit r.tombstone + length (unmarked rs)
unfolding unmarked
live_cons r rs = go r.tombstone
  where
    go : (t : Bool) → length {A = Rec} (elim t [ true ↦ unmarked rs | false ↦ r ∷ unmarked rs ]) ≡ live_bit t + length (unmarked rs)
    go true = omega arith
    go false = omega arith
