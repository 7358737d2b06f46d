-- "the first free place after hand, going round": with fewer places in use than there are, it is free, and the first after the cursor.
use Prim.Native.Nat.{ℕ, zero, suc, ◌+◌, ◌-◌, ◌<◌, ◌≤◌}
use mathlib.Core.Path.{◌≡◌, refl, sym, ◌∙◌, ap}
use mathlib.Core.Bool.{Bool, true, false, ◌||◌, true≢false}
use mathlib.Core.List.{List, [], ◌∷◌}
use mathlib.Core.Logic.{◌≢◌, ◌⊎◌, inl, inr}
use native.Mathlib.Omega.{arith}
use native.Mathlib.Nat.{zero-add, suc-add}
use native.Mathlib.Decide.{ℕ_discrete, dec_lt}
use lib.Dec.{leb, eqb}
use lib.ListN.{length}
use borrow.Author.Tests.{eqb-true, le-leb, lt-leb, leb-false}
use Rattle.levels.specs.Basics.{if◌then◌otherwise◌, member}
use Rattle.levels.specs.Place.{after, free_after, Allocation, first_free}
use Rattle.levels.specs.Taking.{round, FirstFree}

-- the clauses of free_after, as laws
pub free_here : (n P : ℕ) (used : List ℕ) (p : ℕ) → member (after P p) used ≡ false → free_after (suc n) P used p ≡ after P p
unfolding free_after
free_here n P used p e = rw (e, free_after)

pub free_on : (n P : ℕ) (used : List ℕ) (p : ℕ) → member (after P p) used ≡ true → free_after (suc n) P used p ≡ free_after n P used (after P p)
unfolding free_after
free_on n P used p e = rw (e, free_after)

-- going round stays among the places
pub after_inside : (P p : ℕ) → 1 ≤ P → after P p < P
after_inside P p h = go (leb P (suc p)) refl
  where
    go : (t : Bool) → leb P (suc p) ≡ t → (if t then 0 otherwise suc p) < P
    go true e = omega arith
    go false e = leb-false P (suc p) e

free_after_lem : (n P : ℕ) (used : List ℕ) (p k : ℕ) → 1 ≤ P → k < n → member (round P (suc k) p) used ≡ false → FirstFree P used p (free_after n P used p)
free_after_lem zero P used p k q l f = absurd (omega arith)
free_after_lem (suc n) P used p k q l f = go (member (after P p) used) refl k l f (λ j. free_after_lem n P used (after P p) j q)
  where
    go : (t : Bool) → member (after P p) used ≡ t → (k : ℕ) → k < suc n → member (round P (suc k) p) used ≡ false
        → ((j : ℕ) → j < n → member (round P (suc j) (after P p)) used ≡ false → FirstFree P used (after P p) (free_after n P used (after P p)))
        → FirstFree P used p (free_after (suc n) P used p)
    go false e k l f ih = rw (free_here n P used p e) (record { steps = 0; there = refl; inside = after_inside P p q; free = e; first = λ i h. absurd (omega arith) })
    go true e zero l f ih = absurd (true≢false (sym e ∙ f))
    go true e (suc k) l f ih =
        let r = ih k (omega arith) f in
        rw (free_on n P used p e) (record { steps = suc r.steps; there = r.there; inside = r.inside; free = r.free; first = fst r })
      where
        fst : (r : FirstFree P used (after P p) (free_after n P used (after P p))) → (i : ℕ) → i < suc r.steps → member (round P (suc i) p) used ≡ true
        fst r zero h = e
        fst r (suc i) h = r.first i (omega arith)

abbrev remove : ℕ → List ℕ → List ℕ
remove x [] = []
remove x (y ∷ ys) = if eqb x y then ys otherwise y ∷ remove x ys

remove_length : (x : ℕ) (ys : List ℕ) → member x ys ≡ true → suc (length (remove x ys)) ≡ length ys
remove_length x [] e = cc
remove_length x (y ∷ ys) e = go (eqb x y) e (remove_length x ys)
  where
    go : (t : Bool) → (t || member x ys) ≡ true → (member x ys ≡ true → suc (length (remove x ys)) ≡ length ys) → suc (length (if t then ys otherwise y ∷ remove x ys)) ≡ suc (length ys)
    go true e ih = refl
    go false e ih = omega (arith, ih e)

remove_keeps : (x z : ℕ) (ys : List ℕ) → z ≢ x → member z ys ≡ true → member z (remove x ys) ≡ true
remove_keeps x z [] n e = e
remove_keeps x z (y ∷ ys) n e = go (eqb x y) (eqb z y) refl refl e (remove_keeps x z ys n)
  where
    go : (s t : Bool) → eqb x y ≡ s → eqb z y ≡ t → (t || member z ys) ≡ true → (member z ys ≡ true → member z (remove x ys) ≡ true) → member z (if s then ys otherwise y ∷ remove x ys) ≡ true
    go true true p q e ih = absurd (n (eqb-true z y q ∙ sym (eqb-true x y p)))
    go true false p q e ih = e
    go false true p q e ih = rw q
    go false false p q e ih = rw q (ih e)

-- where all of the first n numbers stand in a list, it is no shorter than n
pigeonhole : (n : ℕ) (ys : List ℕ) → ((p : ℕ) → p < n → member p ys ≡ true) → n ≤ length ys
pigeonhole zero ys h = omega arith
pigeonhole (suc n) ys h = omega (arith, remove_length n ys (h n (omega arith)), pigeonhole n (remove n ys) (λ p l. remove_keeps n p ys (omega arith) (h p (omega arith))))

-- one of the first n numbers is not in the list, or all are
one_free : (n : ℕ) (ys : List ℕ) → ((p : ℕ) × (p < n) × (member p ys ≡ false)) ⊎ ((p : ℕ) → p < n → member p ys ≡ true)
one_free zero ys = inr (λ p l. absurd (omega arith))
one_free (suc n) ys = go (member n ys) refl (one_free n ys)
  where
    go : (t : Bool) → member n ys ≡ t → ((p : ℕ) × (p < n) × (member p ys ≡ false)) ⊎ ((p : ℕ) → p < n → member p ys ≡ true)
        → ((p : ℕ) × (p < suc n) × (member p ys ≡ false)) ⊎ ((p : ℕ) → p < suc n → member p ys ≡ true)
    go false e r = inl (n, omega arith, e)
    go true e (inl c) = inl (c.0, omega (arith, c.1), c.2)
    go true e (inr f) = inr each
      where
        each : (p : ℕ) → p < suc n → member p ys ≡ true
        each p l = cases (ℕ_discrete p n)
          where
            cases : Dec (p ≡ n) → member p ys ≡ true
            cases (yes d) = rw d e
            cases (no d) = f p (omega arith)

-- fewer in use than there are leave one free
pub free_place : (P : ℕ) (used : List ℕ) → length used < P → (p : ℕ) × (p < P) × (member p used ≡ false)
free_place P used h = go (one_free P used)
  where
    go : ((p : ℕ) × (p < P) × (member p used ≡ false)) ⊎ ((p : ℕ) → p < P → member p used ≡ true) → (p : ℕ) × (p < P) × (member p used ≡ false)
    go (inl c) = c
    go (inr f) = absurd (omega (arith, pigeonhole P used f))

after_on : (P p : ℕ) → suc p < P → after P p ≡ suc p
after_on P p l = rw (lt-leb P (suc p) l)

after_last : (P p : ℕ) → P ≤ suc p → after P p ≡ 0
after_last P p l = rw (le-leb P (suc p) l)

round_on : (k P p : ℕ) → p + k < P → round P k p ≡ p + k
round_on zero P p l = omega arith
round_on (suc k) P p l = rw (after_on P p (omega arith)) (round_on k P (suc p) (omega arith) ∙ omega arith)

round_add : (a b P p : ℕ) → round P (a + b) p ≡ round P b (round P a p)
round_add zero b P p = rw zero-add
round_add (suc a) b P p = rw suc-add (round_add a b P (after P p))

-- every place is met on the way round
round_all : (P h p : ℕ) → h < P → p < P → (k : ℕ) × (k < P) × (round P (suc k) h ≡ p)
round_all P h p l m = go (dec_lt h p)
  where
    go : Dec (h < p) → (k : ℕ) × (k < P) × (round P (suc k) h ≡ p)
    go (yes d) = (p - suc h, omega arith, round_on (suc (p - suc h)) P h (omega arith) ∙ omega arith)
    go (no d) =
        let e : suc ((P - suc h) + p) ≡ (P - suc h) + suc p = omega arith in (
          (P - suc h) + p,
          omega arith,
          ap (λ (n : ℕ). round P n h) e ∙ round_add (P - suc h) (suc p) P h
              ∙ ap (λ (n : ℕ). round P (suc p) n) (round_on (P - suc h) P h (omega arith))
              ∙ ap (round P p) (after_last P (h + (P - suc h)) (omega arith)) ∙ round_on p P 0 (omega arith) ∙ zero-add p,
        )

-- with fewer in use than P, the place given is free and the first after the cursor
pub first_free_lem : (P : ℕ) (a : Allocation) → a.cursor < P → length a.used < P → FirstFree P a.used a.cursor (first_free P a)
unfolding first_free
first_free_lem P a l n =
    let c = free_place P a.used n in
    let k = round_all P a.cursor c.0 l c.1 in
    free_after_lem P P a.used a.cursor k.0 (omega arith) k.1 (rw k.2 c.2)
