-- Laws of `find` and `overlay` (document 01, "Look up k: the first level from 0 down that has k decides").
use Prim.Native.Nat.{ℕ, suc, ◌<◌, ◌≤◌}
use mathlib.Core.Path.{◌≡◌, refl, sym, ◌∙◌, ap}
use mathlib.Core.Bool.{Bool, true, false}
use mathlib.Core.List.{List, [], ◌∷◌, ◌++◌}
use mathlib.Core.Option.{Option, none, some, some-injective, none-ne-some}
use mathlib.Core.Logic.{◌≢◌}
use native.Mathlib.Omega.{arith}
use native.Mathlib.Decide.{ℕ_discrete, dec_lt}
use lib.Dec.{ltb, eqb}
use borrow.Author.Tests.{ltb-true, ltb-false, eqb-true, eqb-false, lt-ltb, le-ltb, eq-eqb, ne_eqb}
use Rattle.levels.specs.Basics.{or_else}
use Rattle.levels.specs.Record.{Rec}
use Rattle.levels.specs.Map.{find, into, overlay}
use Rattle.levels.specs.Rising.{Rising, Below}
use Rattle.levels.proofs.Rising.{rising_from}

-- the clauses of find, as laws
pub find_here : (k : ℕ) (r : Rec) (rs : List Rec) → r.key ≡ k → find k (r ∷ rs) ≡ some r
unfolding find
find_here k r rs e = rw (eq-eqb r.key k e, find)

pub find_past : (k : ℕ) (r : Rec) (rs : List Rec) → r.key ≢ k → find k (r ∷ rs) ≡ find k rs
unfolding find
find_past k r rs n = rw (ne_eqb r.key k n, find)

-- a key below or above a list is not in it
pub find_below : (k low : ℕ) (xs : List Rec) → Rising low xs → k < low → find k xs ≡ none
unfolding find
find_below k low [] h l = refl
find_below k low (r ∷ rs) h l = find_past k r rs (omega arith) ∙ find_below k (suc r.key) rs h.1 (omega arith)

pub find_above : (k high : ℕ) (xs : List Rec) → Below high xs → high ≤ k → find k xs ≡ none
unfolding find
find_above k high [] b h = refl
find_above k high (x ∷ xs) b h = find_past k x xs (omega arith) ∙ find_above k high xs b.1 h

-- of two lists end to end the first decides
pub find_append : (k : ℕ) (xs ys : List Rec) → find k (xs ++ ys) ≡ or_else (find k xs) (find k ys)
unfolding find
find_append k [] ys = refl
find_append k (x ∷ xs) ys = go (ℕ_discrete x.key k) (find_append k xs ys)
  where
    go : Dec (x.key ≡ k) → find k (xs ++ ys) ≡ or_else (find k xs) (find k ys) → find k (x ∷ (xs ++ ys)) ≡ or_else (find k (x ∷ xs)) (find k ys)
    go (yes e) ih = simp find_here
    go (no n) ih = simp find_past ih

-- two lists that a number parts have no key in common
pub find_swap : (k p : ℕ) (xs ys : List Rec) (c : Option Rec) → Below p xs → Rising p ys
    → or_else (find k xs) (or_else (find k ys) c) ≡ or_else (find k ys) (or_else (find k xs) c)
find_swap k p xs ys c b r = go (dec_lt k p)
  where
    go : Dec (k < p) → or_else (find k xs) (or_else (find k ys) c) ≡ or_else (find k ys) (or_else (find k xs) c)
    go (yes h) = rw (find_below k p ys r h)
    go (no h) = rw (find_above k p xs b (omega arith))

-- the clauses of into, as laws
module _ (x : Rec) (f : List Rec → List Rec) (y : Rec) (ys : List Rec) where
  pub into_below : y.key < x.key → into x f (y ∷ ys) ≡ y ∷ into x f ys
  unfolding into
  into_below h = rw (lt-ltb y.key x.key h, into)

  pub into_same : y.key ≡ x.key → into x f (y ∷ ys) ≡ x ∷ f ys
  unfolding into
  into_same h = rw (le-ltb y.key x.key (omega arith), eq-eqb y.key x.key h, into)

  pub into_above : x.key < y.key → into x f (y ∷ ys) ≡ x ∷ f (y ∷ ys)
  unfolding into
  into_above h = rw (le-ltb y.key x.key (omega arith), ne_eqb y.key x.key (λ e. omega arith), into)

-- three ways two keys can stand
pub data Way (a b : ℕ) : Type 0 where
  less : a < b → Way a b
  same : a ≡ b → Way a b
  more : b < a → Way a b

-- one of them holds
pub way : (a b : ℕ) → Way a b
way a b = go (ltb a b) (eqb a b) refl refl
  where
    go : (s t : Bool) → ltb a b ≡ s → eqb a b ≡ t → Way a b
    go true t e d = less (ltb-true a b e)
    go false true e d = same (eqb-true a b d)
    go false false e d = more (omega (arith, ltb-false a b e, eqb-false a b d))

-- a record before a list
find_cons : (k : ℕ) (r : Rec) (a b : List Rec) (c : Option Rec) → find k a ≡ or_else (find k b) c → find k (r ∷ a) ≡ or_else (find k (r ∷ b)) c
find_cons k r a b c h = go (ℕ_discrete r.key k)
  where
    go : Dec (r.key ≡ k) → find k (r ∷ a) ≡ or_else (find k (r ∷ b)) c
    go (yes e) = simp find_here
    go (no n) = simp find_past h

module _ (k : ℕ) (x : Rec) (xs : List Rec) (f : List Rec → List Rec) (hf : (zs : List Rec) → find k (f zs) ≡ or_else (find k xs) (find k zs)) (s : Rising (suc x.key) xs) where
  find_into : (ys : List Rec) → find k (into x f ys) ≡ or_else (find k (x ∷ xs)) (find k ys)
  unfolding into
  find_into [] = find_cons k x (f []) xs (find k []) (hf [])
  find_into (y ∷ ys) = go (way y.key x.key) (ℕ_discrete y.key k) (find_into ys)
    where
      go : Way y.key x.key → Dec (y.key ≡ k) → find k (into x f ys) ≡ or_else (find k (x ∷ xs)) (find k ys)
          → find k (into x f (y ∷ ys)) ≡ or_else (find k (x ∷ xs)) (find k (y ∷ ys))
      go (less h) (yes e) ih = simp (into_below x f y ys h, find_here, find_below k x.key (x ∷ xs) (omega arith, s) (omega arith))
      go (less h) (no n) ih = simp (into_below x f y ys h, find_past) ih
      go (same h) (yes e) ih = let d : x.key ≡ k = omega arith in simp (into_same x f y ys h, find_here)
      go (same h) (no n) ih = simp (into_same x f y ys h, find_past) (find_cons k x (f ys) xs (find k ys) (hf ys))
      go (more h) d ih = simp (into_above x f y ys h) (find_cons k x (f (y ∷ ys)) xs (find k (y ∷ ys)) (hf (y ∷ ys)))

-- "on equal keys the upper record stands alone": the upper list decides where it has the key, and else the lower
pub find_overlay : (k low : ℕ) (xs ys : List Rec) → Rising low xs → find k (overlay xs ys) ≡ or_else (find k xs) (find k ys)
unfolding overlay find
find_overlay k low [] ys s = refl
find_overlay k low (x ∷ xs) ys s = find_into k x xs (λ zs. overlay xs zs) (λ zs. find_overlay k (suc x.key) xs zs s.1) s.1 ys

module _ (x : Rec) (f : List Rec → List Rec) (hf : (zs : List Rec) → Rising (suc x.key) zs → Rising (suc x.key) (f zs)) where
  into_rising : (low : ℕ) (ys : List Rec) → low ≤ x.key → Rising low ys → Rising low (into x f ys)
  unfolding into
  into_rising low [] h r = (h, hf [] tt)
  into_rising low (y ∷ ys) h r = go (way y.key x.key) (λ l. into_rising (suc y.key) ys l r.1)
    where
      go : Way y.key x.key → (suc y.key ≤ x.key → Rising (suc y.key) (into x f ys)) → Rising low (into x f (y ∷ ys))
      go (less l) ih = rw (into_below x f y ys l) (r.0, ih l)
      go (same l) ih = rw (into_same x f y ys l) (h, hf ys (rising_from (suc x.key) (suc y.key) ys (omega arith) r.1))
      go (more l) ih = rw (into_above x f y ys l) (h, hf (y ∷ ys) (l, r.1))

-- an overlay of nothing
pub overlay_nil : (xs : List Rec) → overlay xs [] ≡ xs
unfolding overlay into
overlay_nil [] = refl
overlay_nil (x ∷ xs) = ap (λ (l : List Rec). x ∷ l) (overlay_nil xs)

-- an overlay of sorted lists is sorted
pub overlay_rising : (low : ℕ) (xs ys : List Rec) → Rising low xs → Rising low ys → Rising low (overlay xs ys)
unfolding overlay
overlay_rising low [] ys a b = b
overlay_rising low (x ∷ xs) ys a b = into_rising x (λ zs. overlay xs zs) (λ zs r. overlay_rising (suc x.key) xs zs a.1 r) low ys a.0 b

find_tail : (k : ℕ) (x : Rec) (xs : List Rec) (y : Rec) (ys : List Rec) → x.key ≡ y.key → Rising (suc x.key) xs → Rising (suc y.key) ys → find k (x ∷ xs) ≡ find k (y ∷ ys) → find k xs ≡ find k ys
find_tail k x xs y ys e rx ry f = go (ℕ_discrete x.key k)
  where
    go : Dec (x.key ≡ k) → find k xs ≡ find k ys
    go (yes d) = find_below k (suc x.key) xs rx (omega arith) ∙ sym (find_below k (suc y.key) ys ry (omega (arith, e)))
    go (no n) =
        let m : y.key ≢ k = λ d. n (e ∙ d) in
        sym (find_past k x xs n) ∙ f ∙ find_past k y ys m

-- two sorted lists in which the same is found for every key are the same list
pub same_find : (low low' : ℕ) (xs ys : List Rec) → Rising low xs → Rising low' ys → ((k : ℕ) → find k xs ≡ find k ys) → xs ≡ ys
unfolding find
same_find low low' [] [] rx ry f = refl
same_find low low' [] (y ∷ ys) rx ry f = absurd (none-ne-some y (f y.key ∙ find_here y.key y ys refl))
same_find low low' (x ∷ xs) [] rx ry f = absurd (none-ne-some x (sym (f x.key) ∙ find_here x.key x xs refl))
same_find low low' (x ∷ xs) (y ∷ ys) rx ry f = go (way x.key y.key) (λ g. same_find (suc x.key) (suc y.key) xs ys rx.1 ry.1 g)
  where
    go : Way x.key y.key → (((k : ℕ) → find k xs ≡ find k ys) → xs ≡ ys) → (x ∷ xs) ≡ (y ∷ ys)
    go (less h) ih = absurd (none-ne-some x (sym (find_below x.key y.key (y ∷ ys) (omega arith, ry.1) h) ∙ sym (f x.key) ∙ find_here x.key x xs refl))
    go (same h) ih =
        let e : x ≡ y = some-injective x y (sym (find_here x.key x xs refl) ∙ f x.key ∙ find_here x.key y ys (sym h)) in
        ap (λ (z : Rec). z ∷ xs) e ∙ ap (λ (l : List Rec). y ∷ l) (ih (λ k. find_tail k x xs y ys h rx.1 ry.1 (f k)))
    go (more h) ih = absurd (none-ne-some y (sym (find_below y.key x.key (x ∷ xs) (omega arith, rx.1) h) ∙ f y.key ∙ find_here y.key y ys refl))
