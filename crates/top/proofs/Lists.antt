-- Lists: a list that another one replaces from its start on, and a list with one element more.
use Prim.Native.Nat.{ℕ, zero, suc, ◌+◌, ◌≤◌, ◌<◌}
use mathlib.Core.Path.{◌≡◌, refl, ap}
use mathlib.Core.List.{List, [], ◌∷◌, ◌++◌}
use native.Mathlib.Nat.{add-zero}
use native.Mathlib.Omega.{arith}
use lib.ListN.{length, take, drop, get_or, set, length-append, length-drop}
use lib.Seq.{get_or-append-add, length-take-le, drop-nil, take_at}

module _ {A : Type 0} where
  get_d_right : (p x : List A) (n j : ℕ) (d : A) → length p ≡ n → get_or (p ++ x) (n + j) d ≡ get_or x j d
  get_d_right p x n j d e = rw (← e) (get_or-append-add p x j d)

  -- the first n of F, then ys from n on: one more, and what is next of ys
  pub mixed_more : (F S : List A) (n : ℕ) (d : A) → n < length F → n < length S → set (take n F ++ drop n S) n (get_or F n d) ≡ take (suc n) F ++ drop (suc n) S
  mixed_more [] S n d h l = absurd (omega arith)
  mixed_more (f ∷ F) [] n d h l = absurd (omega arith)
  mixed_more (f ∷ F) (s ∷ S) zero d h l = refl
  mixed_more (f ∷ F) (s ∷ S) (suc n) d h l = ap (λ (t : List A). f ∷ t) (mixed_more F S n d (omega arith) (omega arith))

  pub mixed_next : (F S : List A) (n : ℕ) (d : A) → n ≤ length F → get_or (take n F ++ drop n S) n d ≡ get_or S n d
  mixed_next F S zero d h = refl
  mixed_next [] S (suc n) d h = absurd (omega arith)
  mixed_next (f ∷ F) [] (suc n) d h = rw (← drop-nil {A = A} n) (mixed_next F [] n d (omega arith))
  mixed_next (f ∷ F) (s ∷ S) (suc n) d h = mixed_next F S n d (omega arith)

  pub mixed_length : (F S : List A) (n : ℕ) → n ≤ length F → n ≤ length S → length (take n F ++ drop n S) ≡ length S
  mixed_length F S n h l = rw (length-append, length-take-le n F h, length-drop) (omega arith)

  -- a list with r at i, and what stood from i on one further
  abbrev pub pushed_in : ℕ → A → List A → List A
  pushed_in i r S = take i S ++ (r ∷ drop i S)

  pub pushed_length : (i : ℕ) (r : A) (S : List A) → i ≤ length S → length (pushed_in i r S) ≡ suc (length S)
  pushed_length i r S h = rw (length-append, length-take-le i S h, length-drop) (omega arith)

  pub pushed_here : (i : ℕ) (r : A) (S : List A) (d : A) → i ≤ length S → get_or (pushed_in i r S) i d ≡ r
  pushed_here i r S d h =
      rw add-zero at (get_d_right (take i S) (r ∷ drop i S) i 0 d (length-take-le i S h))

  pub pushed_on : (i : ℕ) (r : A) (S : List A) (n : ℕ) (d : A) → i ≤ n → i ≤ length S → get_or (pushed_in i r S) (suc n) d ≡ get_or S n d
  pushed_on zero r S n d h l = refl
  pushed_on (suc i) r [] n d h l = absurd (omega arith)
  pushed_on (suc i) r (s ∷ S) zero d h l = absurd (omega arith)
  pushed_on (suc i) r (s ∷ S) (suc n) d h l = pushed_on i r S n d (omega arith) (omega arith)

  pub pushed_before : (i : ℕ) (r : A) (S : List A) → i ≤ length S → take i (pushed_in i r S) ≡ take i S
  pushed_before i r S h = take_at (take i S) (r ∷ drop i S) i (length-take-le i S h)
