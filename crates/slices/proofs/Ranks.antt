-- Where a key stands among rising keys: everything before is below it, everything from there on is not, and it is found where
-- it is one of them.
use Prim.Native.Nat.{ℕ, zero, suc, ◌+◌, ◌-◌, ◌/◌, ◌≤◌, ◌<◌}
use mathlib.Core.Path.{◌≡◌, refl, sym, ap, ◌∙◌}
use mathlib.Core.Bool.{Bool, true, false, ◌||◌}
use mathlib.Core.Logic.{dite}
use mathlib.Core.List.{List, [], ◌∷◌, ◌++◌}
use native.Mathlib.Decide.{dec_lt}
use native.Mathlib.Nat.{zero-add, suc-add}
use native.Mathlib.Numerals.{add-one}
use native.Mathlib.Omega.{arith}
use lib.Dec.{leb, ltb, eqb}
use lib.ListN.{length, get_or, take, drop, length-drop}
use lib.Seq.{length-take-le, take-nil, take-suc, drop-drop, get_or-take, get_or-drop}
use borrow.Author.Tests.{ltb-true, ltb-false, lt-ltb, le-ltb, lt-leb, le-leb, eqb-true, eqb-false, eq-eqb, ne_eqb}
use Rattle.std.specs.List.Sorted.{IsPartitionedBy, IsPartitionPoint}
use Rattle.std.proofs.lemmas.Grind.{get_or_default_zero}
use Rattle.slices.specs.Ranks.{Rising, count_below, among}

pub count_in : (k x : ℕ) (xs : List ℕ) → x < k → count_below k (x ∷ xs) ≡ suc (count_below k xs)
unfolding count_below
count_in k x xs h = rw (lt-ltb x k h, count_below)

pub count_out : (k x : ℕ) (xs : List ℕ) → k ≤ x → count_below k (x ∷ xs) ≡ count_below k xs
unfolding count_below
count_out k x xs h = rw (le-ltb x k h, count_below)

-- none of a list that starts at the bound or above it
pub count_none : (k low : ℕ) (xs : List ℕ) → Rising low xs → k ≤ low → count_below k xs ≡ 0
unfolding count_below
count_none k low [] r h = refl
count_none k low (x ∷ xs) r h = count_out k x xs (omega arith) ∙ count_none k (suc x) xs r.1 (omega arith)

-- an entry below the bound: all up to it are counted
count_past : (k low : ℕ) (xs : List ℕ) (i : ℕ) → Rising low xs → i < length xs → get_or xs i 0 < k → suc i ≤ count_below k xs
count_past k low [] i r l h = absurd (omega arith)
count_past k low (x ∷ xs) zero r l h = rw (count_in k x xs h) (omega arith)
count_past k low (x ∷ xs) (suc i) r l h =
    let a = above (suc x) xs i r.1 (omega arith) in
    rw (count_in k x xs (omega arith)) (omega (arith, count_past k (suc x) xs i r.1 (omega arith) h))
  where
    above : (low : ℕ) (xs : List ℕ) (i : ℕ) → Rising low xs → i < length xs → low ≤ get_or xs i 0
    above low [] i r l = absurd (omega arith)
    above low (x ∷ xs) zero r l = r.0
    above low (x ∷ xs) (suc i) r l = omega (arith, r.0, above (suc x) xs i r.1 (omega arith))

-- an entry not below the bound: none from it on is counted
count_stop : (k low : ℕ) (xs : List ℕ) (i : ℕ) → Rising low xs → i < length xs → k ≤ get_or xs i 0 → count_below k xs ≤ i
count_stop k low [] i r l h = absurd (omega arith)
count_stop k low (x ∷ xs) zero r l h = omega (arith, count_none k x (x ∷ xs) (omega arith, r.1) h)
count_stop k low (x ∷ xs) (suc i) r l h = go (ltb x k) refl (count_stop k (suc x) xs i r.1 (omega arith) h)
  where
    go : (t : Bool) → ltb x k ≡ t → count_below k xs ≤ i → count_below k (x ∷ xs) ≤ suc i
    go true e ih = rw (count_in k x xs (ltb-true x k e)) (omega arith)
    go false e ih = rw (count_out k x xs (ltb-false x k e)) (omega arith)

pub count_high : (k : ℕ) (xs : List ℕ) → count_below k xs ≤ length xs
unfolding count_below
count_high k [] = omega arith
count_high k (x ∷ xs) = go (ltb x k) refl (count_high k xs)
  where
    go : (t : Bool) → ltb x k ≡ t → count_below k xs ≤ length xs → count_below k (x ∷ xs) ≤ suc (length xs)
    go true e ih = rw (count_in k x xs (ltb-true x k e)) (omega arith)
    go false e ih = rw (count_out k x xs (ltb-false x k e)) (omega arith)

-- everything before is below
pub rank_before : (k low : ℕ) (xs : List ℕ) (i : ℕ) → Rising low xs → i < count_below k xs → get_or xs i 0 < k
rank_before k low xs i r h =
    dite (dec_lt (get_or xs i 0) k) (λ y. y) (λ n. absurd (omega (arith, count_stop k low xs i r (omega (arith, count_high k xs)) (omega arith))))

-- everything from there on is not
pub rank_from : (k low : ℕ) (xs : List ℕ) (i : ℕ) → Rising low xs → count_below k xs ≤ i → i < length xs → k ≤ get_or xs i 0
rank_from k low xs i r h l = dite (dec_lt (get_or xs i 0) k) (λ y. absurd (omega (arith, count_past k low xs i r l y))) (λ n. omega arith)

or_true : (t : Bool) → (t || true) ≡ true
or_true true = refl
or_true false = refl

-- found is membership: a key of the list is found
pub among_at : (k : ℕ) (xs : List ℕ) (i : ℕ) → i < length xs → get_or xs i 0 ≡ k → among k xs ≡ true
unfolding among
among_at k [] i l e = absurd (omega arith)
among_at k (x ∷ xs) zero l e = rw (eq-eqb x k e)
among_at k (x ∷ xs) (suc i) l e = rw (among_at k xs i (omega arith) e) (or_true (eqb x k))

among_above : (k low : ℕ) (xs : List ℕ) → Rising low xs → k < low → among k xs ≡ false
unfolding among
among_above k low [] r h = refl
among_above k low (x ∷ xs) r h = rw (ne_eqb x k (λ e. omega arith), among_above k (suc x) xs r.1 (omega arith))

-- and no other: one of rising keys can only be the first that is not below k
pub among_gap : (k low : ℕ) (xs : List ℕ) → Rising low xs → (count_below k xs < length xs → get_or xs (count_below k xs) 0 ≡ k → ⊥) → among k xs ≡ false
unfolding among
among_gap k low [] r n = refl
among_gap k low (x ∷ xs) r n =
    dite (dec_lt x k)
    (λ h. rw (ne_eqb x k (λ e. omega arith)) (among_gap k (suc x) xs r.1 (λ l e. n (rw (count_in k x xs h) (omega arith)) (rw (count_in k x xs h) e))))
    not_below
  where
    not_below : (x < k → ⊥) → among k (x ∷ xs) ≡ false
    not_below h =
        let z : count_below k (x ∷ xs) ≡ 0 = count_none k x (x ∷ xs) (omega arith, r.1) (omega arith) in
        let d : x ≡ k → ⊥ = λ e. n (rw z (omega arith)) (rw z e) in
        rw (ne_eqb x k d, among_above k (suc x) xs r.1 (omega arith))

-- all keys are below k exactly if the last one is
pub all_below : (k low : ℕ) (xs : List ℕ) → Rising low xs → 1 ≤ length xs → ltb (get_or xs (length xs - 1) 0) k ≡ eqb (count_below k xs) (length xs)
all_below k low xs r l =
    dite (dec_lt (get_or xs (length xs - 1) 0) k)
    (λ y. lt-ltb (get_or xs (length xs - 1) 0) k y ∙ sym (eq-eqb (count_below k xs) (length xs) (let p = count_past k low xs (length xs - 1) r (omega arith) y in omega (arith, p, count_high k xs))))
    (λ n. le-ltb (get_or xs (length xs - 1) 0) k (omega arith) ∙ sym (ne_eqb (count_below k xs) (length xs) (λ e. let p = count_stop k low xs (length xs - 1) r (omega arith) (omega arith) in omega (arith, p))))

-- the last key is not below k exactly if not all keys are
pub some_not_below : (k low : ℕ) (xs : List ℕ) → Rising low xs → 1 ≤ length xs → leb k (get_or xs (length xs - 1) 0) ≡ ltb (count_below k xs) (length xs)
some_not_below k low xs r l =
    dite (dec_lt (get_or xs (length xs - 1) 0) k)
    (λ y. lt-leb k (get_or xs (length xs - 1) 0) y ∙ sym (le-ltb (count_below k xs) (length xs) (let p = count_past k low xs (length xs - 1) r (omega arith) y in omega (arith, p))))
    (λ n. le-leb k (get_or xs (length xs - 1) 0) (omega arith) ∙ sym (lt-ltb (count_below k xs) (length xs) (let p = count_stop k low xs (length xs - 1) r (omega arith) (omega arith) in omega (arith, p))))

-- the first key is not above k exactly if k is found or some key is below it
pub some_not_above : (k low : ℕ) (xs : List ℕ) → Rising low xs → 1 ≤ length xs → leb (get_or xs 0 0) k ≡ (among k xs || ltb 0 (count_below k xs))
unfolding among
some_not_above k low [] r l = absurd (omega arith)
some_not_above k low (x ∷ xs) r l =
    dite (dec_lt x k)
    (λ y. rw (le-leb x k (omega arith), count_in k x xs y, lt-ltb 0 (suc (count_below k xs)) (omega arith)) (sym (or_true (eqb x k || among k xs))))
    (λ n. rw (count_none k x (x ∷ xs) (omega arith, r.1) (omega arith)) (go (eqb x k) refl n))
  where
    go : (t : Bool) → eqb x k ≡ t → (x < k → ⊥) → leb x k ≡ ((eqb x k || among k xs) || false)
    go true e n = rw (e, le-leb x k (omega (arith, eqb-true x k e)))
    go false e n =
        let d = eqb-false x k e in
        rw (e, lt-leb x k (omega (arith, d)), among_above k (suc x) xs r.1 (omega arith))

pub rising_weak : (a b : ℕ) (xs : List ℕ) → a ≤ b → Rising b xs → Rising a xs
rising_weak a b [] h r = tt
rising_weak a b (x ∷ xs) h r = (omega arith, r.1)

pub rising_drop : (low n : ℕ) (xs : List ℕ) → Rising low xs → Rising low (drop n xs)
rising_drop low zero xs r = r
rising_drop low (suc n) [] r = tt
rising_drop low (suc n) (x ∷ xs) r = rising_weak low (suc x) (drop n xs) (omega arith) (rising_drop (suc x) n xs r.1)

rising_take : (low m n : ℕ) (xs : List ℕ) → m ≤ n → Rising low (take n xs) → Rising low (take m xs)
rising_take low zero n xs h r = tt
rising_take low (suc m) zero xs h r = absurd (omega arith)
rising_take low (suc m) (suc n) [] h r = tt
rising_take low (suc m) (suc n) (x ∷ xs) h r = (r.0, rising_take (suc x) m n xs (omega arith) r.1)

rising_within : (low i m n : ℕ) (xs : List ℕ) → i + m ≤ n → Rising low (take n xs) → Rising low (take m (drop i xs))
rising_within low zero m n xs h r = rising_take low m n xs (omega arith) r
rising_within low (suc i) m zero xs h r = absurd (omega arith)
rising_within low (suc i) m (suc n) [] h r = rw (take-nil {A = ℕ} m) tt
rising_within low (suc i) m (suc n) (x ∷ xs) h r = rising_weak low (suc x) (take m (drop i xs)) (omega arith) (rising_within (suc x) i m n xs (omega arith) r.1)

-- part of a row that rises
pub rising_part : (low a n i m : ℕ) (ws : List ℕ) → i + m ≤ n → Rising low (take n (drop a ws)) → Rising low (take m (drop (a + i) ws))
rising_part low a n i m ws h r = rw (← drop-drop i a ws) (rising_within low i m n (drop a ws) h r)

-- without its first n keys a list has n fewer below k
pub count_drop : (k low n : ℕ) (xs : List ℕ) → Rising low xs → count_below k (drop n xs) ≡ count_below k xs - n
unfolding count_below
count_drop k low zero xs r = omega arith
count_drop k low (suc n) [] r = omega arith
count_drop k low (suc n) (x ∷ xs) r = go (ltb x k) refl (count_drop k (suc x) n xs r.1)
  where
    go : (t : Bool) → ltb x k ≡ t → count_below k (drop n xs) ≡ count_below k xs - n → count_below k (drop n xs) ≡ count_below k (x ∷ xs) - suc n
    go true e ih = rw (count_in k x xs (ltb-true x k e)) (omega arith)
    go false e ih =
        let l = ltb-false x k e in
        rw (count_out k x xs l) (omega (arith, count_none k (suc x) xs r.1 (omega arith)))

-- 1 if a key is below k, else 0, as the code tells it
pub up_below : (k key : ℕ) → k ≤ 4294967296 → key < k → (k + 4294967295 - key) / 4294967296 ≡ 1
up_below k key h l = omega arith

pub up_not : (k key : ℕ) → k ≤ key → key < 4294967296 → (k + 4294967295 - key) / 4294967296 ≡ 0
up_not k key h l = omega arith

count_append : (k : ℕ) (xs ys : List ℕ) → count_below k (xs ++ ys) ≡ count_below k xs + count_below k ys
unfolding count_below
count_append k [] ys = sym (zero-add (count_below k ys))
count_append k (x ∷ xs) ys =
    dite (dec_lt x k)
    (λ y. rw (count_in k x (xs ++ ys) y, count_in k x xs y, count_append k xs ys) (sym (suc-add (count_below k xs) (count_below k ys))))
    (λ n. rw (count_out k x (xs ++ ys) (omega arith), count_out k x xs (omega arith)) (count_append k xs ys))

-- one key more is counted
pub count_more : (k i : ℕ) (xs : List ℕ) → i < length xs → k ≤ 4294967296 → get_or xs i 0 < 4294967296
    → count_below k (take i xs) + (k + 4294967295 - get_or xs i 0) / 4294967296 ≡ count_below k (take (i + 1) xs)
unfolding count_below
count_more k i xs h b l =
    let t : take (i + 1) xs ≡ take i xs ++ (get_or xs i 0 ∷ []) = rw (add-one i) (take-suc xs i 0 h) in
    rw (t, count_append k (take i xs) (get_or xs i 0 ∷ [])) (ap (◌+◌ (count_below k (take i xs))) (go (dec_lt (get_or xs i 0) k)))
  where
    go : Dec (get_or xs i 0 < k) → (k + 4294967295 - get_or xs i 0) / 4294967296 ≡ count_below k (get_or xs i 0 ∷ [])
    go (yes y) = up_below k _ b y ∙ sym (count_in k _ [] y)
    go (no n) = up_not k _ (omega arith) l ∙ sym (count_out k _ [] (omega arith))

-- Rising keys are parted by being below k, and where they are parted is how many are below it.
module _ (k : ℕ) (xs : List ℕ) (r : Rising 0 xs) where
  pub rising_parted : IsPartitionedBy (λ y. ltb y k) xs
  rising_parted i j d h l t =
      let u = rw (get_or_default_zero xs j d l) at t in
      let p = count_past k 0 xs j r l (ltb-true _ _ u) in
      rw (get_or_default_zero xs i d (omega arith)) (lt-ltb _ _ (rank_before k 0 xs i r (omega (arith, p))))

  pub parted_count : (i : ℕ) → i ≤ length xs → IsPartitionPoint (λ y. ltb y k ≡ true) (λ y. ltb y k ≡ false) xs i → i ≡ count_below k xs
  parted_count i l p = omega (arith, low i l p.0, high (dec_lt i (length xs)))
    where
      low : (i : ℕ) → i ≤ length xs → ((j d : ℕ) → 0 ≤ j → j < i → ltb (get_or xs j d) k ≡ true) → i ≤ count_below k xs
      low zero l q = omega arith
      low (suc i) l q = count_past k 0 xs i r l (ltb-true _ _ (q i 0 (omega arith) (omega arith)))

      high : Dec (i < length xs) → count_below k xs ≤ i
      high (yes y) = count_stop k 0 xs i r y (ltb-false _ _ (p.1 i 0 (omega arith) y))
      high (no n) = omega (arith, count_high k xs)

-- The search among the n keys from word a on.
module _ (k a n : ℕ) (ws : List ℕ) (h : a + n ≤ length ws) (r : Rising 0 (take n (drop a ws))) where
  abbrev keys : List ℕ
  keys = take n (drop a ws)

  long : length keys ≡ n
  long = length-take-le n (drop a ws) (rw length-drop (omega arith))

  key_is : (i : ℕ) → i < n → get_or keys i 0 ≡ get_or ws (a + i) 0
  key_is i l = get_or-take n (drop a ws) i 0 l ∙ get_or-drop a ws i 0

  pub search_room : count_below k keys ≤ n
  search_room = omega (arith, count_high k keys, long)

  -- found, as the code tells it: the key there is k
  pub search_found : (i : ℕ) → i ≡ count_below k keys → i < n → eqb (get_or ws (a + i) 0) k ≡ among k keys
  search_found i e l = go (eqb (get_or ws (a + i) 0) k) refl
    where
      go : (t : Bool) → eqb (get_or ws (a + i) 0) k ≡ t → t ≡ among k keys
      go true f = sym (among_at k keys i (omega (arith, long)) (key_is i l ∙ eqb-true _ _ f))
      go false f = sym (among_gap k 0 keys r (λ m d. eqb-false _ _ f (sym (key_is i l) ∙ rw e d)))

  -- and where k is above all keys
  pub search_above : n ≤ count_below k keys → false ≡ among k keys
  search_above l = sym (among_gap k 0 keys r (λ m. absurd (omega (arith, long))))
