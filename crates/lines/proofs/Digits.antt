-- Laws of `decimal`: it is the number's digits, all of them, and no zero too many.
use Prim.Native.Nat.{ℕ, zero, suc, ◌+◌, ◌-◌, ◌*◌, ◌/◌, ◌%◌, ◌^◌, ◌≤◌, ◌<◌}
use mathlib.Core.Path.{◌≡◌, refl}
use mathlib.Core.Bool.{Bool, true, false, ◌&&◌, and-eq-true_iff}
use mathlib.Core.List.{List, [], ◌∷◌, ◌++◌}
use native.Mathlib.Nat.{pow-succ'}
use native.Mathlib.Omega.{arith}
use borrow.Author.Tests.{ltb-true, ltb-false, lt-ltb, le-ltb, le-leb}
use lib.Dec.{ltb}
use lib.ListN.{length, get_or, length-append, get_or-append}
use Rattle.lines.specs.Bytes.{digit, digit_nine, is_digit, every}
use Rattle.lines.specs.Lines.{value_from, value_of, word_limit, is_number, decimal_within, decimal}

-- the two clauses, whatever the bound
within_small : (k n : ℕ) → n < 10 → decimal_within k n ≡ digit n ∷ []
unfolding decimal_within
within_small zero n h = refl
within_small (suc k) n h = rw (lt-ltb n 10 h, decimal_within)

within_zero : (n : ℕ) → decimal_within zero n ≡ digit n ∷ []
unfolding decimal_within
within_zero n = refl

within_more : (k n : ℕ) → 10 ≤ n → decimal_within (suc k) n ≡ decimal_within k (n / 10) ++ (digit (n % 10) ∷ [])
unfolding decimal_within
within_more k n h = rw (le-ltb n 10 h, decimal_within)

-- a bound that is large enough has no say
within_same : (k j n : ℕ) → n ≤ k → n ≤ j → decimal_within k n ≡ decimal_within j n
within_same zero j n h i = rw (within_small zero n (omega arith), within_small j n (omega arith))
within_same (suc k) zero n h i = rw (within_small (suc k) n (omega arith), within_small zero n (omega arith))
within_same (suc k) (suc j) n h i = go (λ (l : 10 ≤ n). within_same k j (n / 10) (omega arith) (omega arith)) (ltb n 10) refl
  where
    go : (10 ≤ n → decimal_within k (n / 10) ≡ decimal_within j (n / 10)) → (t : Bool) → ltb n 10 ≡ t → decimal_within (suc k) n ≡ decimal_within (suc j) n
    go ih true e = rw (within_small (suc k) n (ltb-true _ _ e), within_small (suc j) n (ltb-true _ _ e))
    go ih false e =
        let l : 10 ≤ n = ltb-false _ _ e in
        rw (within_more k n l, within_more j n l, ih l)

-- a number below 10 is one digit
pub decimal_small : (n : ℕ) → n < 10 → decimal n ≡ digit n ∷ []
unfolding decimal
decimal_small n h = within_small n n h

-- the digits of another are those of its tenth, and its last
pub decimal_more : (n : ℕ) → 10 ≤ n → decimal n ≡ decimal (n / 10) ++ (digit (n % 10) ∷ [])
unfolding decimal
decimal_more zero h = absurd (omega arith)
decimal_more (suc n) h = rw (within_more n (suc n) h, within_same n (suc n / 10) (suc n / 10) (omega arith) (omega arith))

-- a number below 10^k, k at least 1, has at most k digits
within_length : (k j n : ℕ) → n < 10 ^ suc k → length (decimal_within j n) ≤ suc k
within_length zero j n h = rw (within_small j n h) (omega arith)
within_length (suc k) zero n h = rw (within_zero n) (omega arith)
within_length (suc k) (suc j) n h = go (λ (l : n / 10 < 10 ^ suc k). within_length k j (n / 10) l) (ltb n 10) refl
  where
    go : (n / 10 < 10 ^ suc k → length (decimal_within j (n / 10)) ≤ suc k) → (t : Bool) → ltb n 10 ≡ t → length (decimal_within (suc j) n) ≤ suc (suc k)
    go ih true e = rw (within_small (suc j) n (ltb-true _ _ e)) (omega arith)
    go ih false e =
        let m : 10 ^ suc (suc k) ≡ 10 * 10 ^ suc k = pow-succ' 10 (suc k) in
        let l : length (decimal_within j (n / 10)) ≤ suc k = ih (omega arith) in
        rw (within_more j n (ltb-false _ _ e)) (simp length-append (omega arith))

-- a word has at most ten digits
pub decimal_length : (n : ℕ) → n < word_limit → length (decimal n) ≤ 10
unfolding decimal
decimal_length n h = within_length 9 n n (omega arith)

-- the value of digits, with one more behind them
pub value_append : (v : ℕ) (xs ys : List ℕ) → value_from v (xs ++ ys) ≡ value_from (value_from v xs) ys
unfolding value_from
value_append v [] ys = refl
value_append v (x ∷ xs) ys = value_append (v * 10 + (x - 48)) xs ys

value_one : (v d : ℕ) → value_from v (digit d ∷ []) ≡ v * 10 + d
unfolding value_from
value_one v d = omega arith

-- the digits of n say n
within_value : (k n : ℕ) → n ≤ k → value_of (decimal_within k n) ≡ n
within_value zero n h = rw (within_small zero n (omega arith), value_one 0 n) (omega arith)
within_value (suc k) n h = go (λ (l : 10 ≤ n). within_value k (n / 10) (omega arith)) (ltb n 10) refl
  where
    go : (10 ≤ n → value_of (decimal_within k (n / 10)) ≡ n / 10) → (t : Bool) → ltb n 10 ≡ t → value_of (decimal_within (suc k) n) ≡ n
    go ih true e = rw (within_small (suc k) n (ltb-true _ _ e), value_one 0 n) (omega arith)
    go ih false e =
        let l : 10 ≤ n = ltb-false _ _ e in
        rw (within_more k n l, value_append 0 (decimal_within k (n / 10)) (digit (n % 10) ∷ []), ih l, value_one (n / 10) (n % 10)) (omega arith)

pub decimal_value : (n : ℕ) → value_of (decimal n) ≡ n
unfolding decimal
decimal_value n = within_value n n (omega arith)

every_append : (xs ys : List ℕ) → every is_digit (xs ++ ys) ≡ (every is_digit xs && every is_digit ys)
every_append [] ys = refl
every_append (x ∷ xs) ys = go (is_digit x) (every_append xs ys)
  where
    go : (t : Bool) → every is_digit (xs ++ ys) ≡ (every is_digit xs && every is_digit ys) → (t && every is_digit (xs ++ ys)) ≡ ((t && every is_digit xs) && every is_digit ys)
    go true e = e
    go false e = refl

digit_is : (d : ℕ) → d < 10 → is_digit (digit d) ≡ true
digit_is d h = rw (le-leb 48 (digit d) (omega arith), le-leb (digit d) digit_nine (omega arith))

within_digits : (k n : ℕ) → n ≤ k → every is_digit (decimal_within k n) ≡ true
within_digits zero n h = rw (within_small zero n (omega arith), digit_is n (omega arith))
within_digits (suc k) n h = go (λ (l : 10 ≤ n). within_digits k (n / 10) (omega arith)) (ltb n 10) refl
  where
    go : (10 ≤ n → every is_digit (decimal_within k (n / 10)) ≡ true) → (t : Bool) → ltb n 10 ≡ t → every is_digit (decimal_within (suc k) n) ≡ true
    go ih true e = rw (within_small (suc k) n (ltb-true _ _ e), digit_is n (ltb-true _ _ e))
    go ih false e =
        let l : 10 ≤ n = ltb-false _ _ e in
        rw (within_more k n l, every_append (decimal_within k (n / 10)) (digit (n % 10) ∷ []), ih l, digit_is (n % 10) (omega arith))

pub decimal_digits : (n : ℕ) → every is_digit (decimal n) ≡ true
unfolding decimal
decimal_digits n = within_digits n n (omega arith)

-- the first digit is 0 for 0 alone
within_lead : (k n : ℕ) → n ≤ k → 0 < n → (0 < length (decimal_within k n)) × (49 ≤ get_or (decimal_within k n) 0 0)
within_lead zero n h p = absurd (omega arith)
within_lead (suc k) n h p = go (λ (l : 10 ≤ n). within_lead k (n / 10) (omega arith) (omega arith)) (ltb n 10) refl
  where
    go : (10 ≤ n → (0 < length (decimal_within k (n / 10))) × (49 ≤ get_or (decimal_within k (n / 10)) 0 0)) → (t : Bool) → ltb n 10 ≡ t → (0 < length (decimal_within (suc k) n)) × (49 ≤ get_or (decimal_within (suc k) n) 0 0)
    go ih true e = rw (within_small (suc k) n (ltb-true _ _ e)) (omega arith, omega arith)
    go ih false e =
        let l : 10 ≤ n = ltb-false _ _ e in
        rw (within_more k n l) (
          simp length-append (omega arith),
          rw (get_or-append (decimal_within k (n / 10)) (digit (n % 10) ∷ []) 0 0 (ih l).0) (ih l).1,
        )

pub decimal_lead : (n : ℕ) → 0 < n → 49 ≤ get_or (decimal n) 0 0
unfolding decimal
decimal_lead n p = (within_lead n n (omega arith) p).1

-- the number of digits, clause by clause
pub length_small : (n : ℕ) → n < 10 → length (decimal n) ≡ 1
length_small n h = rw (decimal_small n h)

pub length_more : (n : ℕ) → 10 ≤ n → length (decimal n) ≡ length (decimal (n / 10)) + 1
length_more n h = rw (decimal_more n h) (simp length-append (omega arith))

decimal_some : (n : ℕ) → 0 < length (decimal n)
decimal_some n = go (ltb n 10) refl
  where
    go : (t : Bool) → ltb n 10 ≡ t → 0 < length (decimal n)
    go true e = omega (arith, length_small n (ltb-true _ _ e))
    go false e = omega (arith, length_more n (ltb-false _ _ e))

number_of : (xs : List ℕ) → 0 < length xs → every is_digit xs ≡ true → value_of xs < word_limit → is_number xs ≡ true
number_of [] p e h = absurd (omega arith)
number_of (x ∷ xs) p e h = simp and-eq-true_iff (simp and-eq-true_iff at e, lt-ltb _ _ h)

-- what is printed of a word can be read again, and says the same (`decimal_value`)
pub decimal_number : (n : ℕ) → n < word_limit → is_number (decimal n) ≡ true
decimal_number n h =
    let l : value_of (decimal n) < word_limit = rw (decimal_value n) h in
    number_of (decimal n) (decimal_some n) (decimal_digits n) l
