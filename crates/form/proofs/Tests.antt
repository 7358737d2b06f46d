-- Laws of tests: of two that hold together, of `all`, and of a test of every number of a range.
use Prim.Native.Nat.{ℕ, zero, suc, ◌+◌, ◌-◌, ◌≤◌, ◌<◌}
use mathlib.Core.Path.{◌≡◌, sym, ap, ◌∙◌, refl}
use mathlib.Core.Bool.{Bool, true, false, ◌&&◌, and-true}
use mathlib.Core.List.{List, [], ◌∷◌}
use native.Mathlib.Omega.{arith}
use Rattle.levels.specs.Basics.{all, each}
use Rattle.levels.proofs.Each.{all_each_at}

-- two tests that imply each other are one test
pub test_same : (a b : Bool) → (a ≡ true → b ≡ true) → (b ≡ true → a ≡ true) → a ≡ b
test_same true b f k = sym (f refl)
test_same false true f k = k refl
test_same false false f k = refl

-- two tests and two tests, taken the other way round
pub and_swap : (a b c d : Bool) → (a && b && (c && d)) ≡ (a && c && (b && d))
and_swap true true c d = sym (go c)
  where
    go : (c : Bool) → (c && (true && d)) ≡ (c && d)
    go true = refl
    go false = refl
and_swap true false true d = refl
and_swap true false false d = refl
and_swap false b c d = refl

-- two tests of each are the one of each and the other of each
pub all_and : {A : Type 0} (t u : A → Bool) (xs : List A) → all (λ (x : A). t x && u x) xs ≡ (all t xs && all u xs)
all_and t u [] = refl
all_and t u (x ∷ xs) = rw (all_and t u xs) (and_swap (t x) (u x) (all t xs) (all u xs))

abbrev pub range : ℕ → ℕ → List ℕ
range i n = each (λ (j : ℕ). j) i n

-- tests that agree on the numbers of a range
pub all_same : (t u : ℕ → Bool) (i n : ℕ) → ((j : ℕ) → i ≤ j → j < i + n → t j ≡ u j) → all t (range i n) ≡ all u (range i n)
all_same t u i zero f = refl
all_same t u i (suc n) f = rw (f i (omega arith) (omega arith), all_same t u (suc i) n (λ j a b. f j (omega arith) (omega arith)))

-- a test of every number of a range, of one of them
pub all_at : (t : ℕ → Bool) (i n : ℕ) → all t (range i n) ≡ true → (j : ℕ) → i ≤ j → j < i + n → t j ≡ true
all_at t i n e j a b = let q : i + (j - i) ≡ j = omega arith in ap t (sym q) ∙ all_each_at t (λ (k : ℕ). k) i n e (j - i) (omega arith)

pub all_true : (t : ℕ → Bool) (i n : ℕ) → ((j : ℕ) → i ≤ j → j < i + n → t j ≡ true) → all t (range i n) ≡ true
all_true t i zero f = refl
all_true t i (suc n) f = rw (f i (omega arith) (omega arith), all_true t (suc i) n (λ j a b. f j (omega arith) (omega arith)))

-- tests of level 1, 2 and 3 are tests of every level, where those above h hold
pub all_three : (t : ℕ → Bool) (h : ℕ) → 1 ≤ h → h ≤ 3 → ((i : ℕ) → 1 ≤ i → i ≤ 3 → h < i → t i ≡ true) → (t 1 && (t 2 && t 3)) ≡ all t (range 1 h)
all_three t zero a b f = absurd (omega arith)
all_three t (suc zero) a b f = rw (f 2 (omega arith) (omega arith) (omega arith), f 3 (omega arith) (omega arith) (omega arith))
all_three t (suc (suc zero)) a b f = rw (f 3 (omega arith) (omega arith) (omega arith))
all_three t (suc (suc (suc zero))) a b f = rw (and-true (t 3))
all_three t (suc (suc (suc (suc h)))) a b f = absurd (omega arith)
