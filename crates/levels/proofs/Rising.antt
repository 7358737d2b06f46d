-- "keys rise strictly": the test as a fact, and what it says of the parts of a list.
use Prim.Native.Nat.{ℕ, suc, ◌≤◌}
use mathlib.Core.Path.{◌≡◌, refl}
use mathlib.Core.Bool.{true}
use mathlib.Core.List.{List, [], ◌∷◌, ◌++◌}
use native.Mathlib.Omega.{arith}
use borrow.Author.Tests.{leb-true, le-leb}
use Rattle.levels.specs.Record.{Rec, rising}
use Rattle.levels.specs.Rising.{Rising, Below}
use Rattle.levels.proofs.Basics.{and_left, and_right, and_both}

-- the test says it
pub test_rising : (low : ℕ) (rs : List Rec) → rising low rs ≡ true → Rising low rs
test_rising low [] e = tt
test_rising low (r ∷ rs) e = (leb-true low r.key (search and_left), test_rising (suc r.key) rs (search (and_left, and_right)))

-- and is passed by a sorted list
pub rising_test : (low : ℕ) (rs : List Rec) → Rising low rs → rising low rs ≡ true
rising_test low [] h = refl
rising_test low (r ∷ rs) h = and_both _ _ (le-leb low r.key h.0) (rising_test (suc r.key) rs h.1)

-- a lower bound may be lowered
pub rising_from : (low k : ℕ) (rs : List Rec) → low ≤ k → Rising k rs → Rising low rs
rising_from low k [] h r = tt
rising_from low k (x ∷ xs) h r = (omega arith, r.1)

-- the two parts of a sorted list are sorted
pub rising_left : (low : ℕ) (xs ys : List Rec) → Rising low (xs ++ ys) → Rising low xs
rising_left low [] ys h = tt
rising_left low (x ∷ xs) ys h = (h.0, rising_left (suc x.key) xs ys h.1)

pub rising_right : (low : ℕ) (xs ys : List Rec) → Rising low (xs ++ ys) → Rising low ys
rising_right low [] ys h = h
rising_right low (x ∷ xs) ys h = rising_from low (suc x.key) ys (omega arith) (rising_right (suc x.key) xs ys h.1)

-- the end of a sorted list may be replaced by another that is as sorted
pub rising_swap : (low : ℕ) (xs ys zs : List Rec) → ((j : ℕ) → Rising j ys → Rising j zs) → Rising low (xs ++ ys) → Rising low (xs ++ zs)
rising_swap low [] ys zs f h = f low h
rising_swap low (x ∷ xs) ys zs f h = (h.0, rising_swap (suc x.key) xs ys zs f h.1)

-- an upper bound may be raised
pub below_more : (low high : ℕ) (xs : List Rec) → low ≤ high → Below low xs → Below high xs
below_more low high [] h b = tt
below_more low high (x ∷ xs) h b = (omega (arith, b.0), below_more low high xs h b.1)

-- a bound of two lists is a bound of both end to end
pub below_append : (high : ℕ) (xs ys : List Rec) → Below high xs → Below high ys → Below high (xs ++ ys)
below_append high [] ys a b = b
below_append high (x ∷ xs) ys a b = (a.0, below_append high xs ys a.1 b)
