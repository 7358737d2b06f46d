-- As many places are marked as are in use, at most.
use Prim.Native.Nat.{ℕ, zero, suc, ◌+◌, ◌≤◌}
use mathlib.Core.Path.{◌≡◌, refl}
use mathlib.Core.Bool.{Bool, true, false, ◌||◌}
use mathlib.Core.List.{List, [], ◌∷◌}
use native.Mathlib.Omega.{arith}
use lib.Dec.{eqb}
use lib.ListN.{length}
use borrow.Author.Tests.{ne_eqb, eqb-true}
use Rattle.levels.specs.Basics.{member}
use Rattle.words.specs.Stores.{bit}
use Rattle.blocks.specs.Blocks.{Marks}
use Rattle.merging.specs.Contract.{count_marks}

-- how many numbers below n are p, and how many stand in a list
abbrev same : ℕ → ℕ → ℕ
same zero p = 0
same (suc n) p = same n p + bit (eqb n p)

abbrev within : ℕ → List ℕ → ℕ
within zero places = 0
within (suc n) places = within n places + bit (member n places)

same_none : (n p : ℕ) → n ≤ p → same n p ≡ 0
same_none zero p h = refl
same_none (suc n) p h = rw (ne_eqb n p (λ e. omega arith)) (omega (arith, same_none n p (omega arith)))

same_once : (n p : ℕ) → same n p ≤ 1
same_once zero p = omega arith
same_once (suc n) p = go (eqb n p) refl (same_once n p)
  where
    go : (t : Bool) → eqb n p ≡ t → same n p ≤ 1 → same n p + bit t ≤ 1
    go true e ih = let d = eqb-true n p e in omega (arith, same_none n p (omega arith))
    go false e ih = omega arith

bit_or : (s t : Bool) → bit (s || t) ≤ bit s + bit t
bit_or true t = omega arith
bit_or false t = omega arith

within_more : (n p : ℕ) (places : List ℕ) → within n (p ∷ places) ≤ same n p + within n places
within_more zero p places = omega arith
within_more (suc n) p places = omega (arith, within_more n p places, bit_or (eqb n p) (member n places))

within_nil : (n : ℕ) → within n [] ≡ 0
within_nil zero = refl
within_nil (suc n) = omega (arith, within_nil n)

within_few : (n : ℕ) (places : List ℕ) → within n places ≤ length places
within_few n [] = omega (arith, within_nil n)
within_few n (p ∷ places) = omega (arith, within_more n p places, same_once n p, within_few n places)

count_within : (n : ℕ) (used : List Bool) (places : List ℕ) → Marks used places → count_marks n used ≡ within n places
unfolding count_marks
count_within zero used places m = refl
count_within (suc n) used places m = rw (count_within n used places m, m n)

pub count_few : (n : ℕ) (used : List Bool) (places : List ℕ) → Marks used places → count_marks n used ≤ length places
count_few n used places m = rw (count_within n used places m) (within_few n places)
