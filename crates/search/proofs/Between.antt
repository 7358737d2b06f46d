-- A key between two parts of a rising list: only the part between them can have it.
use Prim.Native.Nat.{ℕ, suc, ◌≤◌, ◌<◌}
use mathlib.Core.Path.{◌≡◌, ◌∙◌}
use mathlib.Core.List.{List, [], ◌∷◌, ◌++◌}
use native.Mathlib.Omega.{arith}
use Rattle.levels.specs.Record.{Rec}
use Rattle.levels.specs.Map.{find}
use Rattle.levels.specs.Rising.{Rising, Below}
use Rattle.levels.proofs.Basics.{or_none}
use Rattle.levels.proofs.Rising.{rising_right}
use Rattle.levels.proofs.Overlay.{find_below, find_above, find_append}

-- keys below k before, and keys above k after
pub find_between : (k : ℕ) (xs ys zs : List Rec) → Below k xs → Rising (suc k) zs → find k (xs ++ (ys ++ zs)) ≡ find k ys
find_between k xs ys zs b a =
    find_append k xs (ys ++ zs) ∙ rw (find_above k k xs b (omega arith), find_append k ys zs, find_below k (suc k) zs a (omega arith)) (or_none (find k ys))

-- what stands before a key that is not above k is below k
pub rising_before : (k low : ℕ) (xs ys : List Rec) (y : Rec) (zs : List Rec) → ys ≡ y ∷ zs → Rising low (xs ++ ys) → y.key ≤ k → Below k xs
rising_before k low [] ys y zs e h l = tt
rising_before k low (x ∷ xs) ys y zs e h l =
    let p : Rising (suc x.key) (y ∷ zs) = rw e at (rising_right (suc x.key) xs ys h.1) in
    (let q = p.0 in omega arith, rising_before k (suc x.key) xs ys y zs e h.1 l)

-- what starts with a key above k is above k
pub rising_after : (k low : ℕ) (ys : List Rec) (y : Rec) (zs : List Rec) → ys ≡ y ∷ zs → Rising low ys → k < y.key → Rising (suc k) ys
rising_after k low ys y zs e h l =
    let p : Rising low (y ∷ zs) = rw e at h in
    rw e (l, p.1)

-- the parts of a list that is below a key
pub below_left : (k : ℕ) (xs ys : List Rec) → Below k (xs ++ ys) → Below k xs
below_left k [] ys b = tt
below_left k (x ∷ xs) ys b = (b.0, below_left k xs ys b.1)

pub below_right : (k : ℕ) (xs ys : List Rec) → Below k (xs ++ ys) → Below k ys
below_right k [] ys b = b
below_right k (x ∷ xs) ys b = below_right k xs ys b.1
