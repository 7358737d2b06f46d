-- Step 1 of a merge: the chosen run overlaps no more blocks than any other, and of equals it has the lowest keys.
use Prim.Native.Nat.{ℕ, zero, suc, ◌+◌, ◌-◌, ◌<◌, ◌≤◌}
use mathlib.Core.Path.{◌≡◌, refl, sym, ◌∙◌, ap}
use mathlib.Core.Bool.{Bool, true, false}
use mathlib.Core.List.{List, [], ◌∷◌, map}
use native.Mathlib.Omega.{arith}
use lib.Dec.{leb}
use lib.ListN.{length, get_or, take, drop, length-map}
use borrow.Author.Tests.{leb-true, leb-false, le-leb}
use Rattle.levels.specs.Basics.{if◌then◌otherwise◌}
use Rattle.levels.specs.Record.{Level}
use Rattle.levels.specs.Choose.{Least, least, least_of, runs, overlap, choose}
use Rattle.levels.proofs.Lists.{get_d_map_in}

-- r is the least of the numbers qs, and the first index where it stands
pub record IsLeast (qs : List ℕ) (r : Least) : Type 0 where
  pub inside : r.at < length qs
  pub stands : get_or qs r.at 0 ≡ r.value
  pub lowest : (i : ℕ) → i < length qs → r.value ≤ get_or qs i 0
  pub first : (i : ℕ) → i < r.at → r.value < get_or qs i 0

pub least_is : (q : ℕ) (qs : List ℕ) → IsLeast (q ∷ qs) (least q qs)
least_is q [] = record { inside = omega arith; stands = refl; lowest = one; first = λ i h. omega arith }
  where
    one : (i : ℕ) → i < 1 → q ≤ get_or (q ∷ []) i 0
    one zero h = omega arith
    one (suc i) h = omega arith
least_is q (p ∷ ps) = go (leb q (least p ps).value) refl (least_is p ps)
  where
    go : (t : Bool) → leb q (least p ps).value ≡ t → IsLeast (p ∷ ps) (least p ps) → IsLeast (q ∷ p ∷ ps) (least q (p ∷ ps))
    go true e ih = rw e (record { inside = omega arith; stands = refl; lowest = low; first = λ i h. omega arith })
      where
        low : (i : ℕ) → i < length (q ∷ p ∷ ps) → q ≤ get_or (q ∷ p ∷ ps) i 0
        low zero h = omega arith
        low (suc i) h = omega (arith, leb-true q (least p ps).value e, ih.lowest i (omega arith))
    go false e ih = rw e (record { inside = omega (arith, ih.inside); stands = ih.stands; lowest = low; first = fst })
      where
        low : (i : ℕ) → i < length (q ∷ p ∷ ps) → (least p ps).value ≤ get_or (q ∷ p ∷ ps) i 0
        low zero h = omega (arith, leb-false q (least p ps).value e)
        low (suc i) h = ih.lowest i (omega arith)

        fst : (i : ℕ) → i < suc (least p ps).at → (least p ps).value < get_or (q ∷ p ∷ ps) i 0
        fst zero h = leb-false q (least p ps).value e
        fst (suc i) h = ih.first i (omega arith)

pub least_of_is : (qs : List ℕ) → 0 < length qs → IsLeast qs (least_of qs)
least_of_is [] h = absurd (omega arith)
least_of_is (q ∷ qs) h = least_is q qs

-- "A run is W(i) neighbours of level i": run i begins with entry i, and there are as many as fit. Of a list of anything, F giving its runs: `runs` does, and
-- so does the choice by fences.
module _ {A : Type 0} (w : ℕ) (F : List A → List (List A)) (none : F [] ≡ []) (more : (x : A) (xs : List A) → F (x ∷ xs) ≡ (if leb w (suc (length xs)) then take w (x ∷ xs) ∷ F xs otherwise []))
    (p : 1 ≤ w) where
  pub run_of : (xs : List A) (i : ℕ) → i + w ≤ length xs → get_or (F xs) i [] ≡ take w (drop i xs)
  run_of [] i h = absurd (omega arith)
  run_of (x ∷ xs) zero h = rw (more x xs, le-leb w (suc (length xs)) (omega arith))
  run_of (x ∷ xs) (suc i) h = rw (more x xs, le-leb w (suc (length xs)) (omega arith)) (run_of xs i (omega arith))

  pub runs_of : (xs : List A) → length (F xs) ≡ suc (length xs) - w
  runs_of [] = rw none (omega arith)
  runs_of (x ∷ xs) = rw (more x xs) (go (leb w (suc (length xs))) refl (runs_of xs))
    where
      go : (t : Bool) → leb w (suc (length xs)) ≡ t → length (F xs) ≡ suc (length xs) - w
          → length (if t then take w (x ∷ xs) ∷ F xs otherwise []) ≡ suc (length (x ∷ xs)) - w
      go true e ih = omega (arith, leb-true w (suc (length xs)) e)
      go false e ih = omega (arith, leb-false w (suc (length xs)) e)

run_at : (w : ℕ) (l : Level) (i : ℕ) → 1 ≤ w → i + w ≤ length l → get_or (runs w l) i [] ≡ take w (drop i l)
run_at w l i p h = run_of w (runs w) refl (λ b bs. refl) p l i h

run_count : (w : ℕ) (l : Level) → 1 ≤ w → length (runs w l) ≡ suc (length l) - w
run_count w l p = runs_of w (runs w) refl (λ b bs. refl) p l

-- "X is the run of W(i) neighbours whose key range overlaps the fewest blocks below; of equals, the one with the lowest keys."
-- r tells the index of X's first block and X's overlap.
pub record IsChoice (w : ℕ) (above under : Level) (r : Least) : Type 0 where
  pub whole : r.at + w ≤ length above
  pub overlaps : overlap under (take w (drop r.at above)) ≡ r.value
  pub fewest : (i : ℕ) → i + w ≤ length above → r.value ≤ overlap under (take w (drop i above))
  pub lowest : (i : ℕ) → i < r.at → r.value < overlap under (take w (drop i above))

-- the choice of the definition is that run
pub choose_is : (w : ℕ) (above under : Level) → 1 ≤ w → w ≤ length above → IsChoice w above under (choose w above under)
choose_is w above under p f = record { whole = run; overlaps = at (choose w above under).at run ∙ c.stands; fewest = few; lowest = low }
  where
    qs : List ℕ
    qs = map (overlap under) (runs w above)

    len : length qs ≡ suc (length above) - w
    len = length-map (runs w above) (overlap under) ∙ run_count w above p

    at : (i : ℕ) → i + w ≤ length above → overlap under (take w (drop i above)) ≡ get_or qs i 0
    at i h = sym (get_d_map_in (overlap under) (runs w above) i [] 0 (omega (arith, run_count w above p)) ∙ ap (overlap under) (run_at w above i p h))

    c : IsLeast qs (choose w above under)
    c = least_of_is qs (omega (arith, len))

    run : (choose w above under).at + w ≤ length above
    run = omega (arith, c.inside, len)

    few : (i : ℕ) → i + w ≤ length above → (choose w above under).value ≤ overlap under (take w (drop i above))
    few i h = rw (at i h) (c.lowest i (omega (arith, len)))

    low : (i : ℕ) → i < (choose w above under).at → (choose w above under).value < overlap under (take w (drop i above))
    low i h = rw (at i (omega (arith, run))) (c.first i h)

-- the chosen run is the only one of which this can be said
pub choice_unique : (w : ℕ) (above under : Level) (r s : Least) → IsChoice w above under r → IsChoice w above under s → r.at ≡ s.at
choice_unique w above under r s c d = omega (arith, not_less r s c d, not_less s r d c)
  where
    not_less : (r s : Least) → IsChoice w above under r → IsChoice w above under s → s.at ≤ r.at
    not_less r s c d = go (native.Mathlib.Decide.dec_lt r.at s.at)
      where
        go : Dec (r.at < s.at) → s.at ≤ r.at
        go (no n) = omega arith
        go (yes l) = absurd (omega (arith, d.lowest r.at l, c.overlaps, c.fewest s.at d.whole, d.overlaps))
