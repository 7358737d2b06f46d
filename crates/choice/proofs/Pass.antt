-- A step of card 4's pass: both ends move forward to where the next run has them.
use Prim.Native.Nat.{ℕ, zero, suc, ◌+◌, ◌≤◌}
use mathlib.Core.Path.{◌≡◌, refl, sym, ap}
use mathlib.Core.Bool.{Bool, true, false}
use mathlib.Core.List.{List, [], ◌∷◌, map}
use native.Mathlib.Omega.{arith}
use lib.Dec.{leb, ltb}
use lib.ListN.{length, take, drop}
use Rattle.std.proofs.Common.{cond}
use Rattle.std.specs.List.{take_while}
use Rattle.std.proofs.lemmas.List.Sums.{take_while-cons}
use borrow.Author.Tests.{leb-true, leb-false, ltb-true, ltb-false, lt-ltb, le-ltb}
use Rattle.slices.specs.Ranks.{Rising, count_below}
use Rattle.levels.specs.Basics.{if◌then◌otherwise◌}
use Rattle.choice.specs.declared.Stretch.{Stretch}
use Rattle.choice.specs.declared.Fence.{Fence}
use Rattle.choice.specs.Fences.{Ordered, low_of, high_of, first_keys, last_keys, stretch_of}
use Rattle.choice.specs.Pass.{moves_of, move_on, AtRun, NotPast}
use Rattle.slices.proofs.Ranks.{count_in, count_out, count_none, count_drop, rising_drop}
use Rattle.choice.proofs.Order.{lasts_rise, firsts_rise}

-- One end.

pub moves_high : (bound : ℕ) (ks : List ℕ) → moves_of bound ks ≤ length ks
unfolding moves_of
moves_high bound [] = omega arith
moves_high bound (k ∷ ks) = go (ltb k bound) (moves_high bound ks)
  where
    go : (t : Bool) → moves_of bound ks ≤ length ks → (if t then suc (moves_of bound ks) otherwise 0) ≤ suc (length ks)
    go true ih = omega arith
    go false ih = omega arith

pub at_most : (k hi : ℕ) → leb k hi ≡ ltb k (suc hi)
at_most k hi = go (leb k hi) refl
  where
    go : (t : Bool) → leb k hi ≡ t → t ≡ ltb k (suc hi)
    go true e = sym (lt-ltb k (suc hi) (omega (arith, leb-true k hi e)))
    go false e = sym (le-ltb k (suc hi) (leb-false k hi e))

-- its chain over the fences from where it stands: p tells whether a fence is moved over
pub passed_moves : (p : Fence → Bool) (key : Fence → ℕ) (bound : ℕ) → ((f : Fence) → p f ≡ ltb (key f) bound) → (fs : List Fence) → length (take_while p fs) ≡ moves_of bound (map key fs)
unfolding moves_of
passed_moves p key bound e [] = refl
passed_moves p key bound e (f ∷ fs) = rw (take_while-cons p f fs, e f) (go (ltb (key f) bound) (passed_moves p key bound e fs))
  where
    go : (t : Bool) → length (take_while p fs) ≡ moves_of bound (map key fs) → length (cond t (f ∷ take_while p fs) []) ≡ (if t then suc (moves_of bound (map key fs)) otherwise 0)
    go true ih = ap suc ih
    go false ih = refl

-- among rising keys it moves over all that are below the bound
moves_count : (bound low : ℕ) (ks : List ℕ) → Rising low ks → moves_of bound ks ≡ count_below bound ks
unfolding moves_of count_below
moves_count bound low [] r = refl
moves_count bound low (k ∷ ks) r = go (ltb k bound) refl (moves_count bound (suc k) ks r.1)
  where
    go : (t : Bool) → ltb k bound ≡ t → moves_of bound ks ≡ count_below bound ks → (if t then suc (moves_of bound ks) otherwise 0) ≡ count_below bound (k ∷ ks)
    go true e ih = rw (count_in bound k ks (ltb-true k bound e)) (ap suc ih)
    go false e ih = sym (count_none bound k (k ∷ ks) (omega arith, r.1) (ltb-false k bound e))

end_count : (bound at : ℕ) (ks : List ℕ) → Rising 0 ks → at ≤ count_below bound ks → at + moves_of bound (drop at ks) ≡ count_below bound ks
end_count bound at ks r h = omega (arith, moves_count bound 0 (drop at ks) (rising_drop 0 at ks r), count_drop bound 0 at ks r)

-- Both ends, at a run: if they have not passed where it has them, they are there then.
pub at_run : (lo hi : ℕ) (under : List Fence) (at : Stretch) → Ordered 0 under → NotPast lo hi under at → AtRun lo hi under at (move_on lo hi under at)
unfolding move_on
at_run lo hi under at o k = record {
  moved = refl;
  lower = end_count lo at.start (last_keys under) (lasts_rise 0 under o) k.lower;
  upper = end_count (suc hi) at.end (first_keys under) (firsts_rise 0 under o) k.upper;
  lower_forward = omega arith;
  upper_forward = omega arith;
}

-- there they are those of the stretch below it
pub at_stretch : (run under : List Fence) (before at : Stretch) → AtRun (low_of run) (high_of run) under before at → at ≡ stretch_of run under
unfolding stretch_of
at_stretch run under before at r = rw (← r.lower, ← r.upper)

-- The next run starts and ends above this one, so its ends are no lower.

count_higher : (j k : ℕ) (xs : List ℕ) → j ≤ k → count_below j xs ≤ count_below k xs
unfolding count_below
count_higher j k [] h = omega arith
count_higher j k (x ∷ xs) h = go (ltb x j) (ltb x k) refl refl (count_higher j k xs h)
  where
    go : (t u : Bool) → ltb x j ≡ t → ltb x k ≡ u → count_below j xs ≤ count_below k xs → count_below j (x ∷ xs) ≤ count_below k (x ∷ xs)
    go true true e d ih = rw (count_in j x xs (ltb-true x j e), count_in k x xs (ltb-true x k d)) (omega arith)
    go true false e d ih = absurd (omega (arith, ltb-true x j e, ltb-false x k d))
    go false true e d ih = rw (count_out j x xs (ltb-false x j e), count_in k x xs (ltb-true x k d)) (omega arith)
    go false false e d ih = rw (count_out j x xs (ltb-false x j e), count_out k x xs (ltb-false x k d)) ih

-- one block more at the end of a run does not end it lower
high_more : (low w : ℕ) (f : Fence) (fs : List Fence) → Ordered low (f ∷ fs) → w ≤ length fs → high_of (take w (f ∷ fs)) ≤ high_of (f ∷ take w fs)
unfolding high_of
high_more low zero f fs o h = omega arith
high_more low (suc zero) f [] o h = absurd (omega arith)
high_more low (suc zero) f (e ∷ fs) o h = omega (arith, o.1.1.0, o.1.1.1.0)
high_more low (suc (suc w)) f [] o h = absurd (omega arith)
high_more low (suc (suc w)) f (e ∷ fs) o h = high_more (suc f.last) (suc w) e fs o.1.1 (omega arith)

runs_rise : (low w : ℕ) (f : Fence) (fs : List Fence) → Ordered low (f ∷ fs) → 1 ≤ w → w ≤ length fs
    → (low_of (take w (f ∷ fs)) ≤ low_of (take w fs)) × (high_of (take w (f ∷ fs)) ≤ high_of (take w fs))
unfolding low_of high_of
runs_rise low zero f fs o p h = absurd (omega arith)
runs_rise low (suc w) f [] o p h = absurd (omega arith)
runs_rise low (suc w) f (e ∷ fs) o p h = (omega (arith, o.1.0, o.1.1.0), high_more low (suc w) f (e ∷ fs) o (omega arith))

pub next_run : (low w : ℕ) (f : Fence) (fs under : List Fence) → Ordered low (f ∷ fs) → 1 ≤ w → w ≤ length fs
    → NotPast (low_of (take w fs)) (high_of (take w fs)) under (stretch_of (take w (f ∷ fs)) under)
unfolding stretch_of
next_run low w f fs under o p h =
    let r = runs_rise low w f fs o p h in
    record {
      lower = count_higher (low_of (take w (f ∷ fs))) (low_of (take w fs)) (last_keys under) r.0;
      upper = count_higher (suc (high_of (take w (f ∷ fs)))) (suc (high_of (take w fs))) (first_keys under) (omega (arith, r.1));
    }
