-- Card 4's whole pass over both lists of key ranges: at each run both ends are what a search would find, neither goes back, and each moves at most once
-- over each block below.
use Prim.Native.Nat.{ℕ, zero, suc, ◌+◌, ◌-◌, ◌*◌, ◌≤◌, ◌<◌}
use mathlib.Core.Path.{◌≡◌, refl, ap}
use mathlib.Core.Bool.{Bool, true, false}
use mathlib.Core.List.{List, [], ◌∷◌, map}
use native.Mathlib.Omega.{arith}
use lib.Dec.{leb, ltb}
use lib.ListN.{length, get_or, take, drop, length-map, length-drop}
use borrow.Author.Tests.{leb-true}
use Rattle.levels.specs.Basics.{if◌then◌otherwise◌}
use Rattle.levels.proofs.Choice.{run_of, runs_of}
use Rattle.choice.specs.declared.Stretch.{Stretch}
use Rattle.choice.specs.declared.Fence.{Fence}
use Rattle.choice.specs.Fences.{Ordered, fence_runs, low_of, high_of, first_keys, last_keys, stretch_of}
use Rattle.choice.specs.Pass.{moves_of, move_on, NotPast}
use Rattle.choice.proofs.Pass.{moves_high, at_run, at_stretch, next_run}

-- the pass: where both ends stand at each of some runs, from where they stood before these
unfoldable pub pass_from : Stretch → List Fence → List (List Fence) → List Stretch
pass_from at under [] = []
pass_from at under (run ∷ runs) = let s = move_on (low_of run) (high_of run) under at in s ∷ pass_from s under runs

-- before the first run both ends stand at the level's start
abbrev pub at_start : Stretch
at_start = record { start = 0; end = 0 }

-- at each run of w neighbours, lowest keys first
unfoldable pub pass_of : ℕ → List Fence → List Fence → List Stretch
pass_of w above under = pass_from at_start under (fence_runs w above)

-- the moves that one of the ends makes in all, from index `at` on: by differences, of which `pass_forward` says that none is cut off at 0
unfoldable pub moves_in : (Stretch → ℕ) → ℕ → List Stretch → ℕ
moves_in end at [] = 0
moves_in end at (s ∷ ss) = (end s - at) + moves_in end (end s) ss

-- the comparisons of an end at a run: one for each move, and one with the key that ends them, if one does
unfoldable pub comparisons_of : ℕ → List ℕ → ℕ
comparisons_of bound [] = 0
comparisons_of bound (k ∷ ks) = suc (if ltb k bound then comparisons_of bound ks otherwise 0)

-- the comparisons of keys that both ends make in all
unfoldable pub comparisons_from : Stretch → List Fence → List (List Fence) → ℕ
comparisons_from at under [] = 0
comparisons_from at under (run ∷ runs) =
    comparisons_of (low_of run) (drop at.start (last_keys under))
    + comparisons_of (suc (high_of run)) (drop at.end (first_keys under))
    + comparisons_from (move_on (low_of run) (high_of run) under at) under runs

unfoldable pub comparisons_in : ℕ → List Fence → List Fence → ℕ
comparisons_in w above under = comparisons_from at_start under (fence_runs w above)

-- "neither ever goes back": an end from index `at` on, in a level of n blocks
abbrev pub Forward : (Stretch → ℕ) → ℕ → ℕ → List Stretch → Type 0
Forward end n at [] = Unit {0}
Forward end n at (s ∷ ss) = (at ≤ end s) × ((end s ≤ n) × Forward end n (end s) ss)

-- how many runs of w neighbours there are, and which is run i
pub runs_length : (w : ℕ) (fs : List Fence) → 1 ≤ w → length (fence_runs w fs) ≡ suc (length fs) - w
unfolding fence_runs
runs_length w fs p = runs_of w (fence_runs w) refl (λ e es. refl) p fs

pub runs_at : (w : ℕ) (fs : List Fence) (i : ℕ) → 1 ≤ w → i + w ≤ length fs → get_or (fence_runs w fs) i [] ≡ take w (drop i fs)
unfolding fence_runs
runs_at w fs i p h = run_of w (fence_runs w) refl (λ e es. refl) p fs i h

-- The pass starts with both ends at the level's start, and goes on from run to run.

pass_starts : (at d : Stretch) (under : List Fence) (runs : List (List Fence)) → 1 ≤ length runs → get_or (pass_from at under runs) 0 d ≡ move_on (low_of (get_or runs 0 [])) (high_of (get_or runs 0 [])) under at
unfolding pass_from
pass_starts at d under [] h = absurd (omega arith)
pass_starts at d under (run ∷ runs) h = refl

pass_steps : (at d : Stretch) (under : List Fence) (runs : List (List Fence)) (i : ℕ) → suc i < length runs
    → get_or (pass_from at under runs) (suc i) d ≡ move_on (low_of (get_or runs (suc i) [])) (high_of (get_or runs (suc i) [])) under (get_or (pass_from at under runs) i d)
unfolding pass_from
pass_steps at d under [] i h = absurd (omega arith)
pass_steps at d under (run ∷ []) i h = absurd (omega arith)
pass_steps at d under (run ∷ next ∷ runs) zero h = refl
pass_steps at d under (run ∷ next ∷ runs) (suc i) h = pass_steps (move_on (low_of run) (high_of run) under at) d under (next ∷ runs) i (omega arith)

-- run i of w neighbours, and where the pass has both ends there
abbrev pub run_at : ℕ → ℕ → List Fence → List Fence
run_at w i above = take w (drop i above)

abbrev pub pass_at : ℕ → List Fence → List Fence → ℕ → Stretch
pass_at w above under i = get_or (pass_of w above under) i at_start

module _ (w : ℕ) (p : 1 ≤ w) (above under : List Fence) where
  pub pass_first : w ≤ length above → pass_at w above under 0 ≡ move_on (low_of (run_at w 0 above)) (high_of (run_at w 0 above)) under at_start
  unfolding pass_of
  pass_first h =
      rw (← runs_at w above 0 p (omega arith)) (pass_starts at_start at_start under (fence_runs w above) (omega (arith, runs_length w above p)))

  pub pass_next : (i : ℕ) → suc i + w ≤ length above → pass_at w above under (suc i) ≡ move_on (low_of (run_at w (suc i) above)) (high_of (run_at w (suc i) above)) under (pass_at w above under i)
  unfolding pass_of
  pass_next i h =
      rw (← runs_at w above (suc i) p h) (pass_steps at_start at_start under (fence_runs w above) i (omega (arith, runs_length w above p)))

-- At each run the ends are those of its stretch.
module _ (w : ℕ) (p : 1 ≤ w) (under : List Fence) (u : Ordered 0 under) where
  pass_from_lem : (low : ℕ) (above : List Fence) (at : Stretch) → Ordered low above → (w ≤ length above → NotPast (low_of (take w above)) (high_of (take w above)) under at)
      → pass_from at under (fence_runs w above) ≡ map (λ (run : List Fence). stretch_of run under) (fence_runs w above)
  unfolding pass_from fence_runs
  pass_from_lem low [] at o q = refl
  pass_from_lem low (f ∷ fs) at o q =
      go (leb w (suc (length fs))) refl (pass_from_lem (suc f.last) fs (stretch_of (take w (f ∷ fs)) under) o.1.1 (next_run low w f fs under o p))
    where
      run : List Fence
      run = take w (f ∷ fs)

      go : (t : Bool) → leb w (suc (length fs)) ≡ t → pass_from (stretch_of run under) under (fence_runs w fs) ≡ map (λ (r : List Fence). stretch_of r under) (fence_runs w fs)
          → pass_from at under (if t then run ∷ fence_runs w fs otherwise []) ≡ map (λ (r : List Fence). stretch_of r under) (if t then run ∷ fence_runs w fs otherwise [])
      go true e ih =
          rw (at_stretch run under at _ (at_run (low_of run) (high_of run) under at u (q (leb-true w (suc (length fs)) e)))) (ap (λ r. stretch_of run under ∷ r) ih)
      go false e ih = refl

  pub pass_stretches : (above : List Fence) → Ordered 0 above → pass_of w above under ≡ map (λ (run : List Fence). stretch_of run under) (fence_runs w above)
  unfolding pass_of
  pass_stretches above o = pass_from_lem 0 above at_start o (λ h. record { lower = omega arith; upper = omega arith })

-- an end that never goes back makes at most n moves in all
forward_moves : (end : Stretch → ℕ) (n at : ℕ) (ss : List Stretch) → at ≤ n → Forward end n at ss → moves_in end at ss ≤ n - at
unfolding moves_in
forward_moves end n at [] h f = omega arith
forward_moves end n at (s ∷ ss) h f = omega (arith, f.0, f.1.0, forward_moves end n (end s) ss f.1.0 f.1.1)

-- each comparison is a move, or the last one of an end at a run
comparisons_moves : (bound : ℕ) (ks : List ℕ) → comparisons_of bound ks ≤ suc (moves_of bound ks)
unfolding comparisons_of moves_of
comparisons_moves bound [] = omega arith
comparisons_moves bound (k ∷ ks) = go (ltb k bound) (comparisons_moves bound ks)
  where
    go : (t : Bool) → comparisons_of bound ks ≤ suc (moves_of bound ks) → suc (if t then comparisons_of bound ks otherwise 0) ≤ suc (if t then suc (moves_of bound ks) otherwise 0)
    go true ih = omega arith
    go false ih = omega arith

-- Both ends of the pass, whatever the fences are.
module _ (under : List Fence) where
  -- an end stays in the level
  within : (bound at : ℕ) (ks : List ℕ) → length ks ≡ length under → at ≤ length under → at + moves_of bound (drop at ks) ≤ length under
  within bound at ks e h = omega (arith, moves_high bound (drop at ks), length-drop at ks)

  goes_forward : (at : Stretch) (runs : List (List Fence)) → at.start ≤ length under → at.end ≤ length under
      → Forward (λ s. s.start) (length under) at.start (pass_from at under runs) × Forward (λ s. s.end) (length under) at.end (pass_from at under runs)
  unfolding pass_from move_on
  goes_forward at [] h k = (tt, tt)
  goes_forward at (run ∷ runs) h k =
      let a = within (low_of run) at.start (last_keys under) (length-map under (λ (f : Fence). f.last)) h in
      let b = within (suc (high_of run)) at.end (first_keys under) (length-map under (λ (f : Fence). f.first)) k in
      let r = goes_forward (move_on (low_of run) (high_of run) under at) runs a b in
      ((omega arith, (a, r.0)), (omega arith, (b, r.1)))

  pub pass_forward : (w : ℕ) (above : List Fence) → Forward (λ s. s.start) (length under) 0 (pass_of w above under) × Forward (λ s. s.end) (length under) 0 (pass_of w above under)
  unfolding pass_of
  pass_forward w above = goes_forward at_start (fence_runs w above) (omega arith) (omega arith)

  -- "once over both lists": each end moves at most once over each of the n blocks below
  pub pass_moves : (w : ℕ) (above : List Fence) → (moves_in (λ s. s.start) 0 (pass_of w above under) ≤ length under) × (moves_in (λ s. s.end) 0 (pass_of w above under) ≤ length under)
  pass_moves w above =
      let f = pass_forward w above in (
        omega (arith, forward_moves (λ s. s.start) (length under) 0 (pass_of w above under) (omega arith) f.0),
        omega (arith, forward_moves (λ s. s.end) (length under) 0 (pass_of w above under) (omega arith) f.1),
      )

  comparisons_from_lem : (at : Stretch) (runs : List (List Fence))
      → comparisons_from at under runs ≤ moves_in (λ s. s.start) at.start (pass_from at under runs) + moves_in (λ s. s.end) at.end (pass_from at under runs) + 2 * length runs
  unfolding comparisons_from pass_from moves_in move_on
  comparisons_from_lem at [] = omega arith
  comparisons_from_lem at (run ∷ runs) =
      omega (arith, comparisons_moves (low_of run) (drop at.start (last_keys under)), comparisons_moves (suc (high_of run)) (drop at.end (first_keys under)), comparisons_from_lem (move_on (low_of run) (high_of run) under at) runs)

  -- so the pass compares keys at most twice for each block below and twice for each run
  pub pass_comparisons : (w : ℕ) (above : List Fence) → 1 ≤ w → comparisons_in w above under ≤ 2 * length under + 2 * (suc (length above) - w)
  unfolding comparisons_in pass_of
  pass_comparisons w above p =
      let m = pass_moves w above in
      omega (arith, m.0, m.1, comparisons_from_lem at_start (fence_runs w above), runs_length w above p)
