-- Where both ends stand at a run, by the fences that the code reads: the first of the run and its last.
use Prim.Native.Nat.{ℕ, zero, suc, ◌+◌, ◌-◌, ◌≤◌, ◌<◌}
use mathlib.Core.Path.{◌≡◌, refl, ap, ◌∙◌, subst}
use mathlib.Core.List.{List, [], ◌∷◌}
use native.Mathlib.Omega.{arith}
use lib.ListN.{length, get_or, take, drop, length-map, length-drop}
use lib.Seq.{drop-cons, length-take-le}
use Rattle.std.proofs.lemmas.List.{get_or-drop}
use Rattle.choice.specs.declared.Stretch.{Stretch}
use Rattle.choice.specs.Pass.{moves_of, move_on, AtRun, NotPast}
use Rattle.choice.specs.declared.Fence.{Fence}
use Rattle.choice.specs.Fences.{Ordered, low_of, high_of, first_keys, last_keys, stretch_of}
use Rattle.levels.proofs.Lists.{map_drop}
use Rattle.slices.proofs.Ranks.{count_high}
use Rattle.choice.proofs.Order.{ordered_drop, ordered_take, stretch_order}
use Rattle.choice.proofs.Once.{run_at}
use Rattle.choice.proofs.Pass.{at_run, at_stretch, next_run}

-- a run of w neighbours begins with the first key of its first block and ends with the last key of its last one
pub low_at : (fs : List Fence) (d : Fence) (i w : ℕ) → 1 ≤ w → i + w ≤ length fs → low_of (run_at w i fs) ≡ (get_or fs i d).first
unfolding low_of
low_at [] d i w p h = absurd (omega arith)
low_at (f ∷ fs) d zero zero p h = absurd (omega arith)
low_at (f ∷ fs) d zero (suc w) p h = refl
low_at (f ∷ fs) d (suc i) w p h = low_at fs d i w p (omega arith)

last_at : (fs : List Fence) (d : Fence) (w : ℕ) → w < length fs → high_of (take (suc w) fs) ≡ (get_or fs w d).last
unfolding high_of
last_at [] d w h = absurd (omega arith)
last_at (f ∷ fs) d zero h = refl
last_at (f ∷ []) d (suc w) h = absurd (omega arith)
last_at (f ∷ e ∷ fs) d (suc w) h = last_at (e ∷ fs) d w (omega arith)

pub high_at : (fs : List Fence) (d : Fence) (i w : ℕ) → 1 ≤ w → i + w ≤ length fs → high_of (run_at w i fs) ≡ (get_or fs (i + w - 1) d).last
high_at fs d i zero p h = absurd (omega arith)
high_at fs d i (suc w) p h =
    let e : i + w ≡ i + suc w - 1 = omega arith in
    last_at (drop i fs) d w (omega (arith, length-drop i fs)) ∙ ap (λ (f : Fence). f.last) (get_or-drop i fs w d) ∙ ap (λ (j : ℕ). (get_or fs j d).last) e

-- The pass over the blocks below.
module _ (under : List Fence) (k : Ordered 0 under) where
  -- ends that have not passed the run's stand in the level
  pub ends_room : (lo hi : ℕ) (at : Stretch) → NotPast lo hi under at → (at.start ≤ length under) × (at.end ≤ length under)
  ends_room lo hi at q = (
    omega (arith, q.lower, count_high lo (last_keys under), length-map under (λ (f : Fence). f.last)),
    omega (arith, q.upper, count_high (suc hi) (first_keys under), length-map under (λ (f : Fence). f.first)),
  )

  -- both ends moved forward by their loops are where the pass has them
  pub ends_moved : (lo hi s e : ℕ) (at : Stretch) → NotPast lo hi under at → s ≡ moves_of lo (last_keys (drop at.start under)) → e ≡ moves_of (suc hi) (first_keys (drop at.end under))
      → AtRun lo hi under at (record { start = at.start + s; end = at.end + e })
  unfolding move_on
  ends_moved lo hi s e at q ds de =
      let same : ◌≡◌ {A = Stretch} (record { start = at.start + s; end = at.end + e }) (move_on lo hi under at) =
      rw (ds, de, map_drop (λ (f : Fence). f.last) at.start under, map_drop (λ (f : Fence). f.first) at.end under) in
      rw same (at_run lo hi under at k q)

  -- at a run they are what a search would find, and the lower one does not stand behind the upper one
  module _ (above : List Fence) (w : ℕ) (p : 1 ≤ w) (o : Ordered 0 above) (d : Fence) where
    pub stretch_here : (i : ℕ) (before at : Stretch) → i + w ≤ length above → AtRun (get_or above i d).first (get_or above (i + w - 1) d).last under before at → at ≡ stretch_of (run_at w i above) under
    stretch_here i before at h r = at_stretch (run_at w i above) under before at (rw (low_at above d i w p h, high_at above d i w p h) r)

    pub stretch_rises : (i : ℕ) (at : Stretch) → i + w ≤ length above → at ≡ stretch_of (run_at w i above) under → at.start ≤ at.end
    stretch_rises i at h e =
        let n : 1 ≤ length (run_at w i above) = omega (arith, p, length-take-le w (drop i above) (omega (arith, length-drop i above))) in
        rw e (stretch_order (run_at w i above) under (ordered_take 0 w (drop i above) (ordered_drop 0 i above o)) n k)

    -- the ends of a run have not passed those of the next one, which is run i
    pub before_next : (i : ℕ) (at : Stretch) → 1 ≤ i → i + w ≤ length above → at ≡ stretch_of (run_at w (i - 1) above) under → NotPast (get_or above i d).first (get_or above (i + w - 1) d).last under at
    before_next zero at l h e = absurd (omega arith)
    before_next (suc i) at l h e =
        let b : suc i - 1 ≡ i = omega arith in
        let c : drop i above ≡ get_or above i d ∷ drop (suc i) above = drop-cons above i d (omega arith) in
        let a : Ordered 0 (get_or above i d ∷ drop (suc i) above) = subst (Ordered 0) c (ordered_drop 0 i above o) in
        let q = next_run 0 w (get_or above i d) (drop (suc i) above) under a p (omega (arith, length-drop (suc i) above)) in
        rw (e, b, ← low_at above d (suc i) w p h, ← high_at above d (suc i) w p h, c) q
