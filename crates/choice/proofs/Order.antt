-- Fences of blocks in key order: the overlap of a run is the distance of the two ends that its keys have among them.
use Prim.Native.Nat.{ℕ, zero, suc, ◌-◌, ◌≤◌}
use mathlib.Core.Path.{◌≡◌, refl}
use mathlib.Core.Bool.{Bool, true, false, ◌&&◌}
use mathlib.Core.List.{List, [], ◌∷◌}
use native.Mathlib.Omega.{arith}
use lib.Dec.{leb, ltb}
use lib.ListN.{length, take, drop}
use borrow.Author.Tests.{leb-true, leb-false, ltb-true, ltb-false}
use Rattle.slices.specs.Ranks.{Rising, count_below}
use Rattle.levels.specs.Basics.{if◌then◌otherwise◌}
use Rattle.choice.specs.declared.Fence.{Fence}
use Rattle.choice.specs.Fences.{Ordered, low_of, high_of, count_over, fence_overlap, count_at_most, first_keys, last_keys, stretch_of}
use Rattle.slices.proofs.Ranks.{count_in, count_out, count_none, rising_weak}

pub lasts_rise : (low : ℕ) (fs : List Fence) → Ordered low fs → Rising low (last_keys fs)
lasts_rise low [] o = tt
lasts_rise low (f ∷ fs) o = (omega arith, lasts_rise (suc f.last) fs o.1.1)

pub firsts_rise : (low : ℕ) (fs : List Fence) → Ordered low fs → Rising low (first_keys fs)
firsts_rise low [] o = tt
firsts_rise low (f ∷ fs) o = (o.0, rising_weak (suc f.first) (suc f.last) (first_keys fs) (omega arith) (firsts_rise (suc f.last) fs o.1.1))

-- the overlap of a run is the number of blocks that do not start above it, less those that end below it
pub overlap_is : (lo hi low : ℕ) (fs : List Fence) → Ordered low fs → count_over lo hi fs ≡ count_at_most hi (first_keys fs) - count_below lo (last_keys fs)
unfolding count_over count_below
overlap_is lo hi low [] o = omega arith
overlap_is lo hi low (f ∷ fs) o =
    go (leb lo f.last) (leb f.first hi) refl refl (overlap_is lo hi (suc f.last) fs o.1.1)
  where
    none_end : lo ≤ suc f.last → count_below lo (last_keys fs) ≡ 0
    none_end h = count_none lo (suc f.last) (last_keys fs) (lasts_rise (suc f.last) fs o.1.1) h

    none_start : hi ≤ f.last → count_at_most hi (first_keys fs) ≡ 0
    none_start h = count_none (suc hi) (suc f.last) (first_keys fs) (firsts_rise (suc f.last) fs o.1.1) (omega arith)

    go : (t u : Bool) → leb lo f.last ≡ t → leb f.first hi ≡ u
        → count_over lo hi fs ≡ count_at_most hi (first_keys fs) - count_below lo (last_keys fs)
        → (if t && u then suc (count_over lo hi fs) otherwise count_over lo hi fs) ≡ count_at_most hi (first_keys (f ∷ fs)) - count_below lo (last_keys (f ∷ fs))
    go true true e d ih =
        let p = leb-true lo f.last e in
        let q = leb-true f.first hi d in
        rw (count_out lo f.last (last_keys fs) p, count_in (suc hi) f.first (first_keys fs) (omega arith))
        (omega (arith, none_end (omega arith)))
    go true false e d ih =
        let p = leb-true lo f.last e in
        let q = leb-false f.first hi d in
        rw (count_out lo f.last (last_keys fs) p, count_out (suc hi) f.first (first_keys fs) q)
        ih
    go false true e d ih =
        let p = leb-false lo f.last e in
        let q = leb-true f.first hi d in
        rw (count_in lo f.last (last_keys fs) p, count_in (suc hi) f.first (first_keys fs) (omega arith))
        (omega arith)
    go false false e d ih =
        let p = leb-false lo f.last e in
        let q = leb-false f.first hi d in
        rw (count_in lo f.last (last_keys fs) p, count_out (suc hi) f.first (first_keys fs) q)
        (omega (arith, none_start (omega arith)))

-- the blocks that end below a run are among those that do not start above it
counts_order : (lo hi low : ℕ) (fs : List Fence) → Ordered low fs → lo ≤ hi → count_below lo (last_keys fs) ≤ count_at_most hi (first_keys fs)
unfolding count_below
counts_order lo hi low [] o h = omega arith
counts_order lo hi low (f ∷ fs) o h = go (ltb f.last lo) refl (counts_order lo hi (suc f.last) fs o.1.1 h)
  where
    go : (t : Bool) → ltb f.last lo ≡ t → count_below lo (last_keys fs) ≤ count_at_most hi (first_keys fs) → count_below lo (last_keys (f ∷ fs)) ≤ count_at_most hi (first_keys (f ∷ fs))
    go true e ih =
        let p = ltb-true f.last lo e in
        rw (count_in lo f.last (last_keys fs) p, count_in (suc hi) f.first (first_keys fs) (omega arith)) (omega arith)
    go false e ih =
        let p = ltb-false f.last lo e in
        let z = count_none lo (suc f.last) (last_keys fs) (lasts_rise (suc f.last) fs o.1.1) (omega arith) in
        rw (count_out lo f.last (last_keys fs) p, z) (omega arith)

-- a run starts no later than it ends
pub run_order : (low : ℕ) (fs : List Fence) → Ordered low fs → 1 ≤ length fs → low_of fs ≤ high_of fs
unfolding low_of high_of
run_order low [] o h = absurd (omega arith)
run_order low (f ∷ []) o h = o.1.0
run_order low (f ∷ e ∷ fs) o h = omega (arith, run_order (suc f.last) (e ∷ fs) o.1.1 (omega arith), o.0, o.1.0, o.1.1.0)

-- the stretch below a run does not end before it starts
pub stretch_order : (run under : List Fence) → Ordered 0 run → 1 ≤ length run → Ordered 0 under → (stretch_of run under).start ≤ (stretch_of run under).end
unfolding stretch_of
stretch_order run under o h u = counts_order (low_of run) (high_of run) 0 under u (run_order 0 run o h)

-- the overlap of a run is the length of the stretch below it
pub overlap_stretch : (run under : List Fence) → Ordered 0 under → fence_overlap under run ≡ (stretch_of run under).end - (stretch_of run under).start
unfolding stretch_of fence_overlap
overlap_stretch run under u = overlap_is (low_of run) (high_of run) 0 under u

ordered_weak : (low high : ℕ) (fs : List Fence) → low ≤ high → Ordered high fs → Ordered low fs
ordered_weak low high [] h o = tt
ordered_weak low high (f ∷ fs) h o = (omega arith, o.1)

pub ordered_drop : (low n : ℕ) (fs : List Fence) → Ordered low fs → Ordered low (drop n fs)
ordered_drop low zero fs o = o
ordered_drop low (suc n) [] o = tt
ordered_drop low (suc n) (f ∷ fs) o = ordered_weak low (suc f.last) (drop n fs) (omega arith) (ordered_drop (suc f.last) n fs o.1.1)

pub ordered_take : (low n : ℕ) (fs : List Fence) → Ordered low fs → Ordered low (take n fs)
ordered_take low zero fs o = tt
ordered_take low (suc n) [] o = tt
ordered_take low (suc n) (f ∷ fs) o = (o.0, (o.1.0, ordered_take (suc f.last) n fs o.1.1))
