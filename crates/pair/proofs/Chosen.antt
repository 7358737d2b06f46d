-- The run that is chosen, and where it meets the level below.
use Prim.Native.Nat.{ℕ, ◌+◌, ◌-◌, ◌≤◌}
use mathlib.Core.Path.{◌≡◌, sym, ap, ◌∙◌}
use mathlib.Core.List.{List, map}
use native.Mathlib.Omega.{arith}
use lib.ListN.{length, take, drop, length-map}
use lib.Seq.{length-take-le}
use Rattle.levels.specs.Record.{Level}
use Rattle.levels.specs.Choose.{Least, choose, cut_at}
use Rattle.levels.proofs.Cut.{cut_lengths}
use Rattle.words.specs.Stores.{block_at}
use Rattle.choice.specs.declared.Choice.{Choice}
use Rattle.choice.specs.declared.Stretch.{Stretch}
use Rattle.choice.specs.declared.Fence.{Fence}
use Rattle.choice.specs.Fences.{Ordered, fence_of, choose_fences, choice_of, with_stretch, stretch_of}
use Rattle.fences.specs.Reading.{fill, listed_fence}
use Rattle.choice.proofs.Levels.{choose_fences_lem, choice_fences}
use Rattle.choice.proofs.Choose.{chosen_inside, chosen_overlap}
use Rattle.choice.proofs.Cut.{cut_before, cut_over, cut_behind, cut_start, cut_end}
use Rattle.fences.proofs.Words.{listed_fences}
use Rattle.pair.specs.declared.Picked.{Picked}
use Rattle.pair.specs.Contract.{Chosen, Readables}
use Rattle.layout.specs.declared.Layout.{Layout}

-- what is found by fences is the choice by blocks
pub picked : (w : ℕ) (c : Choice) (fs gs : List Fence) → c ≡ choice_of (choose_fences w fs gs) → (above under : Level) → fs ≡ map fence_of above → gs ≡ map fence_of under
    → Chosen w above under (record { first = c.first; overlap = c.overlap; start = c.below.start; end = c.below.end })
picked w c fs gs e above under ea eu =
    let d : c ≡ choice_of (with_stretch w (map fence_of above) (map fence_of under) (choose w above under)) = e ∙ rw (ea, eu) (choice_fences w above under) in
    let first : c.first ≡ (choose w above under).at = ap (λ (x : Choice). x.first) d in
    record {
      first = first;
      overlap = ap (λ (x : Choice). x.overlap) d;
      stretch = ap (λ (x : Choice). x.below) d ∙ ap (λ (k : ℕ). stretch_of (take w (drop k (map fence_of above))) (map fence_of under)) (sym first);
    }

-- a list filled with the fences of the blocks of a place list
module _ (z : Layout) (ws list : List ℕ) (k : Readables z ws list) (xs fences : List Fence) (e : fences ≡ fill (listed_fence z ws list) (length list) xs) where
  pub listed_are : take (length list) fences ≡ map fence_of (map (block_at z ws) list)
  listed_are = listed_fences z ws list xs fences e

  pub listed_high : (w : ℕ) → w ≤ length list → length list ≤ length fences → w ≤ length (take (length list) fences)
  listed_high w l h = omega (arith, length-take-le (length list) fences h)

  pub listed_ordered : Ordered 0 (take (length list) fences)
  listed_ordered = rw listed_are k.ordered

-- What a chosen run has, of two levels in key order.
module _ (w : ℕ) (above under : Level) (r : Picked) (k : Chosen w above under r) (oa : Ordered 0 (map fence_of above)) (ou : Ordered 0 (map fence_of under)) (p : 1 ≤ w) (h : w ≤ length above) where
  fits : w ≤ length (map fence_of above)
  fits = rw (length-map above fence_of) h

  at_fences : (choose_fences w (map fence_of above) (map fence_of under)).run.at ≡ r.first
  at_fences = sym (k.first ∙ ap (λ (l : Least). l.at) (choose_fences_lem w above under))

  pub run_inside : r.first + w ≤ length above
  run_inside = rw (at_fences, length-map above fence_of) at (chosen_inside w (map fence_of above) (map fence_of under) p fits)

  abbrev below : Stretch
  below = record { start = r.start; end = r.end }

  starts_at : length (cut_at w r.first above under).before ≡ r.start
  starts_at = cut_start w r.first above under ou below k.stretch

  ends_at : length (cut_at w r.first above under).before + length (cut_at w r.first above under).over ≡ r.end
  ends_at = cut_end w r.first above under ou below k.stretch oa p run_inside

  pub ends_in_order : r.start ≤ r.end
  ends_in_order = omega (arith, starts_at, ends_at)

  pub ends_inside : r.end ≤ length under
  ends_inside = omega (arith, ends_at, (cut_lengths w r.first above under).1)

  -- the length of Y is the overlap
  pub overlap_is : r.end - r.start ≡ (choose w above under).value
  overlap_is =
      ap (λ (s : Stretch). s.end - s.start) k.stretch
      ∙ sym (ap (λ (l : Least). l.value) (choose_fences_lem w above under) ∙ rw at_fences at (chosen_overlap w (map fence_of above) (map fence_of under) p fits ou))

  -- the parts of the level below
  pub before_is : (cut_at w (choose w above under).at above under).before ≡ take r.start under
  before_is = rw (← k.first) (cut_before w r.first above under ou below k.stretch)

  pub over_is : (cut_at w (choose w above under).at above under).over ≡ take (r.end - r.start) (drop r.start under)
  over_is = rw (← k.first) (cut_over w r.first above under ou below k.stretch)

  pub behind_is : (cut_at w (choose w above under).at above under).behind ≡ drop r.end under
  behind_is = rw (← k.first) (cut_behind w r.first above under ou below k.stretch oa p run_inside)
