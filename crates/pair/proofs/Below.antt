-- Steps 3 and 4 for the chosen run: the merge by numbers is that of the cut which document 01 makes.
use Prim.Native.Nat.{ℕ, ◌+◌, ◌-◌, ◌≤◌}
use mathlib.Core.Path.{◌≡◌, ◌∙◌}
use mathlib.Core.Bool.{Bool}
use mathlib.Core.List.{List, map}
use native.Mathlib.Omega.{arith}
use lib.ListN.{length, take, drop}
use Rattle.levels.specs.Record.{Level}
use Rattle.levels.specs.Choose.{choose, cut_at}
use Rattle.levels.specs.Merge.{merge}
use Rattle.levels.proofs.Cut.{cut_run}
use Rattle.choice.specs.Fences.{Ordered, fence_of}
use Rattle.merging.specs.Contract.{blocks_of, run_of, merge_of}
use Rattle.pair.specs.declared.Picked.{Picked}
use Rattle.pair.specs.Contract.{meets_at, Chosen}
use Rattle.pair.proofs.Chosen.{ends_in_order, ends_inside, before_is, over_is, behind_is}
use Rattle.pair.proofs.Merges.{merge_is}
use Rattle.layout.specs.declared.Layout.{Layout}

module _ (w : ℕ) (above under : Level) (r : Picked) (k : Chosen w above under r) (oa : Ordered 0 (map fence_of above)) (ou : Ordered 0 (map fence_of under)) (p : 1 ≤ w) (h : w ≤ length above) where
  pub run_is : (cut_at w (choose w above under).at above under).run ≡ take w (drop r.first above)
  run_is = rw (← k.first) (cut_run w r.first above under)

  pub met_merge : (z : Layout) (ws xs lists : List ℕ) (at n : ℕ) (pages bottom : Bool) → at + n ≤ length lists → length under ≡ n
      → run_of pages z ws xs r.first w ≡ take w (drop r.first above) → blocks_of z ws lists at n ≡ under → let c = cut_at w (choose w above under).at above under in
      merge_of z ws xs lists (meets_at w at n pages bottom r) ≡ merge z.geo.b bottom c.before c.run c.over c.behind
  met_merge z ws xs lists at n pages bottom l lu er eu =
      let x : r.first + w - r.first ≡ w = omega arith in
      let m : r.end ≤ n = rw lu at (ends_inside w above under r k oa ou p h) in
      merge_is z ws xs lists r.first (r.first + w) at r.start r.end n pages bottom (take w (drop r.first above)) under (ends_in_order w above under r k oa ou p h) m l (rw x er) eu
      ∙ rw (run_is, before_is w above under r k oa ou p h, over_is w above under r k oa ou p h, behind_is w above under r k oa ou p h)
