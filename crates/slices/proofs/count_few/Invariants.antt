use Rattle.std.proofs.Common.{◌≡◌, ◌≤◌, take}
use Rattle.slices.specs.Ranks.{count_below}
use Rattle.slices.proofs.count_few.Given as goal

abbrev pub invariant-loop-key : goal.invariant-loop-key
invariant-loop-key l = (l.below ≤ l.key-index) × (l.below ≡ count_below l.k (take l.key-index l.keys))
