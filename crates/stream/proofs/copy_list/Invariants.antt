use mathlib.Core.Path.{◌≡◌}
use lib.ListN.{take, drop}
use Rattle.slices.specs.Slices.{put_at}
use Rattle.stream.proofs.copy_list.Given as goal

abbrev pub invariant-loop-i : goal.invariant-loop-i
invariant-loop-i l = l.out ≡ put_at l.to (take l.i (drop l.from l.list)) l.initial.out
