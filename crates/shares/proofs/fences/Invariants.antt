use mathlib.Core.Path.{◌≡◌}
use lib.ListN.{length}
use Rattle.shares.proofs.Seating.{Passing}
use Rattle.shares.proofs.fences.Given as goal

abbrev pub invariant-loop-t : goal.invariant-loop-t
invariant-loop-t l = (length l.above ≡ 16) × Passing l.s l.fn.dir l.keys l.last l.from l.t l.above
