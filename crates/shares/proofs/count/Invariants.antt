use lib.ListN.{length}
use mathlib.Core.Path.{◌≡◌}
use Rattle.shares.proofs.Levels.{Counted}
use Rattle.shares.proofs.count.Given as goal

abbrev pub invariant-loop-i : goal.invariant-loop-i
invariant-loop-i l = (length l.starts ≡ length l.initial.starts) × ((length l.gone ≡ length l.initial.gone) × Counted l.s l.fn.levels l.i l.total)
