use Prim.Native.Nat.{◌≤◌, ◌+◌, ◌-◌}
use mathlib.Core.Path.{◌≡◌}
use lib.ListN.{length}
use Rattle.choice.specs.Fences.{stretch_of}
use Rattle.choice.proofs.Once.{run_at, pass_at}
use Rattle.choice.proofs.Choose.{choice_among}
use Rattle.choice.proofs.choose_run.Given as goal

-- At run i − 1, the last one looked at, the two ends are where the pass has them; and they are the number of blocks below whose last key is below the
-- run's first key, and the number of those whose first key is not above its last (`stretch_of`).
abbrev pub invariant-loop-i : goal.invariant-loop-i
invariant-loop-i l =
    (1 ≤ l.i)
    × ((l.i ≤ length l.above - l.w + 1)
    × ((l.at ≡ pass_at l.w l.above l.under (l.i - 1))
    × ((l.at ≡ stretch_of (run_at l.w (l.i - 1) l.above) l.under)
    × (l.best ≡ choice_among l.w l.above l.under l.i))))
