use Prim.Native.Nat.{◌-◌, ◌≤◌}
use mathlib.Core.Path.{◌≡◌}
use lib.ListN.{length, take, drop}
use Rattle.shares.specs.Shares.{hide}
use Rattle.shares.specs.Shadow.{shadow}
use Rattle.shares.proofs.hide_chunk.Given as goal

abbrev pub invariant-loop-l : goal.invariant-loop-l
invariant-loop-l l = (l.l ≤ l.count) × ((shadow l.s l.low l.gone ≡ hide (take l.l (drop l.at l.s)) (shadow l.s l.low l.initial.gone)) × (length l.gone ≡ length l.initial.gone))

abbrev pub decreases-loop-l : goal.decreases-loop-l
decreases-loop-l l = l.count - l.l
