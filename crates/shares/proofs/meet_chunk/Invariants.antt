use Prim.Native.Nat.{◌-◌, ◌*◌, ◌≤◌}
use mathlib.Core.Path.{◌≡◌}
use lib.ListN.{take, drop}
use Rattle.shares.specs.Shadow.{known_in, number, keys_in}
use Rattle.shares.proofs.meet_chunk.Given as goal

abbrev pub invariant-loop-l : goal.invariant-loop-l
invariant-loop-l l = (l.l ≤ l.count) × (l.bits ≡ 2 * number (known_in (keys_in l.s l.up) (take l.l (drop l.at l.s))))

abbrev pub decreases-loop-l : goal.decreases-loop-l
decreases-loop-l l = l.count - l.l
