use Prim.Native.Nat.{◌-◌, ◌*◌, ◌≤◌}
use mathlib.Core.Path.{◌≡◌}
use mathlib.Core.List.{◌∷◌, []}
use lib.ListN.{take, drop}
use Rattle.shares.specs.Shadow.{known_in, number}
use Rattle.shares.proofs.bits_of.Given as goal

abbrev pub invariant-loop-k : goal.invariant-loop-k
invariant-loop-k l = (l.k ≤ l.n) × (l.bits ≡ 2 * number (known_in (l.x ∷ []) (take l.k (drop l.at l.s))))

abbrev pub decreases-loop-k : goal.decreases-loop-k
decreases-loop-k l = l.n - l.k
