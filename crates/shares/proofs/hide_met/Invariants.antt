use Prim.Native.Nat.{◌-◌, ◌≤◌, ◌<◌}
use mathlib.Core.Path.{◌≡◌}
use lib.ListN.{length}
use Rattle.directory.specs.Directory.{chunk_at}
use Rattle.shares.specs.Shadow.{keys_in, Begun}
use Rattle.shares.proofs.Hiding.{Half}
use Rattle.shares.proofs.hide_met.Given as goal

abbrev pub invariant-loop-i : goal.invariant-loop-i
invariant-loop-i l = (l.i ≤ l.low.chunks) × (Half l.s l.low (keys_in l.s l.up) l.initial.gone l.gone l.i × ((l.i < l.low.chunks → Begun l.s l.up l.t (chunk_at l.s l.low l.i)) × (length l.gone ≡ length l.initial.gone)))

abbrev pub decreases-loop-i : goal.decreases-loop-i
decreases-loop-i l = l.low.chunks - l.i
