use Prim.Native.Nat.{◌-◌, ◌≤◌, ◌<◌}
use mathlib.Core.Path.{◌≡◌}
use lib.ListN.{length}
use Rattle.directory.specs.Directory.{chunk_at}
use Rattle.shares.specs.Shadow.{Begun}
use Rattle.shares.proofs.Hiding.{Left}
use Rattle.shares.proofs.hide_by.Given as goal

abbrev pub invariant-loop-i : goal.invariant-loop-i
invariant-loop-i l = (l.i ≤ l.up.chunks) × (Left l.s l.up l.low l.initial.gone l.gone l.i × ((l.i < l.up.chunks → Begun l.s l.low l.t (chunk_at l.s l.up l.i)) × (length l.gone ≡ length l.initial.gone)))

abbrev pub decreases-loop-i : goal.decreases-loop-i
decreases-loop-i l = l.up.chunks - l.i
