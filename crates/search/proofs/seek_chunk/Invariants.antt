use Prim.Native.Nat.{◌≤◌, ◌<◌, ◌-◌}
use Rattle.search.specs.Search.{first_at}
use Rattle.search.proofs.seek_chunk.Given as goal

abbrev pub invariant-loop-lo : goal.invariant-loop-lo
invariant-loop-lo l = (l.lo < l.hi) × ((l.hi ≤ l.dir.chunks) × ((1 ≤ l.lo → first_at l.s l.dir l.lo ≤ l.k) × (l.hi < l.dir.chunks → l.k < first_at l.s l.dir l.hi)))

abbrev pub decreases-loop-lo : goal.decreases-loop-lo
decreases-loop-lo l = l.hi - l.lo
