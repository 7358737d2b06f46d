use Prim.Native.Nat.{◌-◌, ◌*◌, ◌%◌, ◌≤◌, ◌<◌, ℕ}
use mathlib.Core.Path.{◌≡◌}
use lib.ListN.{length, get_or}
use Rattle.directory.specs.Directory.{chunk_at}
use Rattle.shares.proofs.begin.Given as goal

abbrev pub invariant-loop-i : goal.invariant-loop-i
invariant-loop-i l =
    (l.i ≤ l.dir.chunks) × ((length l.starts ≡ length l.initial.starts) × ((length l.gone ≡ length l.initial.gone) × (((j : ℕ) → j < l.i → get_or l.starts j 0 ≡ (chunk_at l.s l.dir j).keys) × ((j : ℕ) → j < l.i → get_or l.gone j 0 ≡ (chunk_at l.s l.dir j).marks % 65536 * 2))))

abbrev pub decreases-loop-i : goal.decreases-loop-i
decreases-loop-i l = l.n - l.i
