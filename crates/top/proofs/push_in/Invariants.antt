use Prim.Native.Nat.{◌≤◌, ◌-◌}
use mathlib.Core.Path.{◌≡◌}
use lib.ListN.{get_or}
use Rattle.words.specs.Stores.{top_slots}
use Rattle.words.proofs.Slots.{blank_rec}
use Rattle.top.specs.Top.{rec_of}
use Rattle.top.proofs.Lists.{pushed_in}
use Rattle.top.proofs.Pushing.{pushing}
use Rattle.top.proofs.push_in.Given as goal

abbrev pub invariant-loop-n : goal.invariant-loop-n
invariant-loop-n l = (l.i ≤ l.n) × ((l.n ≤ l.end) × ((l.s ≡ pushing l.z l.initial.s l.i (rec_of l.initial.carried) l.n) × (rec_of l.carried ≡ get_or (pushed_in l.i (rec_of l.initial.carried) (top_slots l.z l.initial.s)) l.n blank_rec)))

abbrev pub decreases-loop-n : goal.decreases-loop-n
decreases-loop-n l = l.end - l.n
