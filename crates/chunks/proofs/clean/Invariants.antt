use Prim.Native.Nat.{◌≤◌, ◌+◌, ◌-◌}
use mathlib.Core.Path.{◌≡◌}
use mathlib.Core.Bool.{◌&&◌}
use Rattle.chunks.specs.Chunks.{clean_of}
use Rattle.chunks.proofs.clean.Given as goal

abbrev pub invariant-loop-pay : goal.invariant-loop-pay
invariant-loop-pay l = (l.pay-index ≤ l.fn.count) × ((l.ok && clean_of l.s l.m (l.fn.pays + l.pay-index) (l.fn.count - l.pay-index)) ≡ clean_of l.s l.marks l.fn.pays l.fn.count)

abbrev pub decreases-loop-pay : goal.decreases-loop-pay
decreases-loop-pay l = l.fn.count - l.pay-index
