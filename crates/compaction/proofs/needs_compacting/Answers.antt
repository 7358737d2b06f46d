use native.Mathlib.Omega.{arith}
use mathlib.Core.Path.{◌∙◌}
use lib.ListN.{length}
use Rattle.compaction.proofs.Counting.{summable, needs_is, sum_high}
use Rattle.compaction.proofs.needs_compacting.Goals as goal

pub record_sum-records-requires : goal.record_sum-records-requires
record_sum-records-requires c = rw c.of-o.ensures (summable c.args.z c.args.s.now c.args.list.now c.requires)

pub is_wasteful-requires : goal.is_wasteful-requires
is_wasteful-requires c =
    let a = c.args in
    let k = summable a.z a.s.now a.list.now c.requires in
    let l = k.sized.b_low in
    rw (c.record_sum-records.ensures, c.of-o.ensures) (omega arith, k.sized.b_high, c.requires.few, sum_high _ _ _ (length a.list.now) k.high)

pub returns : goal.returns
returns c = c.is_wasteful.ensures ∙ rw (c.record_sum-records.ensures, c.of-o.ensures) (needs_is c.args.z c.args.s.now c.args.list.now c.requires)
