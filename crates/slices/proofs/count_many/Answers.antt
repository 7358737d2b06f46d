use Rattle.std.proofs.Common.{arith, ltb, rules}
use Rattle.std.proofs.lemmas.List.Sorted.{IsPartitionPoint-from_clause}
use Rattle.slices.proofs.Ranks.{rising_parted, parted_count}
use Rattle.slices.proofs.count_many.Goals as goal

pub returns : goal.returns
returns c =
    let k = c.args.k in
    let keys = c.args.keys.now in
    let parted = rising_parted k keys c.requires in
    let e = c.partition_point.ensures in
    let p = parted_count k keys c.requires _ e.bound (IsPartitionPoint-from_clause (λ y. ltb y k) keys _ e.partitioned parted (λ a r q h. search rules)) in
    omega (arith, p, e.bound)
