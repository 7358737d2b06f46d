use native.Mathlib.Omega.{arith}
use Rattle.stream.proofs.Taking.{ahead_row, ahead_some}
use Rattle.stream.proofs.ahead.Goals as goal

pub count_below-requires : goal.count_below-requires
count_below-requires c =
    let p = ahead_row c.args.s.now c.args.a c.args.j c.min-left.result c.requires.1 c.requires.0 (omega arith) in
    (p.0, (p.1, omega arith))

pub returns : goal.returns
returns c = ahead_some _ _ _ _ _ _ _ _ c.requires.1 c.requires.0 (omega arith) (omega arith) c.in-Some.is c.count_below.ensures
