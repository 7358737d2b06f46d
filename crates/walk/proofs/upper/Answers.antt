use Rattle.std.proofs.Common.{rules}
use native.Mathlib.Omega.{arith}
use mathlib.Core.Path.{◌≡◌}
use lib.ListN.{length}
use Rattle.walk.proofs.Four.{upper_found, upper_next, upper_last}
use Rattle.walk.proofs.upper.Goals as goal

pub returns-then-cur-k : goal.returns-then-cur-k
returns-then-cur-k c =
    let n : length c.args.front.now.upper ≡ 3 = search rules in
    upper_found c.args.k c.args.front.now.upper c.args.front.now.last c.loop-cur.cur-index _ (omega (arith, n, c.loop-cur-test.true)) c.loop-cur.invariant c.if-cur-k.true

pub loop-cur-preserved : goal.loop-cur-preserved
loop-cur-preserved c =
    let n : length c.args.front.now.upper ≡ 3 = search rules in
    upper_next c.args.k c.args.front.now.upper c.args.front.now.last c.loop-cur.cur-index _ (omega (arith, n, c.loop-cur-test.true)) c.loop-cur.invariant c.if-cur-k.false

pub returns : goal.returns
returns c =
    let n : length c.args.front.now.upper ≡ 3 = search rules in
    upper_last c.args.k c.args.front.now.upper c.args.front.now.last c.loop-cur.cur-index (omega (arith, n, c.loop-cur-test.false)) c.loop-cur.invariant
