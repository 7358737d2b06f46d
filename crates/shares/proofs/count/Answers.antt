use Rattle.std.proofs.Common.{rules}
use native.Mathlib.Omega.{arith}
use mathlib.Core.Path.{◌≡◌, ◌∙◌}
use lib.ListN.{length}
use Rattle.shares.proofs.Levels.{counted_level, counted_empty, counted_all}
use Rattle.shares.proofs.count.Goals as goal
use Rattle.shares.proofs.count.Goals.{then-low-gt0, else-low-gt0}

pub loop-i-preserved : goal.loop-i-preserved
loop-i-preserved c =
    let i = c.loop-i.invariant in
    let t = c.loop-i-test.true in
    let n : length c.args.levels ≡ 4 = search rules in
    elim c.if-low-gt0.branch [
      | then-low-gt0 w ↦
          rw (w.starts-is, w.gone-is, w.total-is)
          (w.under.auto.starts ∙ i.0, (w.under.auto.gone ∙ i.1.0, counted_level _ _ _ _ i.1.1 (omega (arith, n, t)) _ _ w.shown-total.ensures.1 _ w.shown-total.ensures.0 (search (rules, w.under.ensures))))
      | else-low-gt0 w ↦ rw (w.starts-is, w.gone-is, w.total-is) (i.0, (i.1.0, counted_empty _ _ _ _ i.1.1 (omega (arith, n, t)) _ w.if-low-gt0.false))
    ]

pub returns : goal.returns
returns c =
    let n : length c.args.levels ≡ 4 = search rules in
    counted_all _ _ _ _ c.loop-i.invariant.1.1 (omega (arith, n, c.loop-i-test.false)) c.requires.0
