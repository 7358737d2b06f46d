use Rattle.std.proofs.Common.{ℕ, ◌<◌, ap, length, take, length-take, arith}
use native.Mathlib.Nat.{min-le_right}
use Rattle.lines.proofs.Print.{printed_as}
use Rattle.dialogue.proofs.Tickets.{row_four, row_line, shows_none, shows_more, shows_all}
use Rattle.dialogue.proofs.print_tickets.Goals as goal

pub loop-row-init : goal.loop-row-init
loop-row-init c = shows_none _ _ _ (omega (arith, c.requires))

pub print_line-end-requires : goal.print_line-end-requires
print_line-end-requires c =
    let l = row_four c.args.rows.now c.min.result c.loop-row.row-index c.told-rows c.loop-row-test.true in
    let s = c.loop-row.invariant in
    let k : c.loop-row.row-index < length c.args.rows.now = omega (arith, c.loop-row-test.true, length-take c.min.result c.args.rows.now, min-le_right c.min.result (length c.args.rows.now)) in
    omega (arith, l, k, s.ends, c.loop-row.auto.out, c.requires)

pub loop-row-preserved : goal.loop-row-preserved
loop-row-preserved c =
    let l = row_four c.args.rows.now c.min.result c.loop-row.row-index c.told-rows c.loop-row-test.true in
    shows_more _ _ _ _ _ _ _ _ c.loop-row-test.true (printed_as _ _ _ _ _ _ _ (row_line _ l) (omega (arith, l)) c.print_line-end.ensures) c.loop-row.invariant

pub returns : goal.returns
returns c = shows_all _ _ _ _ _ _ _ _ (ap (λ (k : ℕ). take k c.args.rows.now) c.min.ensures) (omega arith) c.loop-row.invariant
