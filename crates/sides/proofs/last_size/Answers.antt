use borrow.Author.Tests.{eq-eqb, ne_eqb}
use native.Mathlib.Omega.{arith}
use Prim.Native.Nat.{◌<◌, ◌-◌}
use lib.ListN.{get_or}
use Rattle.sides.specs.Sides.{last_size}
use Rattle.blocks.proofs.Laws.{in_store}
use Rattle.sides.proofs.last_size.Goals as goal

pub returns-then-m-eq0 : goal.returns-then-m-eq0
unfolding last_size
returns-then-m-eq0 c = rw (eq-eqb _ _ c.if-m-eq0.true)

pub word-requires : goal.word-requires
word-requires c =
    let h : get_or c.args.out.now (c.args.m - 1) 0 < c.args.z.p = c.requires.2 _ (omega arith) in
    rw c.place_start-at.ensures (omega (arith, in_store c.args.z c.args.s.now c.requires.0 (get_or c.args.out.now (c.args.m - 1) 0) 0 h (omega arith)))

pub returns : goal.returns
unfolding last_size
returns c = rw (ne_eqb _ _ c.if-m-eq0.false, c.word.ensures.0, c.place_start-at.ensures)
