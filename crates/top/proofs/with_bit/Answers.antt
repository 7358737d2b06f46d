use mathlib.Core.Path.{sym}
use native.Mathlib.Omega.{arith}
use Rattle.top.proofs.Marks.{bit_off, bit_comes, bit_goes, bit_kept_on, bit_kept_off, one_bit}
use borrow.Author.Tests.{eq-eqb, ne_eqb}
use Rattle.top.proofs.with_bit.Goals as goal

pub returns-then-was : goal.returns-then-was
returns-then-was c = rw c.if-on.true (sym (bit_kept_on _ _ (eq-eqb _ _ c.if-was.true)))

pub overflow_add-result : goal.overflow_add-result
overflow_add-result c = omega (arith, one_bit _ c.requires.1)

pub returns-then-on : goal.returns-then-on
returns-then-on c = rw c.if-on.true (bit_comes _ _ c.requires.1 (ne_eqb _ _ c.if-was.false))

pub overflow_sub-result : goal.overflow_sub-result
overflow_sub-result c = omega (arith, one_bit c.args.j c.requires.1, bit_off c.args.m c.args.j (eq-eqb _ _ c.if-was-2.true))

pub returns-then-was-2 : goal.returns-then-was-2
returns-then-was-2 c = rw c.if-on.false (bit_goes _ _ c.requires.1 (eq-eqb _ _ c.if-was-2.true))

pub returns : goal.returns
returns c = rw c.if-on.false (sym (bit_kept_off _ _ (ne_eqb _ _ c.if-was-2.false)))
