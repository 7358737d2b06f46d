use native.Mathlib.Omega.{arith}
use borrow.Author.Tests.{le-leb, lt-leb}
use Rattle.words.specs.Form.{room_of}
use Rattle.form.proofs.room_of.Goals as goal

pub returns-then-i-h : goal.returns-then-i-h
unfolding room_of
returns-then-i-h c = rw (le-leb c.args.i c.args.g.h (omega (arith, c.levels-h.ensures, c.if-i-h.true))) c.capacity.ensures

pub returns : goal.returns
unfolding room_of
returns c = rw (lt-leb c.args.i c.args.g.h (omega (arith, c.levels-h.ensures, c.if-i-h.false)))
