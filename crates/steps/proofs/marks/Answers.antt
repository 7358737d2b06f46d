use native.Mathlib.Numerals.{add-one}
use native.Mathlib.Omega.{arith}
use Rattle.steps.proofs.Marking.{marks_first, marks_low, marks_more, marks_are}
use Rattle.steps.proofs.marks.Goals as goal

pub loop-i-init : goal.loop-i-init
loop-i-init c = (omega arith, rw c.requires.0 marks_first)

pub entries-list-requires : goal.entries-list-requires
entries-list-requires c = let p = c.requires.1 in (omega (arith, c.loop-i-test.true), (p.high, (rw add-one (p.fit _ c.loop-i-test.true), p.long)))

pub mark_listed-requires : goal.mark_listed-requires
mark_listed-requires c = marks_low _ _ _ c.requires.1 c.loop-i.i c.loop-i-test.true _ c.entries-list.ensures

pub loop-i-preserved : goal.loop-i-preserved
loop-i-preserved c = (omega (arith, c.loop-i-test.true), marks_more _ _ _ c.requires.1 c.loop-i.i c.loop-i-test.true _ c.entries-list.ensures _ _ c.loop-i.invariant.1 c.mark_listed.ensures)

pub returns : goal.returns
returns c = marks_are _ _ _ c.loop-i.i c.loop-i.used (omega (arith, c.loop-i.invariant.0, c.loop-i-test.false)) c.loop-i.invariant.1
