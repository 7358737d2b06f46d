use mathlib.Core.Path.{refl}
use native.Mathlib.Omega.{arith}
use Rattle.dialogue.proofs.Feeding.{end_feeds, byte_feeds}
use borrow.Author.Rules.{rules}
use Rattle.dialogue.proofs.hear.Goals as goal

pub returns-then-byte-eq10 : goal.returns-then-byte-eq10
returns-then-byte-eq10 c =
    let a = c.answer.ensures in
    (a.1.session.tickets, (a.1.session.fits, (a.0, end_feeds _ _ _ _ _ _ _ _ c.if-byte-eq10.true (rw (← c.line-line.ensures) a.1))))

pub returns : goal.returns
returns c = (refl, (c.requires.1.1.0, (omega arith, rw c.take-reading.ensures (byte_feeds _ _ _ _ _ c.if-byte-eq10.false (omega (arith, c.requires.1.1.1))))))
