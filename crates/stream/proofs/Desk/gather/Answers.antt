use borrow.Author.Tests.{le-leb, lt-leb}
use mathlib.Core.Path.{◌∙◌}
use Rattle.stream.specs.Machine.{gathered}
use Rattle.stream.proofs.Desk.gather.Goals as goal

pub returns-then-bottom-head : goal.returns-then-bottom-head
unfolding gathered
returns-then-bottom-head c = rw c.if-bottom-head.true

pub returns-then-z-more : goal.returns-then-z-more
unfolding gathered
returns-then-z-more c =
    let p = c.push-more.ensures in
    let h = le-leb _ _ (rw p at c.if-z-more.true) in
    c.flush.ensures ∙ rw (p, c.if-bottom-head.false, h)

pub returns-else-z-more : goal.returns-else-z-more
unfolding gathered
returns-else-z-more c =
    let p = c.push-more.ensures in
    let h = lt-leb _ _ (rw p at c.if-z-more.false) in
    rw (p, c.if-bottom-head.false, h)
