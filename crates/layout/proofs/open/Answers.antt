use Rattle.layout.specs.Opening.{opened_of}
use Rattle.layout.proofs.Opening.{opened_short}
use Rattle.layout.proofs.open.Goals as goal

pub returns-then-s-lt12 : goal.returns-then-s-lt12
returns-then-s-lt12 c = opened_short _ c.if-s-lt12.true

pub returns : goal.returns
unfolding opened_of
returns c = c.fit.ensures
