use Rattle.merging.proofs.Cut.begin.Goals as goal

pub returns : goal.returns
returns c = rw c.default.ensures
