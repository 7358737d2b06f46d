use Rattle.stream.proofs.Desk.new.Goals as goal

pub returns : goal.returns
returns c = rw c.begin.ensures
