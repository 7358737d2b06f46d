use Rattle.slices.proofs.Put.{put_within}
use Rattle.slices.proofs.copy_down.Goals as goal
use Rattle.std.proofs.Common.{◌∙◌}

pub returns : goal.returns
returns c = c.copy_within.ensures.after ∙ put_within c.args.to c.args.from c.args.n c.args.s.now c.requires.1
