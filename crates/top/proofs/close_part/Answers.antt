use mathlib.Core.Path.{◌∙◌}
use Rattle.top.proofs.Moves.{closed_is}
use Rattle.top.proofs.close_part.Goals as goal

pub returns : goal.returns
returns c = c.clear.ensures ∙ rw c.copy_down.ensures (closed_is _ _ _ _ _ c.requires.0 c.requires.1)
