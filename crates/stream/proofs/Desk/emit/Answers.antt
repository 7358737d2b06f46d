use mathlib.Core.Path.{◌∙◌}
use Rattle.stream.specs.Machine.{emitted_run}
use Rattle.stream.proofs.Desk.emit.Goals as goal

pub returns-in-Some : goal.returns-in-Some
unfolding emitted_run
returns-in-Some c = c.reuse.ensures ∙ rw c.in-Some.is

pub returns : goal.returns
unfolding emitted_run
returns c = c.gather_run.ensures ∙ rw c.in_default.is
