use native.Mathlib.Omega.{arith}
use mathlib.Core.Path.{refl}
use Rattle.lines.specs.Machine.{run}
use borrow.Author.Rules.{rules}
use Rattle.dialogue.proofs.State.start.Goals as goal

pub returns : goal.returns
unfolding run
returns c = λ words. record { tickets = refl; few = c.requires; fits = omega arith; store = refl; begun = c.start.ensures }
