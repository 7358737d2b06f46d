use mathlib.Core.Path.{◌≡◌}
use Rattle.blocks.specs.Blocks.{marked}
use Rattle.blocks.proofs.mark_listed.Given as goal

abbrev pub invariant-loop-q : goal.invariant-loop-q
invariant-loop-q l = l.used ≡ marked l.initial.used l.list l.q-index
