use mathlib.Core.Path.{◌≡◌}
use Rattle.joins.specs.Joins.{joined}
use Rattle.joins.proofs.append.Given as goal

abbrev pub invariant-loop-j : goal.invariant-loop-j
invariant-loop-j l = l.r ≡ joined l.initial.r l.keys l.pays l.marks l.j
