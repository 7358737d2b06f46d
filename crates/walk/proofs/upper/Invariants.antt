use mathlib.Core.Path.{◌≡◌}
use lib.ListN.{drop}
use Rattle.walk.specs.Walk.{upper_of}
use Rattle.walk.proofs.upper.Given as goal

abbrev pub invariant-loop-cur : goal.invariant-loop-cur
invariant-loop-cur l = upper_of l.k (drop l.cur-index l.front.upper) l.front.last ≡ upper_of l.k l.front.upper l.front.last
