use Rattle.std.specs.Prelude.{All}
use Rattle.std.proofs.Common.{map, ◌≡◌}
use lib.ListN.{length}
use Rattle.walk.specs.Walk.{Good, rest}
use Rattle.walk.proofs.Stepping.{stepped}
use Rattle.walk.proofs.step_each.Given as goal

abbrev pub invariant-loop-cur : goal.invariant-loop-cur
invariant-loop-cur l = (length l.cur-items ≡ 3) × (All (Good l.s) l.cur-items × (map (rest l.s) l.cur-items ≡ stepped l.k l.cur-index (map (rest l.s) l.initial.cur-items)))
