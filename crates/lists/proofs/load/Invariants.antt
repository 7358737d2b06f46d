use Prim.Native.Nat.{suc}
use Rattle.words.specs.Stores.{listed_at}
use Rattle.lists.specs.Lists.{Listed}
use Rattle.lists.proofs.load.Given as goal

abbrev pub invariant-loop-i : goal.invariant-loop-i
invariant-loop-i l = Listed l.z.geo.h l.i l.lists l.ns (λ j. listed_at l.z l.s (suc j))
