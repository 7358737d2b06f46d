use mathlib.Core.Path.{◌≡◌}
use lib.ListN.{length}
use Rattle.levels.specs.Basics.{each}
use Rattle.pieces.specs.Pieces.{lay_all}
use Rattle.lists.specs.Lists.{list_piece}
use Rattle.lists.proofs.store_back.Given as goal

abbrev pub invariant-loop-i : goal.invariant-loop-i
invariant-loop-i l = (length l.s ≡ length l.initial.s) × (l.s ≡ lay_all (each (list_piece l.z l.lists l.ns) 0 l.i) l.initial.s)
