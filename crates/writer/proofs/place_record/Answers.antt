use native.Mathlib.Omega.{arith}
use Rattle.top.proofs.Words.{ready_bounds}
use Rattle.writer.specs.Change.{with_entered}
use Rattle.writer.proofs.Entering.{room_is, ready_live}
use Rattle.writer.proofs.place_record.Goals as goal

pub enter-requires : goal.enter-requires
enter-requires c = let p = c.requires in (p.0, (p.1.0, room_is _ _ _ p.1.1))

pub offset_bounds-s-z : goal.offset_bounds-s-z
offset_bounds-s-z c = omega (arith, ready_bounds _ _ c.requires.0, ready_live _ _ c.requires.0)

pub bounds-s-z : goal.bounds-s-z
bounds-s-z c = omega (arith, c.enter.auto.s, ready_live _ _ c.requires.0)

pub returns : goal.returns
unfolding with_entered
returns c = rw c.enter.ensures
