use native.Mathlib.Omega.{arith}
use lib.ListN.{length-set}
use Rattle.layout.proofs.Laws.{fitted_spots}
use Rattle.lists.proofs.Room.{counts_laid}
use Rattle.lists.proofs.put_counts.Goals as goal

pub offset_bounds-s-z : goal.offset_bounds-s-z
offset_bounds-s-z c = omega (arith, fitted_spots _ _ c.requires.0)

pub bounds-s-z : goal.bounds-s-z
bounds-s-z c = omega (arith, fitted_spots _ _ c.requires.0)

pub overflow_cast-s-2 : goal.overflow_cast-s-2
overflow_cast-s-2 c = omega (arith, c.requires.1.1.0 0)

pub offset_bounds-s-c : goal.offset_bounds-s-c
offset_bounds-s-c c = omega (arith, fitted_spots _ _ c.requires.0)

pub bounds-s-c : goal.bounds-s-c
bounds-s-c c = simp length-set (omega (arith, fitted_spots _ _ c.requires.0))

pub overflow_cast-s-3 : goal.overflow_cast-s-3
overflow_cast-s-3 c = omega (arith, c.requires.1.1.0 1)

pub offset_bounds-s-c-2 : goal.offset_bounds-s-c-2
offset_bounds-s-c-2 c = omega (arith, fitted_spots _ _ c.requires.0)

pub bounds-s-c-2 : goal.bounds-s-c-2
bounds-s-c-2 c = simp length-set (omega (arith, fitted_spots _ _ c.requires.0))

pub overflow_cast-s-4 : goal.overflow_cast-s-4
overflow_cast-s-4 c = omega (arith, c.requires.1.1.0 2)

pub offset_bounds-s-c-3 : goal.offset_bounds-s-c-3
offset_bounds-s-c-3 c = omega (arith, fitted_spots _ _ c.requires.0)

pub bounds-s-c-3 : goal.bounds-s-c-3
bounds-s-c-3 c = simp length-set (omega (arith, fitted_spots _ _ c.requires.0))

pub returns : goal.returns
returns c = counts_laid _ _ _ _ c.requires.1.0
