use native.Mathlib.Omega.{arith}
use Rattle.lists.proofs.Flat.{part_lent, part_inside}
use Rattle.lists.proofs.entries.Goals as goal

pub overflow_add-result : goal.overflow_add-result
overflow_add-result c = omega (arith, c.start_of-at.ensures, part_inside c.args.h c.args.level, c.requires.1.1.0)

pub offset_bounds-lists-at : goal.offset_bounds-lists-at
offset_bounds-lists-at c = omega (arith, c.start_of-at.ensures, part_inside c.args.h c.args.level)

pub slice_bounds-result-end : goal.slice_bounds-result-end
slice_bounds-result-end c = omega (arith, c.start_of-at.ensures, part_inside c.args.h c.args.level, c.requires.1.1.0, c.requires.1.1.1)

pub returns : goal.returns
returns c = part_lent _ _ _ _ _ c.start_of-at.ensures c.requires.1.1.0
