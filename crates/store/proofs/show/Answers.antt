use Rattle.std.proofs.Common.{arith}
use Rattle.store.proofs.Answering.{part_in, part_shown}
use Rattle.store.proofs.show.Goals as goal

pub overflow_add-result : goal.overflow_add-result
overflow_add-result c = let h = part_in _ _ _ _ c.show_at-part.ensures in omega (arith, h.1)

pub offset_bounds-s-part : goal.offset_bounds-s-part
offset_bounds-s-part c = let h = part_in _ _ _ _ c.show_at-part.ensures in omega (arith, h.1)

pub slice_bounds-result-end : goal.slice_bounds-result-end
slice_bounds-result-end c = (part_in _ _ _ _ c.show_at-part.ensures).0

pub returns : goal.returns
returns c = part_shown _ _ _ _ c.show_at-part.ensures
