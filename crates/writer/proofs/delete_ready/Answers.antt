use native.Mathlib.Omega.{arith}
use Rattle.writer.proofs.Entering.{holds_live, live_some}
use Rattle.writer.proofs.Changing.{live_is, delete_over, delete_none}
use Rattle.writer.proofs.delete_ready.Goals as goal

pub offset_bounds-s-z : goal.offset_bounds-s-z
offset_bounds-s-z c = omega (arith, holds_live _ _ c.requires)

pub bounds-s-z : goal.bounds-s-z
bounds-s-z c = omega (arith, holds_live _ _ c.requires)

pub overflow_sub-live : goal.overflow_sub-live
overflow_sub-live c = live_some _ _ c.requires _ (live_is _ _ _ _ _ c.find_key.ensures c.is_live-was.ensures c.if-was.true)

pub returns-then-was : goal.returns-then-was
returns-then-was c = delete_over _ _ _ _ _ _ _ (live_is _ _ _ _ _ c.find_key.ensures c.is_live-was.ensures c.if-was.true) c.enter_record-tally.ensures

pub returns : goal.returns
returns c = delete_none _ _ _ _ _ (live_is _ _ _ _ _ c.find_key.ensures c.is_live-was.ensures c.if-was.false) c.no_tally.ensures
