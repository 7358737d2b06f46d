use native.Mathlib.Omega.{arith}
use Rattle.writer.proofs.Entering.{holds_ranged, holds_live, live_small}
use Rattle.writer.proofs.Changing.{live_is, put_over, put_turned, put_added}
use Rattle.writer.proofs.put_ready.Goals as goal

pub offset_bounds-s-z : goal.offset_bounds-s-z
offset_bounds-s-z c = omega (arith, holds_live _ _ c.requires)

pub bounds-s-z : goal.bounds-s-z
bounds-s-z c = omega (arith, holds_live _ _ c.requires)

pub returns-then-was : goal.returns-then-was
returns-then-was c = put_over _ _ _ _ _ _ _ _ (live_is _ _ _ _ _ c.find_key.ensures c.is_live-was.ensures c.if-was.true) c.enter_record-tally.ensures

pub overflow_cast-live : goal.overflow_cast-live
overflow_cast-live c = omega (arith, live_small _ _ c.requires)

pub key_limit-requires : goal.key_limit-requires
key_limit-requires c = holds_ranged _ _ c.requires

pub returns-then-live-key_limit : goal.returns-then-live-key_limit
returns-then-live-key_limit c = put_turned _ _ _ _ _ (live_is _ _ _ _ _ c.find_key.ensures c.is_live-was.ensures c.if-was.false) (omega (arith, c.if-live-key_limit.true, c.key_limit.ensures))

pub overflow_add-live : goal.overflow_add-live
overflow_add-live c = omega (arith, live_small _ _ c.requires)

pub returns : goal.returns
returns c = put_added _ _ _ _ _ _ _ _ (live_is _ _ _ _ _ c.find_key.ensures c.is_live-was.ensures c.if-was.false) (λ q. omega (arith, q, c.if-live-key_limit.false, c.key_limit.ensures)) c.enter_record-tally-2.ensures
