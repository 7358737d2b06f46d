use Rattle.std.proofs.Common.{refl, arith}
use Rattle.std.proofs.lemmas.Result.{on_ok_weaker}
use Rattle.typing.proofs.Known.{so_far, none_heard, all_answered, end_begun, more_begun, more_answered}
use Rattle.typing.proofs.run.Goals as goal

pub loop-init : goal.loop-init
loop-init g c = (refl, none_heard _ _ _ _ _ (c.start-state.ensures _))

pub returns-in_err-n-clause-begun : goal.returns-in_err-n-clause-begun
returns-in_err-n-clause-begun g c =
    let (part, turns, read, written, holds) = c.loop.invariant.1 in
    so_far _ _ _ _ _ part read written

pub returns-clause-begun : goal.returns-clause-begun
returns-clause-begun g c =
    let (part, turns, read, written, holds) = c.loop.invariant.1 in
    so_far _ _ _ _ _ part read written

pub returns-then-n-eq0-clause-answers : goal.returns-then-n-eq0-clause-answers
returns-then-n-eq0-clause-answers g c =
    let (part, turns, read, written, holds) = c.loop.invariant.1 in
    on_ok_weaker _ (all_answered _ _ _ _ _ part read written _ _ _ _ c.if-n-eq0.true c.in_ok-n.ensures.bytes.0 (c.in_ok-n.ensures.bytes.1 c.if-n-eq0.true (omega arith)) _ _ _ _ (c.finish-last.ensures.1 _ _ holds)) c.write_out.ensures.all

pub returns-then-n-eq0-clause-begun : goal.returns-then-n-eq0-clause-begun
returns-then-n-eq0-clause-begun g c =
    let (part, turns, read, written, holds) = c.loop.invariant.1 in
    end_begun _ _ _ _ _ part read written _ _ _ _ c.if-n-eq0.true c.in_ok-n.ensures.bytes.0 (c.in_ok-n.ensures.bytes.1 c.if-n-eq0.true (omega arith)) _ _ _ _ (c.finish-last.ensures.1 _ _ holds) c.write_out.ensures.begun

pub returns-in_err-write_out-clause-begun : goal.returns-in_err-write_out-clause-begun
returns-in_err-write_out-clause-begun g c =
    let (part, turns, read, written, holds) = c.loop.invariant.1 in
    more_begun _ _ _ _ _ part read written _ _ _ c.in_ok-n.ensures.bytes.0 _ _ _ _ (c.feed-fed.ensures.1.1.1 _ _ holds) c.write_out-in-loop.ensures.begun

pub loop-preserved : goal.loop-preserved
loop-preserved g c =
    let (part, turns, read, written, holds) = c.loop.invariant.1 in
    (omega arith, more_answered _ _ _ _ _ part read written _ _ _ c.in_ok-n.ensures.bytes.0 _ _ _ _ (c.feed-fed.ensures.1.1.1 _ _ holds) c.loop.counter turns (omega (arith, c.in_ok-n.ensures.bound.1)) c.in_ok-write_out.ensures.all)
