use native.Mathlib.Omega.{arith}
use Prim.Native.Nat.{◌*◌, ◌-◌, ◌≤◌}
use mathlib.Core.Path.{◌≡◌, refl, ◌∙◌}
use lib.ListN.{length}
use Rattle.dialogue.specs.Bench.{bench_words}
use Rattle.dialogue.specs.Said.{longest_answer}
use Rattle.dialogue.proofs.Feeding.{room_on, more_bytes, all_bytes, FedSo, fed_none, fed_more, fed_all}
use Rattle.dialogue.proofs.feed.Goals as goal

pub loop-byte-init : goal.loop-byte-init
loop-byte-init c = (c.requires.0, (omega arith, (refl, (c.requires.1.1.0, (omega arith, fed_none _ _ _ _)))))

pub hear-fed-requires : goal.hear-fed-requires
hear-fed-requires c =
    let p = c.requires in
    let v = c.loop-byte.invariant in
    let e = v.1.1.0 in
    (v.0, (rw e p.1.0, (v.1.1.1.0, rw e (omega (arith, v.1.0, room_on (longest_answer c.args.state.tickets) _ _ _ _ v.1.1.1.1.0 c.loop-byte-test.true p.1.1.1)))))

pub loop-byte-preserved : goal.loop-byte-preserved
loop-byte-preserved c =
    let v = c.loop-byte.invariant in
    let h = c.hear-fed.ensures in
    let e = v.1.1.0 in
    (omega arith, (omega arith, (h.0 ∙ e, (h.1.0, (more_bytes _ _ _ _ _ e v.1.1.1.1.0 h.1.1.0, fed_more _ _ _ _ _ _ _ _ _ _ _ c.loop-byte-test.true v.1.1.1.1.1 h.1.1.1)))))

pub returns : goal.returns
returns c =
    let v = c.loop-byte.invariant in
    (v.1.1.0, (v.1.1.1.0, (all_bytes (longest_answer c.args.state.tickets) _ _ _ _ v.1.1.1.1.0 (omega arith) c.requires.1.1.1, fed_all _ _ _ _ _ _ _ _ c.loop-byte-test.false v.1.1.1.1.1)))
