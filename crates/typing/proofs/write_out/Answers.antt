use Rattle.std.proofs.Common.{refl, ◌++◌, [], take}
use Rattle.std.proofs.KnownBytes.{Appends-nil, Appends-trans}
use Rattle.typing.proofs.Known.{more_done}
use Rattle.typing.proofs.write_out.Goals as goal

pub loop-rest-init : goal.loop-rest-init
loop-rest-init g c = ([], refl, Appends-nil _)

pub loop-rest-preserved : goal.loop-rest-preserved
loop-rest-preserved g c =
    let (done, e, p) = c.loop-rest.invariant in
    (done ++ take c.in_ok-put.put c.loop-rest.rest.now, more_done c.args.bytes.now done c.loop-rest.rest.now c.in_ok-put.put e, Appends-trans _ _ _ _ _ p c.in_ok-put.ensures.bytes)
