use Rattle.std.proofs.Common.{◌≡◌, ◌+◌, ◌-◌, length, take, drop, replicate, arith}
use lib.ListN.{length-drop, length-replicate}
use lib.Seq.{length-take-le}
use Rattle.slices.proofs.Put.{put_part}
use Rattle.slices.proofs.clear.Goals as goal

pub returns : goal.returns
returns c =
    let a = c.args in
    let k : a.start + a.n - a.start ≡ a.n = omega arith in
    let l : length (take a.n (drop a.start a.s.now)) ≡ a.n = length-take-le a.n (drop a.start a.s.now) (rw length-drop (omega arith)) in
    rw (k, c.fill.ensures.after (λ y h. h), k, l) (put_part a.start a.n (replicate a.n 0) a.s.now (length-replicate a.n 0))
