use Rattle.std.proofs.Common.{◌≡◌, ◌+◌, ◌-◌, length, take, drop, arith}
use lib.ListN.{length-drop}
use lib.Seq.{length-take-le}
use Rattle.slices.proofs.Put.{put_part}
use Rattle.slices.proofs.copy.Goals as goal

pub returns : goal.returns
returns c =
    let a = c.args in
    let k : a.to + a.n - a.to ≡ a.n = omega arith in
    let j : a.from + a.n - a.from ≡ a.n = omega arith in
    let l : length (take a.n (drop a.from a.s.now)) ≡ a.n = length-take-le a.n (drop a.from a.s.now) (rw length-drop (omega arith)) in
    rw (k, c.copy_from_slice.ensures.after, j) (put_part a.to a.n (take a.n (drop a.from a.s.now)) a.out.now l)
