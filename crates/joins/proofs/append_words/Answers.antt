use native.Mathlib.Omega.{arith}
use Prim.Native.Nat.{◌+◌, ◌-◌}
use mathlib.Core.Path.{◌≡◌, ◌∙◌, sym}
use lib.ListN.{length, take, drop, length-drop}
use lib.Seq.{length-take-le}
use Rattle.joins.proofs.Laws.{joined_block}
use Rattle.joins.proofs.append_words.Goals as goal

pub append-requires : goal.append-requires
append-requires c =
    let a = c.args in
    let k : a.at + 2 + a.n - (a.at + 2) ≡ a.n = omega arith in
    let v : a.at + 2 + a.z.b + a.n - (a.at + 2 + a.z.b) ≡ a.n = omega arith in
    let lk : length (take a.n (drop (a.at + 2) a.s.now)) ≡ a.n = length-take-le a.n (drop (a.at + 2) a.s.now) (rw length-drop (omega arith)) in
    let lv : length (take a.n (drop (a.at + 2 + a.z.b) a.s.now)) ≡ a.n = length-take-le a.n (drop (a.at + 2 + a.z.b) a.s.now) (rw length-drop (omega arith)) in
    rw (k, v) (c.requires.4, lv ∙ sym lk, rw lk c.requires.3)

pub returns : goal.returns
returns c =
    let a = c.args in
    let k : a.at + 2 + a.n - (a.at + 2) ≡ a.n = omega arith in
    let v : a.at + 2 + a.z.b + a.n - (a.at + 2 + a.z.b) ≡ a.n = omega arith in
    let lk : length (take a.n (drop (a.at + 2) a.s.now)) ≡ a.n = length-take-le a.n (drop (a.at + 2) a.s.now) (rw length-drop (omega arith)) in
    rw (k, v, lk) at c.append.ensures ∙ joined_block a.z.b a.s.now a.at a.buf a.n
