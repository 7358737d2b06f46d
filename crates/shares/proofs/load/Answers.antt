use native.Mathlib.Omega.{arith}
use Rattle.shares.proofs.Seating.{front_is}
use Rattle.shares.proofs.load.Goals as goal

pub returns-then-width-eq16 : goal.returns-then-width-eq16
returns-then-width-eq16 c = λ l h.
    let p = c.requires in
    rw c.copy.ensures (front_is c.args.s.now c.args.keys.now c.args.chunk.keys 16 l (omega (arith, p.room, c.if-width-eq16.true)) (omega (arith, p.most, p.width_high)))

pub returns : goal.returns
returns c = λ l h.
    let p = c.requires in
    rw c.copy-2.ensures (front_is c.args.s.now c.args.keys.now c.args.chunk.keys c.args.chunk.count l (omega (arith, p.room, p.most)) h)
