use native.Mathlib.Omega.{arith}
use borrow.Author.Tests.{le-leb, lt-leb}
use Rattle.sides.specs.Sides.{head_of}
use Rattle.sides.proofs.Laws.{readable_chunked, chunk_inside}
use Rattle.sides.proofs.peek.Goals as goal

pub returns-then-end-i : goal.returns-then-end-i
unfolding head_of
returns-then-end-i c = rw (le-leb _ _ c.if-end-i.true)

pub head_at-requires : goal.head_at-requires
head_at-requires c =
    let k = c.requires in
    let l = c.if-end-i.false in
    let n = k.count l in
    let i = chunk_inside c.args.z c.args.pages c.args.s.now c.args.list.now c.args.i (readable_chunked _ _ _ _ _ c.args.j c.args.end k l) n in
    rw c.chunk_at-chunk.ensures (i.0, i.1, i.2, k.inside l, omega (arith, k.sized.b_high))

pub returns : goal.returns
unfolding head_of
returns c = rw (lt-leb _ _ c.if-end-i.false, c.head_at.ensures, c.chunk_at-chunk.ensures)
