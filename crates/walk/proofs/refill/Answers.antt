use Rattle.std.proofs.Common.{rules}
use native.Mathlib.Omega.{arith}
use mathlib.Core.Path.{refl}
use Prim.Native.Nat.{◌<◌}
use lib.ListN.{get_or}
use Rattle.walk.proofs.Rest.{chunk_alive, refill_chunk, refill_none}
use Rattle.walk.proofs.refill.Goals as goal

pub offset_bounds-s-chunk : goal.offset_bounds-s-chunk
offset_bounds-s-chunk c = let k = chunk_alive _ _ c.requires.0 _ c.if-next-cur.true _ c.chunk_at-chunk.ensures in omega arith

pub bounds-s-chunk : goal.bounds-s-chunk
bounds-s-chunk c = let k = chunk_alive _ _ c.requires.0 _ c.if-next-cur.true _ c.chunk_at-chunk.ensures in omega arith

pub returns-then-next-cur : goal.returns-then-next-cur
returns-then-next-cur c =
    let b : get_or c.args.s.now c.chunk_at-chunk.result.keys 0 < 4294967296 = search rules in
    refill_chunk _ _ c.requires.0 _ c.if-next-cur.true _ _ c.chunk_at-chunk.ensures refl b

pub returns : goal.returns
returns c = refill_none _ _ c.requires.0 _ c.if-next-cur.false c.requires.1
