use Rattle.std.proofs.Common.{rules}
use Prim.Native.Nat.{◌+◌, ◌<◌}
use mathlib.Core.Path.{refl}
use native.Mathlib.Omega.{arith}
use lib.ListN.{get_or}
use Rattle.walk.proofs.Rest.{advance_in, advance_last}
use Rattle.walk.proofs.advance.Goals as goal

pub returns-then-chunk-gt1 : goal.returns-then-chunk-gt1
returns-then-chunk-gt1 c =
    let b : get_or c.args.s.now (c.args.cur.now.chunk.keys + 1) 0 < 4294967296 = search rules in
    advance_in _ _ c.requires.0 c.requires.1 _ c.if-chunk-gt1.true refl b

pub returns : goal.returns
returns c = advance_last _ _ c.requires.0 c.requires.1 _ (omega (arith, c.if-chunk-gt1.false)) c.refill.ensures.0 c.refill.ensures.1
