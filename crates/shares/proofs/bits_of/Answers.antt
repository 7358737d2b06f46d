use mathlib.Core.Path.{◌≡◌, refl}
use native.Mathlib.Omega.{arith}
use Rattle.shares.specs.Shadow.{known_in, number}
use Rattle.shares.proofs.Bits.{compare_more}
use Rattle.shares.proofs.bits_of.Goals as goal

pub loop-k-init : goal.loop-k-init
unfolding known_in number
loop-k-init c = (omega arith, refl)

pub bit_if-bits-requires : goal.bit_if-bits-requires
bit_if-bits-requires c = tt

pub loop-k-preserved : goal.loop-k-preserved
loop-k-preserved c =
    let l = c.loop-k in
    (omega arith, compare_more c.args.s.now c.args.at c.args.n c.args.x l.k l.bits c.bit_if-bits.result c.requires.0 c.requires.1 (omega arith) l.invariant.1 c.bit_if-bits.ensures)

pub returns : goal.returns
returns c = let e : c.loop-k.k ≡ c.args.n = omega arith in rw e at c.loop-k.invariant.1
