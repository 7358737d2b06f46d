use Rattle.std.proofs.Common.{◌<◌, subst, sym, length, arith}
use Rattle.std.proofs.lemmas.List.{take_more, take_all}
use lib.ListN.{length-set}
use Rattle.lines.proofs.Digits.{decimal_length}
use Rattle.lines.proofs.Print.{begun, none_begun, more_begun, all_begun}
use Rattle.lines.specs.Bytes.{Printed}
use Rattle.lines.proofs.print_line.Goals as goal

pub loop-n-init : goal.loop-n-init
loop-n-init c = (omega arith, none_begun _ _ _ (omega (arith, c.requires)))

pub print_number-end-requires : goal.print_number-end-requires
print_number-end-requires c =
    omega (arith, decimal_length _ c.type_inv.n.fits, c.loop-n.auto.out, length-set c.args.out.now c.args.at c.args.letter, length-set c.loop-n.out c.loop-n.end 32)

pub loop-n-preserved : goal.loop-n-preserved
loop-n-preserved c =
    let k = c.print_number-end in
    let l : c.loop-n.end < length c.loop-n.out = omega (arith, c.loop-n.auto.out, length-set c.args.out.now c.args.at c.args.letter) in (
      omega (arith, k.ensures.ends, decimal_length _ (c.type_inv.numbers c.loop-n.n-index).fits),
      subst (λ ns. Printed c.args.out.now k.new.out c.args.at k.result (begun c.args.letter ns)) (sym (take_more c.args.numbers.now c.loop-n.n-index 0 c.loop-n-test.true))
          (more_begun _ _ _ _ _ _ _ _ _ l c.loop-n.invariant.1 k.ensures),
    )

pub returns : goal.returns
returns c =
    let l : c.loop-n.end < length c.loop-n.out = omega (arith, c.loop-n.auto.out, length-set c.args.out.now c.args.at c.args.letter) in (
      omega arith,
      all_begun _ _ _ _ _ _ l
          (subst (λ ns. Printed c.args.out.now c.loop-n.out c.args.at c.loop-n.end (begun c.args.letter ns)) (take_all c.loop-n.n-index c.args.numbers.now (omega arith)) c.loop-n.invariant.1),
    )
