use Rattle.std.proofs.Common.{◌≡◌, ◌+◌, ◌∙◌, ap, length, arith}
use Rattle.lines.specs.Lines.{decimal}
use Rattle.lines.proofs.Print.{std_digits, printed_part}
use Rattle.lines.proofs.print_number.Goals as goal

pub slice_bounds-copy_from_slice-end : goal.slice_bounds-copy_from_slice-end
slice_bounds-copy_from_slice-end c =
    let e : c.as_bytes-digits.result.now ≡ decimal c.args.n = c.as_bytes-digits.ensures.value ∙ c.format.ensures.text ∙ std_digits c.args.n (omega arith) in
    omega (arith, c.requires, ap length e)

pub returns : goal.returns
returns c =
    let e : c.as_bytes-digits.result.now ≡ decimal c.args.n = c.as_bytes-digits.ensures.value ∙ c.format.ensures.text ∙ std_digits c.args.n (omega arith) in
    printed_part _ _ _ _ _ (c.copy_from_slice.ensures.after ∙ e) (ap (λ bs. c.args.at + length bs) e) (omega (arith, c.requires, ap length e))
