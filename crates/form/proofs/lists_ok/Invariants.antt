use Prim.Native.Nat.{◌+◌, ◌-◌}
use mathlib.Core.Path.{◌≡◌}
use Rattle.form.specs.Form.{lists_ok, lists_from}
use Rattle.form.proofs.lists_ok.Given as goal

abbrev pub invariant-loop-i : goal.invariant-loop-i
invariant-loop-i l = lists_from l.z l.s l.i (l.h + 1 - l.i) l.used ≡ lists_ok l.z l.s
