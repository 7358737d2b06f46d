use mathlib.Core.Path.{◌≡◌}
use native.Mathlib.Omega.{arith}
use Rattle.geometry.proofs.Bounds.{pow_one, pow_three}
use Rattle.geometry.proofs.power.Goals as goal

pub returns-in-1 : goal.returns-in-1
returns-in-1 c = rw (c.in-1.is, pow_one)

pub returns-in_default : goal.returns-in_default
returns-in_default c = let e : c.args.i ≡ 3 = omega arith in rw (e, pow_three)
