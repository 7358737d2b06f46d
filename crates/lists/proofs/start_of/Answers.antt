use native.Mathlib.Omega.{arith}
use Rattle.lists.proofs.Flat.{start_bottom, start_next, start_last}
use Rattle.lists.proofs.start_of.Goals as goal

pub returns-in-0 : goal.returns-in-0
returns-in-0 c = start_bottom _ _ c.in-0.is

pub returns-in-1 : goal.returns-in-1
returns-in-1 c = start_next _ _ c.in-1.is

pub returns-in_default : goal.returns-in_default
returns-in_default c = start_last _ _ (λ e. omega arith) (λ e. omega arith)
