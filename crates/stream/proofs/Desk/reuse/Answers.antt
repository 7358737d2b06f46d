use native.Mathlib.Omega.{arith}
use Prim.Native.Nat.{◌<◌}
use mathlib.Core.Path.{ap}
use Rattle.stream.specs.Machine.{reused, append, memory, Memory}
use Rattle.stream.proofs.Laws.{flushed_m}
use Rattle.stream.proofs.Desk.reuse.Goals as goal
use Rattle.stream.proofs.Desk.reuse.Goals.{After-flush}

-- the list has room for one more
low : (c : After-flush) → c.flush.new.self.st.m < 4096
low c = rw (ap (λ (a : Memory). a.st.m) c.flush.ensures) (omega (arith, flushed_m c.args.z (memory c.args.s.now c.args.self.now), c.requires.1))

pub offset_bounds-self-m : goal.offset_bounds-self-m
offset_bounds-self-m c = let h = low (goal.at.offset_bounds-self-m c).After-flush in omega arith

pub bounds-self-m : goal.bounds-self-m
bounds-self-m c = let h = low (goal.at.bounds-self-m c).After-flush in omega arith

pub overflow_add-self : goal.overflow_add-self
overflow_add-self c = let h = low (goal.at.overflow_add-self c).After-flush in omega arith

pub returns : goal.returns
unfolding reused
returns c = ap (λ (a : Memory). append a c.args.q) c.flush.ensures
