use Prim.Native.Nat.{◌+◌, ◌-◌}
use mathlib.Core.Path.{◌≡◌}
use Rattle.form.specs.Form.{fresh_of, mark_of}
use Rattle.form.proofs.list_fresh.Given as goal

abbrev pub invariant-loop-place : goal.invariant-loop-place
invariant-loop-place l = (fresh_of l.s l.p (l.start + l.place-index) (l.n - l.place-index) l.used ≡ fresh_of l.s l.p l.start l.n l.initial.used) × (mark_of l.s (l.start + l.place-index) (l.n - l.place-index) l.used ≡ mark_of l.s l.start l.n l.initial.used)
