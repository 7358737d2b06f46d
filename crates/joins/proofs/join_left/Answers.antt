use Prim.Native.Nat.{◌+◌, ◌≤◌}
use native.Mathlib.Omega.{arith}
use mathlib.Core.Path.{◌∙◌}
use borrow.Author.Tests.{eq-eqb, ne_eqb, le-leb, lt-leb}
use native.Mathlib.Nat.{le_refl}
use Rattle.joins.specs.Joins.{left_joined}
use Rattle.joins.proofs.Laws.{pull_able}
use Rattle.sides.proofs.Laws.{last_low}
use Rattle.joins.proofs.join_left.Goals as goal

pub returns-then-n-eq0 : goal.returns-then-n-eq0
unfolding left_joined
returns-then-n-eq0 c = rw (eq-eqb _ _ c.if-n-eq0.true)

pub overflow_add-e : goal.overflow_add-e
overflow_add-e c =
    let l = last_low c.args.z c.args.s.now c.args.desk.now.out c.args.desk.now.st.m c.requires.sized (λ i. (c.type_inv.s i).fits) in
    let e = c.last_size-e.ensures in
    let f = c.requires.few in
    omega arith

pub pull_last-requires : goal.pull_last-requires
pull_last-requires c =
    let n = c.if-n-eq0.false in
    pull_able c.args.z c.args.s.now c.args.desk.now.out c.args.desk.now.st c.args.desk.now.st.buf.n c.requires (omega arith) (le_refl _) (let h : c.last_size-e.result + c.args.desk.now.st.buf.n ≤ c.args.z.b = omega arith in rw (← c.last_size-e.ensures) h)

pub returns-then-e-n : goal.returns-then-e-n
unfolding left_joined
returns-then-e-n c = let h = le-leb (c.last_size-e.result + c.args.desk.now.st.buf.n) c.args.z.b (omega arith) in c.pull_last.ensures ∙ rw (ne_eqb _ _ c.if-n-eq0.false, ← c.last_size-e.ensures, h)

pub returns-else-e-n : goal.returns-else-e-n
unfolding left_joined
returns-else-e-n c = let h = lt-leb (c.last_size-e.result + c.args.desk.now.st.buf.n) c.args.z.b (omega arith) in rw (ne_eqb _ _ c.if-n-eq0.false, ← c.last_size-e.ensures, h)
