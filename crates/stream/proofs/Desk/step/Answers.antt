use native.Mathlib.Omega.{arith}
use mathlib.Core.Path.{◌≡◌, sym, ◌∙◌}
use Rattle.std.specs.Prelude.{Some}
use mathlib.Core.Bool.{false}
use Prim.Native.Nat.{suc, ◌<◌, ◌^◌, ◌-◌}
use Rattle.sides.specs.declared.Head.{Head}
use Rattle.stream.specs.Machine.{Memory, memory, Standing, Grows}
use Rattle.sides.proofs.Laws.{last_low}
use Rattle.stream.proofs.Laws.{turned_idle, upper_first, lower_first}
use Rattle.stream.proofs.Runs.{x, y, next, first_not, grows_turns, grows_low, grows_runnable, standing, sleeps}
use Rattle.stream.proofs.Desk.step.Goals as goal
use Rattle.stream.proofs.Desk.step.Goals.{After-last_size-e, In-Some, After-run_on-run}

small : (c : After-last_size-e) → c.last_size-e.result < 2 ^ 32
small c = rw c.last_size-e.ensures (last_low c.args.z c.args.s.now c.args.self.now.out c.args.self.now.st.m c.requires.movable.flushable.sized (λ i. (c.slice_known-1.given i).fits))

-- a side that has a record stands at it
stands_x : (c : After-last_size-e) (h : Head) → c.peek-x.result ≡ Some h → Standing c.args.s.now c.args.self.now.st.x h
stands_x c h e = let a = c.args in standing a.z a.t.pages a.s.now a.xs.now a.self.now.st.x a.t.x c.requires.upper h (sym c.peek-x.ensures ∙ e)

stands_y : (c : After-last_size-e) (h : Head) → c.peek-y.result ≡ Some h → Standing c.args.s.now c.args.self.now.st.y h
stands_y c h e = let a = c.args in standing a.z false a.s.now a.ys.now a.self.now.st.y a.t.y c.requires.lower h (sym c.peek-y.ensures ∙ e)

pub choose-requires : goal.choose-requires
choose-requires c =
    let v = (goal.at.choose-requires c).After-last_size-e in
    let f = c.requires.movable.flushable in
    record { cap = f.sized.b_high; few = f.full; last = small v; upper = stands_x v; lower = stands_y v }

pub returns-in_default : goal.returns-in_default
returns-in_default c =
    let a = c.args in
    let m : Memory = memory a.s.now a.self.now in
    turned_idle a.z a.t a.xs.now a.ys.now m (sleeps a.z a.t a.xs.now a.ys.now m (rw (c.peek-x.ensures, c.peek-y.ensures, c.last_size-e.ensures) at (sym c.in_default.ensures)))

-- the move is the one that the two sides tell
picked : (c : In-Some) → let a = c.args in next a.z a.t a.xs.now a.ys.now (memory a.s.now a.self.now) ≡ Some c.in-Some.next
picked c = rw (c.peek-x.ensures, c.peek-y.ensures, c.last_size-e.ensures) at (sym c.in-Some.ensures)

pub run_on-run-requires : goal.run_on-run-requires
run_on-run-requires c =
    let a = c.args in
    let v = (goal.at.run_on-run-requires c).After-last_size-e in
    let p = a.self.now.st in (
      c.requires.movable.flushable.sized.b_high,
      c.requires.movable.gatherable.few,
      λ f. stands_x v _ (upper_first a.z a.t.bottom a.s.now p.x p.y c.peek-x.result c.peek-y.result p.buf.n c.last_size-e.result c.in-Some.next (sym c.in-Some.ensures) (first_not c.peek-x.result c.peek-y.result f) f).0,
      λ f. stands_y v _ (lower_first a.z a.t.bottom a.s.now p.x p.y c.peek-x.result c.peek-y.result p.buf.n c.last_size-e.result c.in-Some.next (sym c.in-Some.ensures) f).0,
    )

-- what the code makes of the next move
taken : (c : After-run_on-run) → let a = c.args in
    let m : Memory = memory a.s.now a.self.now in
    Grows a.s.now a.self.now.st.x a.self.now.st.y (x a.z a.t a.xs.now a.ys.now m) (y a.z a.t a.xs.now a.ys.now m) c.in-Some.next (a.z.b - a.self.now.st.buf.n - 1) c.run_on-run.result
taken c = rw (c.peek-x.ensures, c.peek-y.ensures) at c.run_on-run.ensures

pub emit-requires : goal.emit-requires
emit-requires c =
    let a = c.args in
    let k = c.requires in
    let m : Memory = memory a.s.now a.self.now in
    let s = picked (goal.at.emit-requires c).In-Some in
    let g = taken (goal.at.emit-requires c).After-run_on-run in (
      k.movable,
      grows_low a.z a.t a.xs.now a.ys.now m c.in-Some.next s _ g k.upper k.lower,
      grows_runnable a.z a.t a.xs.now a.ys.now m c.in-Some.next s _ g k.movable.gatherable (standing _ _ _ _ a.self.now.st.x _ k.upper) (standing _ _ _ _ a.self.now.st.y _ k.lower),
    )

pub returns : goal.returns
returns c =
    let a = c.args in
    let m : Memory = memory a.s.now a.self.now in
    let r = c.run_on-run.result in
    let g = grows_turns a.z a.t a.xs.now a.ys.now m c.in-Some.next (picked (goal.at.returns c).In-Some) r (taken (goal.at.returns c).After-run_on-run) c.requires.movable.gatherable.few in
    record { count = suc r.more; enough = omega arith; same = c.emit.ensures ∙ g }
