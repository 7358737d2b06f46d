use Prim.Native.Nat.{◌+◌, ◌-◌}
use mathlib.Core.Path.{◌≡◌, sym, ◌∙◌}
use native.Mathlib.Omega.{arith}
use Rattle.choice.specs.Fences.{stretch_of}
use Rattle.choice.proofs.Once.{run_at, pass_at}
use Rattle.choice.proofs.Keys.{stretch_here, stretch_rises, before_next}
use Rattle.choice.proofs.Choose.{pass_here, pass_on, choose_first, choose_more, choose_all}
use Rattle.choice.proofs.choose_run.Goals as goal
use Rattle.choice.proofs.choose_run.Goals.{After-move_on-at, After-move_on-at-in-loop-i}

-- at the first run, and at run i, the two ends are those of its stretch
first_run : (c : After-move_on-at) → let a = c.args in c.move_on-at.result ≡ stretch_of (run_at a.w 0 a.above.now) a.under.now
first_run c =
    let p = c.requires in
    let e : 0 + c.args.w - 1 ≡ c.args.w - 1 = omega arith in
    stretch_here _ p.1.1.1 _ _ p.0 p.1.1.0 (record { first = 0; last = 0 }) 0 (record { start = 0; end = 0 }) _ (omega (arith, p.1.0)) (rw e c.move_on-at.ensures)

next_run : (c : After-move_on-at-in-loop-i) → let a = c.args in c.move_on-at-in-loop-i.result ≡ stretch_of (run_at a.w c.loop-i.i a.above.now) a.under.now
next_run c =
    let p = c.requires in
    stretch_here _ p.1.1.1 _ _ p.0 p.1.1.0 _ c.loop-i.i _ _ (omega arith) c.move_on-at-in-loop-i.ensures

-- and they are where the pass has them
first-pass : (c : After-move_on-at) → let a = c.args in c.move_on-at.result ≡ pass_at a.w a.above.now a.under.now 0
first-pass c =
    let p = c.requires in
    let e : 0 + c.args.w - 1 ≡ c.args.w - 1 = omega arith in
    pass_here _ _ _ p.0 p.1.1.1 (record { first = 0; last = 0 }) _ p.1.0 (rw e c.move_on-at.ensures)

next-pass : (c : After-move_on-at-in-loop-i) → let a = c.args in c.move_on-at-in-loop-i.result ≡ pass_at a.w a.above.now a.under.now c.loop-i.i
next-pass c =
    let p = c.requires in
    let l = c.loop-i in
    pass_on _ _ _ p.0 p.1.1.1 _ l.i _ _ l.invariant.0 (omega arith) l.invariant.1.1.0 c.move_on-at-in-loop-i.ensures

pub move_on-at-requires : goal.move_on-at-requires
move_on-at-requires c = (c.requires.1.1.1, record { lower = omega arith; upper = omega arith })

pub run_over-best-requires : goal.run_over-best-requires
run_over-best-requires c =
    let p = c.requires in
    stretch_rises _ p.1.1.1 _ _ p.0 p.1.1.0 (record { first = 0; last = 0 }) 0 _ (omega (arith, p.1.0)) (first_run (goal.at.run_over-best-requires c).After-move_on-at)

pub loop-i-init : goal.loop-i-init
loop-i-init c =
    let p = c.requires in
    let r = first_run (goal.at.loop-i-init c).After-move_on-at in
    (omega arith, (omega arith, (first-pass (goal.at.loop-i-init c).After-move_on-at, (r, c.run_over-best.ensures ∙ sym (choose_first _ _ _ p.0 p.1.1.1 (record { first = 0; last = 0 }) _ p.1.0 r)))))

pub move_on-at-requires-in-loop-i : goal.move_on-at-requires-in-loop-i
move_on-at-requires-in-loop-i c =
    let p = c.requires in
    let l = c.loop-i in
    (p.1.1.1, before_next _ p.1.1.1 _ _ p.0 p.1.1.0 _ l.i l.at l.invariant.0 (omega arith) l.invariant.1.1.1.0)

pub run_over-requires : goal.run_over-requires
run_over-requires c =
    let p = c.requires in
    stretch_rises _ p.1.1.1 _ _ p.0 p.1.1.0 (record { first = 0; last = 0 }) c.loop-i.i _ (omega arith) (next_run (goal.at.run_over-requires c).After-move_on-at-in-loop-i)

pub loop-i-preserved : goal.loop-i-preserved
loop-i-preserved c =
    let p = c.requires in
    let l = c.loop-i in
    let v = (goal.at.loop-i-preserved c).After-move_on-at-in-loop-i in
    let e : l.i + 1 - 1 ≡ l.i = omega arith in
    (omega arith, (omega arith, (rw e (next-pass v), (rw e (next_run v), rw (c.fewer-best.ensures, c.run_over.ensures, l.invariant.1.1.1.1) (sym (choose_more _ _ _ p.0 p.1.1.1 (record { first = 0; last = 0 }) l.i _ l.invariant.0 (omega arith) (next_run v)))))))

pub returns : goal.returns
returns c =
    let p = c.requires in
    let l = c.loop-i in
    l.invariant.1.1.1.1 ∙ choose_all _ _ _ p.0 p.1.1.1 (record { first = 0; last = 0 }) l.i (omega arith)
