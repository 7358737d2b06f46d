use borrow.Author.Rules.{rules}
use native.Mathlib.Omega.{arith}
use mathlib.Core.Path.{◌≡◌, refl, ◌∙◌}
use Rattle.stream.specs.Machine.{memory}
use Rattle.stream.proofs.Laws.{turned_none, turned_more, turned_ready, turned_over, turned_all}
use Rattle.stream.proofs.Desk.stream.Goals as goal

pub loop-k-init : goal.loop-k-init
loop-k-init c = (search rules, (refl, turned_none _ _ _ _ _))

pub returns-then-xe-px : goal.returns-then-xe-px
returns-then-xe-px c =
    let l = c.loop-k in
    let a = c.args in
    turned_over a.z a.t a.xs.now a.ys.now a.limit (memory a.s.now a.self.now) c.requires.ends l.k _ l.invariant.1.1 c.if-xe-px.true

pub step-requires : goal.step-requires
step-requires c =
    let l = c.loop-k in
    let a = c.args in
    turned_ready a.z a.t a.xs.now a.ys.now a.limit (memory a.s.now a.self.now) c.requires.ends l.k _ c.requires.ready l.invariant.1.1 c.if-xe-px.false

pub loop-k-preserved : goal.loop-k-preserved
loop-k-preserved c =
    let l = c.loop-k in
    let a = c.args in
    (omega arith, (c.step.auto.s ∙ l.invariant.1.0, turned_more a.z a.t a.xs.now a.ys.now l.k (memory a.s.now a.self.now) _ _ l.invariant.1.1 c.step.ensures))

pub returns : goal.returns
returns c =
    let l = c.loop-k in
    let a = c.args in
    let n : l.k ≡ a.limit = omega arith in
    turned_all a.z a.t a.xs.now a.ys.now a.limit (memory a.s.now a.self.now) c.requires.ends _ (rw n at l.invariant.1.1)
