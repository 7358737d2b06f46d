use Prim.Native.Nat.{suc}
use native.Mathlib.Omega.{arith}
use mathlib.Core.Path.{◌≡◌, ◌∙◌, ap}
use mathlib.Core.Bool.{not}
use Rattle.stream.specs.Machine.{memory, taken_run}
use Rattle.stream.proofs.Taking.{held_none, held_next, stored, dropped, fill_full, fill_more}
use Rattle.stream.proofs.Desk.gather_run.Goals as goal
use Rattle.stream.proofs.Desk.gather_run.Goals.{then-not-bottom-t, else-not-bottom-t}

pub loop-k-init : goal.loop-k-init
loop-k-init c = (omega arith, held_none _ _ _ _ _ c.requires.1.bits)

pub loop-k-preserved : goal.loop-k-preserved
loop-k-preserved c = let l = c.loop-k in (
  omega arith,
  held_next _ _ _ _ _ l.k l.buf _ l.invariant.1 (elim c.if-not-bottom-t.branch [
    | then-not-bottom-t w ↦ w.buf-is ∙ stored _ l.buf _ _ _ (omega arith) (let h = l.invariant.1.few in omega arith) (ap not w.if-not-bottom-t.true)
    | else-not-bottom-t w ↦ w.buf-is ∙ dropped _ l.buf _ _ _ (ap not w.if-not-bottom-t.false)
  ]),
)

pub returns-then-z-n : goal.returns-then-z-n
returns-then-z-n c =
    let a = c.args in
    let l = c.loop-k in
    let n : l.k ≡ suc a.run.more = omega arith in
    let e = l.invariant.1.same ∙ ap (taken_run a.s.now a.bottom a.run.next.head a.run.from a.self.now.st.buf) n in
    c.flush.ensures ∙ fill_full a.z (memory a.s.now a.self.now) l.buf _ e c.if-z-n.true

pub returns-else-z-n : goal.returns-else-z-n
returns-else-z-n c =
    let a = c.args in
    let l = c.loop-k in
    let n : l.k ≡ suc a.run.more = omega arith in
    let e = l.invariant.1.same ∙ ap (taken_run a.s.now a.bottom a.run.next.head a.run.from a.self.now.st.buf) n in
    fill_more a.z (memory a.s.now a.self.now) l.buf _ e c.if-z-n.false
