use native.Mathlib.Omega.{arith}
use Prim.Native.Nat.{ℕ, ◌≤◌, ◌<◌}
use mathlib.Core.Path.{◌≡◌, ◌∙◌, ap}
use lib.ListN.{get_or}
use borrow.Author.Tests.{eq-eqb, ne_eqb, le-leb, lt-leb}
use Rattle.blocks.specs.Blocks.{start_of}
use Rattle.blocks.proofs.Laws.{in_store}
use Rattle.stream.specs.declared.Point.{Point}
use Rattle.joins.specs.Joins.{after_joined}
use Rattle.joins.proofs.Laws.{pull_able, pulled_n, pulled_clean, pulled_y, last_pull}
use Rattle.sides.proofs.Laws.{last_low}
use Rattle.joins.proofs.join_after.Goals as goal

pub returns-then-end-i : goal.returns-then-end-i
unfolding after_joined
returns-then-end-i c = rw (le-leb _ _ c.if-end-i.true)

pub place_start-at-requires : goal.place_start-at-requires
place_start-at-requires c = let h : get_or c.args.ys.now c.args.desk.now.st.y.i 0 < c.args.z.p = c.requires.place c.if-end-i.false in omega (arith, c.requires.lefts.sized)

pub word-size-requires : goal.word-size-requires
word-size-requires c = rw c.place_start-at.ensures (omega (arith, in_store c.args.z c.args.s.now c.requires.lefts.sized (get_or c.args.ys.now c.args.desk.now.st.y.i 0) 0 (c.requires.place c.if-end-i.false) (omega arith)))

pub overflow_add-e : goal.overflow_add-e
overflow_add-e c =
    let l = last_low c.args.z c.args.s.now c.args.desk.now.out c.args.desk.now.st.m c.requires.lefts.sized (λ i. (c.type_inv.s i).fits) in
    let e = c.last_size-e.ensures in
    let f = c.word-size.ensures.0 in
    let g = (c.type_inv.s c.place_start-at.result).fits in
    omega arith

pub pull_last-requires : goal.pull_last-requires
pull_last-requires c =
    let n = c.if-n-eq0.true in
    let f : 1 ≤ c.word-size.result = rw (c.word-size.ensures.0, c.place_start-at.ensures) (c.requires.filled c.if-end-i.false) in
    pull_able c.args.z c.args.s.now c.args.desk.now.out c.args.desk.now.st c.word-size.result c.requires.lefts f (omega arith) (rw (← c.last_size-e.ensures) c.if-e-size.true)

pub take_after-requires : goal.take_after-requires
take_after-requires c =
    let f : 1 ≤ c.word-size.result = rw (c.word-size.ensures.0, c.place_start-at.ensures) (c.requires.filled c.if-end-i.false) in
    let h = rw c.last_size-e.ensures at c.if-e-size.true in
    let p = last_pull c.args.z c.args.s.now c.args.desk.now.out c.args.desk.now.st.m c.word-size.result f h in
    let n = pulled_n c.args.z c.args.s.now c.args.desk.now.out c.args.desk.now.st in
    let w : c.word-size.result ≡ get_or c.args.s.now (start_of c.args.z (get_or c.args.ys.now c.args.desk.now.st.y.i 0)) 0 = c.word-size.ensures.0 ∙ ap (λ (k : ℕ). get_or c.args.s.now k 0) c.place_start-at.ensures in
    let v = ap (λ (p : Point). p.i) (pulled_y c.args.z c.args.s.now c.args.desk.now.out c.args.desk.now.st) in
    let e = p.1 in
    let z = c.if-n-eq0.true in
    let x = c.requires.end_high in
    let y = c.if-end-i.false in
    rw c.pull_last.ensures (record { sized = c.requires.lefts.sized; place = c.requires.place c.if-end-i.false; clean = pulled_clean c.args.z c.args.s.now c.args.desk.now.out c.args.desk.now.st; few = omega arith }, omega arith)

pub returns-then-e-size : goal.returns-then-e-size
unfolding after_joined
returns-then-e-size c =
    let h = le-leb _ _ c.if-e-size.true in
    c.take_after.ensures ∙ rw (c.pull_last.ensures, lt-leb _ _ c.if-end-i.false, eq-eqb _ _ c.if-n-eq0.true, ← c.last_size-e.ensures, ← c.place_start-at.ensures, ← c.word-size.ensures.0, h)

pub returns-else-e-size : goal.returns-else-e-size
unfolding after_joined
returns-else-e-size c =
    let h = lt-leb _ _ c.if-e-size.false in
    rw (lt-leb _ _ c.if-end-i.false, eq-eqb _ _ c.if-n-eq0.true, ← c.last_size-e.ensures, ← c.place_start-at.ensures, ← c.word-size.ensures.0, h)

pub overflow_add-n : goal.overflow_add-n
overflow_add-n c =
    let f = c.word-size.ensures.0 in
    let g = (c.type_inv.s c.place_start-at.result).fits in
    omega arith

pub take_after-requires-then-n-size : goal.take_after-requires-then-n-size
take_after-requires-then-n-size c =
    let w : c.word-size.result ≡ get_or c.args.s.now (start_of c.args.z (get_or c.args.ys.now c.args.desk.now.st.y.i 0)) 0 = c.word-size.ensures.0 ∙ ap (λ (k : ℕ). get_or c.args.s.now k 0) c.place_start-at.ensures in
    let t = c.if-n-size.true in
    let x = c.requires.end_high in
    let y = c.if-end-i.false in
    (record { sized = c.requires.lefts.sized; place = c.requires.place c.if-end-i.false; clean = c.requires.clean; few = omega arith }, omega arith)

pub returns-then-n-size : goal.returns-then-n-size
unfolding after_joined
returns-then-n-size c =
    let h = le-leb _ _ c.if-n-size.true in
    c.take_after-then-n-size.ensures ∙ rw (lt-leb _ _ c.if-end-i.false, ne_eqb _ _ c.if-n-eq0.false, ← c.place_start-at.ensures, ← c.word-size.ensures.0, h)

pub returns-else-n-size : goal.returns-else-n-size
unfolding after_joined
returns-else-n-size c =
    let h = lt-leb _ _ c.if-n-size.false in
    rw (lt-leb _ _ c.if-end-i.false, ne_eqb _ _ c.if-n-eq0.false, ← c.place_start-at.ensures, ← c.word-size.ensures.0, h)
