use mathlib.Core.Bool.{not}
use native.Mathlib.Nat.{mul-le-mul}
use native.Mathlib.Omega.{arith}
use borrow.Author.Rules.{rules}
use Prim.Native.Nat.{◌≤◌}
use mathlib.Core.Path.{◌≡◌, sym, ap, ◌∙◌}
use Rattle.directory.specs.Directory.{level_formed}
use Rattle.directory.proofs.Laws.{chunk_room, kept_count, pass_unkept, pass_broken, pass_next, pass_end_top, pass_end_listed, pass_start}
use Rattle.directory.proofs.level_formed.Goals as goal

pub loop-i-init : goal.loop-i-init
unfolding level_formed
loop-i-init c = (search rules, (search rules, (search rules, pass_start _ _ _)))

pub kept-requires : goal.kept-requires
kept-requires c =
    let p = chunk_room _ _ c.requires _ c.loop-i-test.true in
    rw c.chunk_at-chunk.ensures (c.loop-i.invariant.1.0, (p.0, (p.1, c.requires.width_high)))

pub returns-then-not-kept : goal.returns-then-not-kept
returns-then-not-kept c =
    let l = c.loop-i in
    let t = c.if-not-kept.true in
    sym (pass_unkept _ _ _ _ _ _ _ c.loop-i-test.true _ c.chunk_at-chunk.ensures (sym c.kept.ensures ∙ t)) ∙ l.invariant.1.1.1

pub rise_over-requires : goal.rise_over-requires
rise_over-requires c =
    let p = chunk_room _ _ c.requires _ c.loop-i-test.true in
    let k = kept_count _ _ _ _ (sym c.kept.ensures ∙ c.if-not-kept.false) in
    let q = rw (← c.chunk_at-chunk.ensures) at p in
    record { keys_end = omega arith; pays_end = omega arith }

pub returns-in_default : goal.returns-in_default
returns-in_default c =
    let l = c.loop-i in
    sym (pass_broken _ _ _ _ _ _ _ c.loop-i-test.true _ c.chunk_at-chunk.ensures (sym c.kept.ensures ∙ c.if-not-kept.false) (sym c.rise_over.ensures ∙ c.in_default.is)) ∙ l.invariant.1.1.1

pub overflow_add-total : goal.overflow_add-total
overflow_add-total c =
    let l = c.loop-i in
    let q = kept_count _ _ _ _ (sym c.kept.ensures ∙ c.if-not-kept.false) in
    let few : l.i ≤ 1024 = (let z = c.requires.chunks_high in omega arith) in
    omega (arith, mul-le-mul few c.requires.width_high)

pub loop-i-preserved : goal.loop-i-preserved
loop-i-preserved c =
    let l = c.loop-i in
    let f = sym c.kept.ensures ∙ c.if-not-kept.false in
    let q = kept_count _ _ _ _ f in
    (omega arith, (q.1, (omega arith, sym (pass_next _ _ _ _ _ _ _ c.loop-i-test.true _ c.chunk_at-chunk.ensures _ f (sym c.rise_over.ensures ∙ c.in-Some.is)) ∙ l.invariant.1.1.1)))

pub returns-then-dir : goal.returns-then-dir
returns-then-dir c = sym (pass_end_top _ _ _ _ _ _ _ c.loop-i-test.false c.if-dir.true) ∙ c.loop-i.invariant.1.1.1

pub is_wasteful-requires : goal.is_wasteful-requires
is_wasteful-requires c =
    let l = c.loop-i in
    let e : l.i ≡ c.args.dir.chunks = omega arith in
    let t = rw e at l.invariant.1.1.0 in
    let few = c.requires.chunks_high in
    (omega arith, c.requires.width_high, omega arith, t)

pub returns : goal.returns
returns c = ap not c.is_wasteful.ensures ∙ sym (pass_end_listed _ _ _ _ _ _ _ c.loop-i-test.false c.if-dir.false) ∙ c.loop-i.invariant.1.1.1
