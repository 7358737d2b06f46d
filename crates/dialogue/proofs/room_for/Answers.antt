use Rattle.std.proofs.Common.{ap, ◌∙◌, arith}
use Rattle.std.proofs.lemmas.Result.{err_from_is_err_and}
use Rattle.layout.specs.declared.Layout.{Layout}
use Rattle.dialogue.proofs.Replies.{room_broken, room_long, room_words, built_legal}
use Rattle.dialogue.proofs.room_for.Goals as goal

pub returns-in_err-new : goal.returns-in_err-new
returns-in_err-new c =
    let p = err_from_is_err_and c.from_residual.result c.from_residual.ensures.1 in
    rw (p.1, p.2) (room_broken _ _ c.in_err-new.ensures)

pub old-z-requires : goal.old-z-requires
old-z-requires c = built_legal _ _ c.in_ok-new.ensures

pub returns-then-need-gt-BENCH_WORDS : goal.returns-then-need-gt-BENCH_WORDS
returns-then-need-gt-BENCH_WORDS c = room_long _ _ c.in_ok-new.ensures (omega (arith, c.if-need-gt-BENCH_WORDS.true, ap (λ (y : Layout). y.length) c.old-z.ensures))

pub returns : goal.returns
returns c = room_words _ _ _ c.in_ok-new.ensures (ap (λ (y : Layout). y.length) c.old-z.ensures) (omega (arith, c.if-need-gt-BENCH_WORDS.false))
