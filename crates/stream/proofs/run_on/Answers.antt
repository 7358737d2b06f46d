use mathlib.Core.Path.{sym, ◌∙◌}
use Rattle.stream.proofs.Taking.{grows_whole, grows_lower, grows_upper, grows_tie}
use Rattle.stream.proofs.run_on.Goals as goal

pub returns-then-is_some : goal.returns-then-is_some
returns-then-is_some c = grows_whole _ _ _ _ _ _ _ _ (sym c.if-is_some.ensures) c.run.ensures

pub returns-then-before : goal.returns-then-before
returns-then-before c = grows_lower _ _ _ _ _ _ _ _ c.ahead-more.result (sym c.if-is_some.ensures) (sym c.before-2.ensures ∙ c.if-before.true) c.ahead-more.ensures (c.run-then-before.ensures ∙ rw c.after-m.ensures)

pub returns-then-before-2 : goal.returns-then-before-2
returns-then-before-2 c = grows_upper _ _ _ _ _ _ _ _ c.ahead-more-then-before-2.result (sym c.if-is_some.ensures) (sym c.before-2.ensures ∙ c.if-before.false) (sym c.before-3.ensures ∙ c.if-before-2.true) c.ahead-more-then-before-2.ensures (c.run-then-before-2.ensures ∙ rw c.after-m-then-before-2.ensures)

pub returns : goal.returns
returns c = grows_tie _ _ _ _ _ _ _ _ (sym c.if-is_some.ensures) (sym c.before-2.ensures ∙ c.if-before.false) (sym c.before-3.ensures ∙ c.if-before-2.false) c.run-2.ensures
