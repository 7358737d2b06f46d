use native.Mathlib.Omega.{arith}
use mathlib.Core.Path.{refl, sym, ◌∙◌}
use Rattle.dialogue.proofs.Feeding.{start_ends, line_ends}
use borrow.Author.Rules.{rules}
use Rattle.dialogue.proofs.finish.Goals as goal

pub returns-then-is_start : goal.returns-then-is_start
returns-then-is_start c = (omega arith, start_ends _ _ _ (sym c.is_start.ensures ∙ c.if-is_start.true))

pub returns : goal.returns
returns c = (omega (arith, c.hear.ensures.1.1.0), line_ends _ _ _ _ _ _ _ (sym c.is_start.ensures ∙ c.if-is_start.false) c.hear.ensures.1.1.1 refl)
