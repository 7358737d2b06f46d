use Rattle.std.proofs.Common.{sym, ap, ◌∙◌}
use Rattle.layout.specs.declared.Layout.{Layout}
use Rattle.geometry.proofs.Laws.{built_valid}
use Rattle.mewilovang.proofs.Replying.{words_broken, words_legal}
use Rattle.mewilovang.proofs.mewilovang_words.Goals as goal

pub returns-in_default : goal.returns-in_default
returns-in_default c = words_broken _ _ c.in_default.ensures

pub old-requires : goal.old-requires
old-requires c = (built_valid _ _ (sym c.in-Ok.ensures)).1

pub returns : goal.returns
returns c = ap (λ (y : Layout). y.length) c.old.ensures ∙ words_legal _ _ c.in-Ok.ensures
