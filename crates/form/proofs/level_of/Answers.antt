use native.Mathlib.Omega.{arith}
use Rattle.layout.proofs.Laws.{fitted_count}
use Rattle.form.specs.Form.{level_of}
use Rattle.form.proofs.level_of.Goals as goal

pub word-n-requires : goal.word-n-requires
word-n-requires c = omega (arith, fitted_count _ _ c.requires.0, c.requires.1.1)

pub returns : goal.returns
unfolding level_of
returns c = rw (c.word-n.ensures.0, c.list_start-list.ensures, c.levels-h.ensures, c.block_records-width.ensures)
