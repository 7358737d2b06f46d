use native.Mathlib.Omega.{arith}
use Rattle.layout.proofs.Laws.{fitted_count}
use Rattle.form.specs.Form.{top_of}
use Rattle.form.proofs.top_of.Goals as goal

pub word-records-requires : goal.word-records-requires
word-records-requires c = omega (arith, fitted_count _ _ c.requires)

pub returns : goal.returns
unfolding top_of
returns c = rw (c.word-records.ensures.0, c.block_records-width.ensures)
