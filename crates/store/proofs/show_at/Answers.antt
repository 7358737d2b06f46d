use Rattle.std.proofs.Common.{◌≡◌, ◌∙◌, arith, rules}
use Rattle.reader.specs.Show.{empty_part}
use Rattle.store.proofs.Answering.{passed, show_refused, show_ready}
use Rattle.store.proofs.show_at.Goals as goal

pub returns-in_default : goal.returns-in_default
returns-in_default c = let e : c.default.result ≡ empty_part = search rules in e ∙ show_refused _ _ c.in_default.ensures _ _

pub show_block-requires : goal.show_block-requires
show_block-requires c = (passed _ _ c.in-Ok.ensures, omega arith)

pub returns : goal.returns
returns c = c.show_block.ensures ∙ show_ready _ _ c.in-Ok.ensures _ _
