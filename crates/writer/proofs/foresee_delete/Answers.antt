use mathlib.Core.Path.{ap, ◌∙◌}
use mathlib.Core.Bool.{true, false}
use Rattle.writer.proofs.Changing.{live_is}
use Rattle.writer.proofs.Foreseeing.{delete_by}
use borrow.Author.Rules.{rules}
use Rattle.writer.proofs.foresee_delete.Goals as goal

pub find_key-requires : goal.find_key-requires
find_key-requires c = (c.requires, search rules)

pub returns-then-was : goal.returns-then-was
returns-then-was c = ap (λ n. record { reason = 0; merges = n }) c.top_merges.ensures ∙ delete_by _ _ c.requires _ true (live_is _ _ _ _ _ c.find_key.ensures c.is_live-was.ensures c.if-was.true)

pub returns-else-was : goal.returns-else-was
returns-else-was c = delete_by _ _ c.requires _ false (live_is _ _ _ _ _ c.find_key.ensures c.is_live-was.ensures c.if-was.false)
