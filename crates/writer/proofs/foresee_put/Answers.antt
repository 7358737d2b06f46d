use mathlib.Core.Path.{sym, ap, ◌∙◌}
use mathlib.Core.Bool.{true, false}
use Rattle.writer.proofs.Foreseeing.{put_by}
use Rattle.writer.proofs.foresee_put.Goals as goal

pub returns-then-is_full : goal.returns-then-is_full
returns-then-is_full c = put_by _ true _ (sym c.if-is_full.true ∙ c.is_full.ensures)

pub returns-else-is_full : goal.returns-else-is_full
returns-else-is_full c = ap (λ n. record { reason = 0; merges = n }) c.top_merges.ensures ∙ put_by _ false _ (sym c.if-is_full.false ∙ c.is_full.ensures)
