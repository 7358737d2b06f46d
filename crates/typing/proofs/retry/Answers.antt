use Rattle.std.proofs.Common.{of_calls}
use Rattle.std.proofs.lemmas.Fn.{FoldsTo-push}
use Rattle.typing.proofs.retry.Goals as goal

pub loop-preserved : goal.loop-preserved
loop-preserved g c = (search of_calls, (_, FoldsTo-push _ _ _ _ _ _ c.loop.invariant.1.1 c.in-Err.ensures))
