use Rattle.std.proofs.Common.{arith}
use Rattle.store.proofs.Answering.{passed}
use Rattle.store.proofs.stretch.Goals as goal

pub list_stretch-requires : goal.list_stretch-requires
list_stretch-requires c = (passed _ _ c.in_ok-check.ensures, (omega arith, omega arith))
