use Rattle.std.proofs.Common.{arith}
use Rattle.store.proofs.Answering.{passed}
use Rattle.store.proofs.look_up.Goals as goal

pub find_key-held-requires : goal.find_key-held-requires
find_key-held-requires c = (passed _ _ c.in_ok-check.ensures, omega arith)
