use Rattle.std.proofs.Common.{arith}
use Rattle.store.proofs.Answering.{passed}
use Rattle.store.proofs.next.Goals as goal

pub next_key-requires : goal.next_key-requires
next_key-requires c = (passed _ _ c.in_ok-check.ensures, omega arith)
