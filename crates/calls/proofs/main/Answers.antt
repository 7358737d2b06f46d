use Rattle.std.proofs.Common.{arith}
use Rattle.typing.proofs.Parts.{run_fits}
use Rattle.calls.proofs.main.Goals as goal

pub run-requires : goal.run-requires
run-requires c = run_fits 0 512 23552 (omega arith) (omega arith) (omega arith)
