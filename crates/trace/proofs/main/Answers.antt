use Rattle.std.proofs.Common.{arith}
use Rattle.typing.proofs.Parts.{run_fits}
use Rattle.trace.proofs.main.Goals as goal

pub run-requires : goal.run-requires
run-requires c = run_fits 64 16 47840 (omega arith) (omega arith) (omega arith)
