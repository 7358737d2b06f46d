-- The sum stays below the modulus, so that neither the product nor the last cast overflows.
use Rattle.std.proofs.Common.{◌<◌}
use Rattle.readings.proofs.checksum.Given as goal

abbrev pub invariant-loop-word : goal.invariant-loop-word
invariant-loop-word l = l.sum < 4294967291
