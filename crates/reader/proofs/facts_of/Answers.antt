use Rattle.std.proofs.Common.{arith}
use Rattle.geometry.proofs.Laws.{key_limit_word}
use Rattle.reader.proofs.facts_of.Goals as goal

pub overflow_cast-result : goal.overflow_cast-result
overflow_cast-result c = rw c.key_limit.ensures (omega (arith, key_limit_word _ c.requires.proper.valid))
