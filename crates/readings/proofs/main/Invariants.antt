-- n never passes the array.
use Rattle.std.proofs.Common.{◌≡◌, ◌≤◌, length}
use Rattle.readings.proofs.main.Given as goal

abbrev pub invariant-loop : goal.invariant-loop
invariant-loop l = record { inside : l.n ≤ 4096; room : length l.words ≡ 4096 }
