-- Of the bytes read so far, `part`, each turn has read one at least, and what is heard of them has been written.
use Rattle.std.proofs.Common.{◌≡◌, ℕ, ◌≤◌, List, length}
use Rattle.std.specs.Io.KnownBytes.{Appends, Consumes}
use Rattle.dialogue.specs.Dialogue.{opening, heard}
use Rattle.dialogue.specs.State.{Holds}
use Rattle.typing.proofs.run.Given as goal

abbrev pub invariant-loop : goal.invariant-loop
invariant-loop g l =
    (length l.words ≡ 16384) × ((part : List ℕ) × (l.counter ≤ length part) × Consumes (g.R.Read.remaining l.initial.reader) (g.R.Read.remaining l.reader) part
    × Appends (g.W.Write.contents l.initial.writer) (g.W.Write.contents l.writer) (heard l.tickets opening part).bytes × Holds l.tickets l.state l.words (heard l.tickets opening part).session)
