use mathlib.Core.Path.{◌≡◌, refl}
use Rattle.levels.specs.Count.{counts_of}
use Rattle.steps.specs.Running.{no_counts}
use Rattle.writer.proofs.no_tally.Goals as goal

pub returns : goal.returns
unfolding counts_of
returns c =
    let e = c.default.ensures in
    let none : c.default.result ≡ no_counts = λ i. record { merges = e.0 i; written = e.1.0 i; compacted = e.1.1 i } in
    rw none (record { one = refl; two = refl; three = refl })
