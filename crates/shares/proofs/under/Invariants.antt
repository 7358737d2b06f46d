use lib.ListN.{length, take}
use mathlib.Core.Path.{◌≡◌}
use Rattle.directory.specs.Directory.{records_of}
use Rattle.shares.specs.Shadow.{shadow, hide_all}
use Rattle.shares.proofs.under.Given as goal

abbrev pub invariant-loop-up : goal.invariant-loop-up
invariant-loop-up l = (length l.gone ≡ length l.initial.gone) × (shadow l.s l.low l.gone ≡ hide_all l.s (take l.up-index l.above) (records_of l.s l.low))
