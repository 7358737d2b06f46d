use mathlib.Core.Path.{◌≡◌, refl, ap}
use native.Mathlib.Omega.{arith}
use lib.ListN.{replicate}
use Rattle.layout.proofs.Laws.{fitted_hand}
use Rattle.steps.specs.Running.{no_counts}
use Rattle.cascade.proofs.Whole.{full_fitted, load_asks, loaded}
use Rattle.cascade.proofs.load_run.Goals as goal

pub load-requires : goal.load-requires
load-requires c = load_asks _ _ c.requires.0 c.args.lists.now c.requires.1

pub offset_bounds-s-z : goal.offset_bounds-s-z
offset_bounds-s-z c = omega (arith, fitted_hand _ _ (full_fitted _ _ c.requires.0))

pub bounds-s-z : goal.bounds-s-z
bounds-s-z c = omega (arith, fitted_hand _ _ (full_fitted _ _ c.requires.0))

pub returns : goal.returns
returns c =
    let e = c.default.ensures in
    let none : c.default.result ≡ no_counts = λ i. record { merges = e.0 i; written = e.1.0 i; compacted = e.1.1 i } in
    loaded _ _ c.requires.0 _ _ c.load.ensures refl (ap (replicate 3) none)
