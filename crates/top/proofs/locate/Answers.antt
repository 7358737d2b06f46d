use mathlib.Core.Path.{sym, ap, ◌∙◌}
use native.Mathlib.Omega.{arith}
use Rattle.slices.specs.Ranks.{rank_of}
use Rattle.top.proofs.Words.{ready_keys, ready_rise, ready_bounds}
use Rattle.top.proofs.locate.Goals as goal

pub offset_bounds-s-z : goal.offset_bounds-s-z
offset_bounds-s-z c = omega (arith, ready_bounds _ _ c.requires)

pub bounds-s-z : goal.bounds-s-z
bounds-s-z c = (ready_bounds _ _ c.requires).1.1

pub rank_of-requires : goal.rank_of-requires
rank_of-requires c = ((ready_bounds _ _ c.requires).0, (ready_rise _ _ c.requires, omega arith))

pub returns : goal.returns
returns c = c.rank_of.ensures ∙ ap (rank_of c.args.k) (sym (ready_keys _ _ c.requires))
