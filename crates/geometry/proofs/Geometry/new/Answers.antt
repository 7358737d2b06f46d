use mathlib.Core.Path.{sym, ◌∙◌}
use Rattle.geometry.specs.Geometry.{built_of, is_legal}
use Rattle.geometry.proofs.Laws.{ranges_ranged}
use Rattle.geometry.proofs.Geometry.new.Goals as goal

pub in_sizes-requires : goal.in_sizes-requires
in_sizes-requires c = ranges_ranged _ (sym c.in_ranges.ensures ∙ c.if-in_ranges.true)

pub returns-then-in_sizes : goal.returns-then-in_sizes
unfolding built_of is_legal
returns-then-in_sizes c = rw (← c.in_sizes.ensures, c.if-in_sizes.true, ← c.in_ranges.ensures, c.if-in_ranges.true)

pub returns-else-in_sizes : goal.returns-else-in_sizes
unfolding built_of is_legal
returns-else-in_sizes c = rw (← c.in_sizes.ensures, c.if-in_sizes.false, ← c.in_ranges.ensures, c.if-in_ranges.true)

pub returns-else-in_ranges : goal.returns-else-in_ranges
unfolding built_of is_legal
returns-else-in_ranges c = rw (← c.in_ranges.ensures, c.if-in_ranges.false)
