use Prim.Native.Nat.{◌-◌, ◌<◌}
use mathlib.Core.Path.{refl}
use native.Mathlib.Omega.{arith}
use Rattle.steps.proofs.Merging.{level_low, two_ready, two_few, two_words, two_merged}
use Rattle.steps.proofs.merge_two.Goals as goal
use Rattle.steps.proofs.merge_two.Goals.{Start}

-- both levels are listed
low : (c : Start) → c.args.level < 3
low c = let k = c.requires.0 in omega (arith, level_low _ _ _ _ k.proper k.facts, k.proper.valid.ranged.h_high)

pub offset_bounds-ns-level : goal.offset_bounds-ns-level
offset_bounds-ns-level c = omega (arith, low (goal.at.offset_bounds-ns-level c).Start)

pub bounds-ns-level : goal.bounds-ns-level
bounds-ns-level c = omega (arith, low (goal.at.bounds-ns-level c).Start)

pub offset_bounds-ns-level-2 : goal.offset_bounds-ns-level-2
offset_bounds-ns-level-2 c = omega (arith, low (goal.at.offset_bounds-ns-level-2 c).Start)

pub bounds-ns-level-2 : goal.bounds-ns-level-2
bounds-ns-level-2 c = omega (arith, low (goal.at.bounds-ns-level-2 c).Start)

pub offset_bounds-ns-level-3 : goal.offset_bounds-ns-level-3
offset_bounds-ns-level-3 c = omega (arith, low (goal.at.offset_bounds-ns-level-3 c).Start)

pub bounds-ns-level-3 : goal.bounds-ns-level-3
bounds-ns-level-3 c = omega (arith, low (goal.at.bounds-ns-level-3 c).Start)

pub offset_bounds-ns-level-4 : goal.offset_bounds-ns-level-4
offset_bounds-ns-level-4 c = omega (arith, low (goal.at.offset_bounds-ns-level-4 c).Start)

pub bounds-ns-level-4 : goal.bounds-ns-level-4
bounds-ns-level-4 c = omega (arith, low (goal.at.bounds-ns-level-4 c).Start)

pub overflow_add-level : goal.overflow_add-level
overflow_add-level c = omega (arith, low (goal.at.overflow_add-level c).Start)

pub merge_pair-m-requires : goal.merge_pair-m-requires
merge_pair-m-requires c = two_ready _ _ _ _ _ c.requires.0 _ c.requires.1.0 (c.args.level - 1) (omega (arith, c.requires.1.1))

pub count-requires : goal.count-requires
count-requires c =
    let w = two_few _ _ _ _ _ c.requires.0 c.args.desk.now.used c.requires.1.0 (c.args.level - 1) (omega (arith, c.requires.1.1)) _ _ _ _ c.merge_pair-m.ensures in
    (c.requires.0.small, record { merges = omega arith; written = w; compacted = omega arith })

pub ticket-requires : goal.ticket-requires
ticket-requires c = two_words _ _ _ _ _ c.requires.0 c.args.desk.now.used c.requires.1.0 (c.args.level - 1) (omega (arith, c.requires.1.1)) _ _ _ _ c.merge_pair-m.ensures

pub returns : goal.returns
returns c = two_merged _ _ _ _ _ c.requires.0 c.args.desk.now.used c.requires.1.0 (c.args.level - 1) (omega (arith, c.requires.1.1)) _ _ _ _ c.merge_pair-m.ensures _ _ _ _ c.count.ensures refl c.ticket.ensures refl
