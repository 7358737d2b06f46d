use Rattle.std.proofs.Common.{arith, sym, ◌∙◌}
use mathlib.Core.Bool.{false≢true}
use Rattle.form.proofs.Steps.{spare_in, spare_is}
use Rattle.form.proofs.spare_ok.Goals as goal
use Rattle.form.proofs.spare_ok.Goals.{then-zeros, else-zeros}

pub overflow_sub-left : goal.overflow_sub-left
overflow_sub-left c = (spare_in _ _ c.requires _ c.top_of-top.ensures _ c.capacity-room.ensures).few

pub overflow_mul-past : goal.overflow_mul-past
overflow_mul-past c = let q = spare_in _ _ c.requires _ c.top_of-top.ensures _ c.capacity-room.ensures in omega arith

pub overflow_add-marks : goal.overflow_add-marks
overflow_add-marks c = let q = spare_in _ _ c.requires _ c.top_of-top.ensures _ c.capacity-room.ensures in let w = c.requires.sized.words in let z = c.requires.sized.proper.short in omega arith

pub zeros-requires : goal.zeros-requires
zeros-requires c = (spare_in _ _ c.requires _ c.top_of-top.ensures _ c.capacity-room.ensures).marks

pub overflow_add-keys : goal.overflow_add-keys
overflow_add-keys c = let q = spare_in _ _ c.requires _ c.top_of-top.ensures _ c.capacity-room.ensures in let w = c.requires.sized.words in let z = c.requires.sized.proper.short in omega arith

pub overflow_mul-left : goal.overflow_mul-left
overflow_mul-left c = let q = spare_in _ _ c.requires _ c.top_of-top.ensures _ c.capacity-room.ensures in omega arith

pub zeros-requires-then-zeros : goal.zeros-requires-then-zeros
zeros-requires-then-zeros c = (spare_in _ _ c.requires _ c.top_of-top.ensures _ c.capacity-room.ensures).keys

pub overflow_add-pays : goal.overflow_add-pays
overflow_add-pays c = let q = spare_in _ _ c.requires _ c.top_of-top.ensures _ c.capacity-room.ensures in let w = c.requires.sized.words in let z = c.requires.sized.proper.short in omega arith

pub overflow_mul-left-then-zeros-2 : goal.overflow_mul-left-then-zeros-2
overflow_mul-left-then-zeros-2 c = let q = spare_in _ _ c.requires _ c.top_of-top.ensures _ c.capacity-room.ensures in omega arith

pub zeros-requires-then-zeros-2 : goal.zeros-requires-then-zeros-2
zeros-requires-then-zeros-2 c = (spare_in _ _ c.requires _ c.top_of-top.ensures _ c.capacity-room.ensures).payloads

pub returns-then-zeros-2 : goal.returns-then-zeros-2
returns-then-zeros-2 c =
    elim c.if-zeros.branch [
      | then-zeros w ↦ rw (← spare_is _ _ _ c.top_of-top.ensures _ c.capacity-room.ensures, ← c.zeros.ensures, w.if-zeros.true, ← w.zeros-then-zeros.ensures, ← w.value-is, c.if-zeros-2.true) c.zeros-then-zeros-2.ensures
      | else-zeros w ↦ absurd (false≢true (sym w.if-zeros.false ∙ sym w.value-is ∙ c.if-zeros-2.true))
    ]

pub returns-else-zeros-2 : goal.returns-else-zeros-2
returns-else-zeros-2 c =
    elim c.if-zeros.branch [
      | then-zeros w ↦ rw (c.if-zeros-2.false, ← spare_is _ _ _ c.top_of-top.ensures _ c.capacity-room.ensures, ← c.zeros.ensures, w.if-zeros.true, ← w.zeros-then-zeros.ensures, ← w.value-is, c.if-zeros-2.false)
      | else-zeros w ↦ rw (c.if-zeros-2.false, ← spare_is _ _ _ c.top_of-top.ensures _ c.capacity-room.ensures, ← c.zeros.ensures, w.if-zeros.false)
    ]
