use Rattle.std.proofs.Common.{◌+◌, ◌<◌, arith, sym, ◌∙◌}
use Rattle.form.specs.Form.{lists_ok}
use Rattle.form.proofs.Steps.{list_room_lem, lists_unfresh, lists_unzero, lists_next, lists_start, lists_end}
use Rattle.form.proofs.lists_ok.Goals as goal

pub loop-i-init : goal.loop-i-init
unfolding lists_ok
loop-i-init c = rw c.levels-h.ensures (lists_start _ _ _ _)

pub list_fresh-requires : goal.list_fresh-requires
list_fresh-requires c =
    let q = list_room_lem _ _ _ c.loop-i.auto.i _ c.level_of-level.ensures c.requires (omega (arith, c.levels-h.ensures, c.loop-i-test.true)) _ c.capacity-room.ensures in
    (omega arith, omega (arith, c.places-p.ensures, c.requires.sized.proper.valid.places_high))

pub returns-then-not-list_fresh : goal.returns-then-not-list_fresh
returns-then-not-list_fresh c =
    let f = rw c.places-p.ensures at (sym c.list_fresh.ensures.0 ∙ c.if-not-list_fresh.true) in
    sym (lists_unfresh _ _ _ c.loop-i.auto.i _ c.level_of-level.ensures _ _ c.loop-i-test.true f) ∙ c.loop-i.invariant

pub overflow_add-start : goal.overflow_add-start
overflow_add-start c =
    let q = list_room_lem _ _ _ c.loop-i.auto.i _ c.level_of-level.ensures c.requires (omega (arith, c.levels-h.ensures, c.loop-i-test.true)) _ c.capacity-room.ensures in
    omega (arith, c.requires.sized.proper.short, c.requires.sized.words)

pub overflow_sub-room : goal.overflow_sub-room
overflow_sub-room c = (list_room_lem _ _ _ c.loop-i.auto.i _ c.level_of-level.ensures c.requires (omega (arith, c.levels-h.ensures, c.loop-i-test.true)) _ c.capacity-room.ensures).1

pub zeros-requires : goal.zeros-requires
zeros-requires c =
    let q = list_room_lem _ _ _ c.loop-i.auto.i _ c.level_of-level.ensures c.requires (omega (arith, c.levels-h.ensures, c.loop-i-test.true)) _ c.capacity-room.ensures in
    omega arith

pub returns-then-not-zeros : goal.returns-then-not-zeros
returns-then-not-zeros c =
    let f = rw c.places-p.ensures at (sym c.list_fresh.ensures.0 ∙ c.if-not-list_fresh.false) in
    sym (lists_unzero _ _ _ c.loop-i.auto.i _ c.level_of-level.ensures _ _ c.loop-i-test.true _ c.capacity-room.ensures f (sym c.zeros.ensures ∙ c.if-not-zeros.true)) ∙ c.loop-i.invariant

pub loop-i-preserved : goal.loop-i-preserved
loop-i-preserved c =
    let e = sym c.list_fresh.ensures.0 ∙ c.if-not-list_fresh.false in
    let f = rw c.places-p.ensures at e in
    rw (c.list_fresh.ensures.1 c.if-not-list_fresh.false)
    (sym (lists_next _ _ _ c.loop-i.auto.i _ c.level_of-level.ensures _ _ c.loop-i-test.true _ c.capacity-room.ensures f (sym c.zeros.ensures ∙ c.if-not-zeros.false)) ∙ c.loop-i.invariant)

pub returns-else-not-zeros : goal.returns-else-not-zeros
returns-else-not-zeros c =
    let f = rw c.places-p.ensures at (sym c.list_fresh.ensures.0 ∙ c.if-not-list_fresh.false) in
    let g : c.levels-h.result < c.loop-i.i + 1 = omega arith in
    sym (lists_end _ _ _ _ _ g)
    ∙ sym (lists_next _ _ _ c.loop-i.auto.i _ c.level_of-level.ensures _ _ c.loop-i-test.true _ c.capacity-room.ensures f (sym c.zeros.ensures ∙ c.if-not-zeros.false)) ∙ c.loop-i.invariant
