use mathlib.Core.Path.{sym, ◌∙◌}
use Rattle.writer.proofs.Entering.{holds_ready, full_store, all_ready, none_entered, all_entered, none_filed, all_filed, room_at_lem}
use Rattle.writer.proofs.enter_record.Goals as goal

pub locate-at-requires : goal.locate-at-requires
locate-at-requires c = holds_ready _ _ c.requires

pub has_room-requires : goal.has_room-requires
has_room-requires c = holds_ready _ _ c.requires

pub place_record-requires : goal.place_record-requires
place_record-requires c = (holds_ready _ _ c.requires, (c.locate-at.ensures, sym c.has_room.ensures ∙ c.if-has_room.true))

pub returns-then-has_room : goal.returns-then-has_room
returns-then-has_room c =
    let p = c.requires in
    let h = sym (room_at_lem _ _ _ _ c.locate-at.ensures) ∙ sym c.has_room.ensures ∙ c.if-has_room.true in
    (none_entered _ _ p _ _ _ _ h c.no_tally.ensures c.place_record.ensures, none_filed _ _ p _ _ h)

pub merge_all-t-requires : goal.merge_all-t-requires
merge_all-t-requires c = full_store _ _ c.requires _ (sym (room_at_lem _ _ _ _ c.locate-at.ensures) ∙ sym c.has_room.ensures ∙ c.if-has_room.false)

pub locate-after-requires : goal.locate-after-requires
locate-after-requires c = (all_ready _ _ c.requires _ _ _ (sym (room_at_lem _ _ _ _ c.locate-at.ensures) ∙ sym c.has_room.ensures ∙ c.if-has_room.false) c.merge_all-t.ensures.0).0

pub place_record-requires-2 : goal.place_record-requires-2
place_record-requires-2 c =
    let a = all_ready _ _ c.requires _ _ _ (sym (room_at_lem _ _ _ _ c.locate-at.ensures) ∙ sym c.has_room.ensures ∙ c.if-has_room.false) c.merge_all-t.ensures.0 in
    (a.0, (c.locate-after.ensures, room_at_lem _ _ _ _ c.locate-after.ensures ∙ a.1))

pub returns : goal.returns
returns c =
    let p = c.requires in
    let h = sym (room_at_lem _ _ _ _ c.locate-at.ensures) ∙ sym c.has_room.ensures ∙ c.if-has_room.false in
    let m = c.merge_all-t.ensures in
    (all_entered _ _ p _ _ _ _ _ h m.0 c.place_record-2.ensures, all_filed _ _ p _ _ _ h m.1)
