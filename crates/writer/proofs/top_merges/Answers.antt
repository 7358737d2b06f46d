use Rattle.std.proofs.Common.{true, false, sym, ◌∙◌}
use Rattle.writer.proofs.Entering.{holds_ready, room_at_lem}
use Rattle.writer.proofs.Foreseeing.{merges_by}
use Rattle.writer.proofs.top_merges.Goals as goal

pub locate-requires : goal.locate-requires
locate-requires c = holds_ready _ _ c.requires

pub has_room-room-requires : goal.has_room-room-requires
has_room-room-requires c = holds_ready _ _ c.requires

pub returns-then-room : goal.returns-then-room
returns-then-room c = merges_by _ _ c.requires _ true (sym (room_at_lem _ _ _ _ c.locate.ensures) ∙ sym c.has_room-room.ensures ∙ c.if-room.true)

pub returns-else-room : goal.returns-else-room
returns-else-room c = merges_by _ _ c.requires _ false (sym (room_at_lem _ _ _ _ c.locate.ensures) ∙ sym c.has_room-room.ensures ∙ c.if-room.false)
