use native.Mathlib.Omega.{arith}
use Rattle.lines.proofs.Print.{format_is, unreadable_is, printed_as}
use Rattle.dialogue.proofs.Replies.{line_fits, room_fits, part_room_lem, change_replied, get_replied, unreadable_replied, refused_replied, format_replied}
use borrow.Author.Rules.{rules}
use Rattle.dialogue.proofs.answer.Goals as goal

pub slice_bounds-format-end : goal.slice_bounds-format-end
slice_bounds-format-end c = omega (arith, (room_fits _ _ c.in-Ok.ensures).1.1, c.requires.0)

pub print_formatted-requires : goal.print_formatted-requires
print_formatted-requires c = omega (arith, c.requires.1.1.1, line_fits c.args.tickets)

pub print_formatted-requires-in-Ok : goal.print_formatted-requires-in-Ok
print_formatted-requires-in-Ok c = omega (arith, c.requires.1.1.1, line_fits c.args.tickets)

pub say_put-end-requires : goal.say_put-end-requires
say_put-end-requires c = part_room_lem _ _ _ _ c.requires.1.0 c.requires.1.1.1

pub say_delete-end-requires : goal.say_delete-end-requires
say_delete-end-requires c = part_room_lem _ _ _ _ c.requires.1.0 c.requires.1.1.1

pub print_looked-requires : goal.print_looked-requires
print_looked-requires c = omega (arith, c.requires.1.1.1, line_fits c.args.tickets)

pub print_line-requires : goal.print_line-requires
print_line-requires c = omega (arith, c.requires.1.1.1, line_fits c.args.tickets)

pub returns-in-Err : goal.returns-in-Err
returns-in-Err c = refused_replied _ _ _ _ _ _ _ c.requires.1.0 c.requires.1.1.0 c.answered.ensures _ _ _ _ _ _ _ c.in-Format.is _ _ c.in-Err.ensures c.print_formatted.ensures

pub returns-in-Ok : goal.returns-in-Ok
returns-in-Ok c = format_replied _ _ _ _ _ _ _ c.requires.1.0 (room_fits _ _ c.in-Ok.ensures).1.1 c.answered-in-Ok.ensures _ _ _ _ _ _ _ c.in-Format.is c.args.n c.format-f.result _ _ _ c.in-Ok.ensures c.requires.0 c.format-f.ensures c.format-f.auto.s c.print_formatted-in-Ok.ensures

pub returns-in-Put : goal.returns-in-Put
returns-in-Put c = change_replied _ _ _ _ _ _ _ c.requires.1.0 c.requires.1.1.0 c.answered-in-Put.ensures _ _ c.requires.0 _ _ _ _ c.in-Put.is c.requires.1.0 c.say_put-end.auto.s c.say_put-end.ensures

pub returns-in-Delete : goal.returns-in-Delete
returns-in-Delete c = change_replied _ _ _ _ _ _ _ c.requires.1.0 c.requires.1.1.0 c.answered-in-Delete.ensures _ _ c.requires.0 _ _ _ _ c.in-Delete.is c.requires.1.0 c.say_delete-end.auto.s c.say_delete-end.ensures

pub returns-in-Get : goal.returns-in-Get
returns-in-Get c = get_replied _ _ _ _ _ _ _ c.requires.1.0 c.requires.1.1.0 c.answered-in-Get.ensures _ _ c.requires.0 _ c.look_up-l.result c.in-Get.is c.look_up-l.ensures c.print_looked.ensures

pub returns-in-Unreadable : goal.returns-in-Unreadable
returns-in-Unreadable c = unreadable_replied _ _ _ _ _ _ _ c.requires.1.0 c.requires.1.1.0 c.answered-in-Unreadable.ensures _ _ c.requires.0 c.in-Unreadable.is (printed_as _ _ _ _ _ _ _ unreadable_is (omega arith) c.print_line.ensures)
