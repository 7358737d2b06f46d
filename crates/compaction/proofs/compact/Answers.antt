-- The searches are for the edit `skips_first_block`: a part of the list is proved where it is the whole list, and refused where it is not.
use Rattle.std.proofs.lemmas.List.{take_rest}
use borrow.Author.Rules.{rules}
use mathlib.Core.Path.{◌≡◌, ◌∙◌}
use lib.ListN.{length}
use Rattle.geometry.specs.Room.{list_room}
use Rattle.stream.specs.Machine.{memory}
use Rattle.compaction.proofs.Whole.{gathers, flushes_in, leaves_in}
use Rattle.compaction.proofs.compact.Goals as goal

pub gather_blocks-requires : goal.gather_blocks-requires
gather_blocks-requires c =
    let a = c.args in
    let l : length a.desk.now.out ≡ list_room = search rules in
    rw (c.of-o.ensures, c.begin-desk.ensures) (search (rules, take_rest, gathers a.z a.s.now a.desk.now.used a.desk.now.out a.list.now a.cursor c.requires l))

pub flush-requires : goal.flush-requires
flush-requires c =
    let a = c.args in
    let l : length a.desk.now.out ≡ list_room = search rules in
    rw c.of-o.ensures (flushes_in a.z a.s.now a.desk.now.used a.desk.now.out a.list.now a.cursor c.requires l (memory c.gather_blocks.new.s c.gather_blocks.new.desk) (c.gather_blocks.ensures ∙ rw (c.of-o.ensures, c.begin-desk.ensures) (search (rules, take_rest))))

pub returns : goal.returns
returns c =
    let a = c.args in
    let l : length a.desk.now.out ≡ list_room = search rules in
    leaves_in a.z a.s.now a.desk.now.used a.desk.now.out a.list.now a.cursor c.requires l (memory c.flush.new.s c.flush.new.self) (c.flush.ensures ∙ rw (c.gather_blocks.ensures, c.of-o.ensures, c.begin-desk.ensures) (search (rules, take_rest)))
