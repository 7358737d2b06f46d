use mathlib.Core.Path.{◌∙◌}
use native.Mathlib.Omega.{arith}
use Rattle.lists.proofs.Flat.{part_fits}
use Rattle.lists.proofs.Room.{list_in_store, list_padded}
use Rattle.lists.proofs.put_list.Goals as goal

pub copy-requires : goal.copy-requires
copy-requires c =
    let a = c.args in
    let p = c.requires in
    let f = part_fits a.z p.0.proper a.level a.n p.1.1.0 (omega (arith, p.1.1.1.0)) in
    (rw (c.start_of-from.ensures, c.levels.ensures) (omega (arith, f.1, p.1.1.1.1)), omega (arith, c.list_start-start.ensures, p.1.1.1.0, list_in_store _ _ _ p.0.proper p.0.words p.1.0 p.1.1.0))

pub overflow_add-start : goal.overflow_add-start
overflow_add-start c =
    let p = c.requires in
    omega (arith, c.list_start-start.ensures, p.1.1.1.0, list_in_store _ _ _ p.0.proper p.0.words p.1.0 p.1.1.0)

pub clear-requires : goal.clear-requires
clear-requires c =
    let p = c.requires in
    omega (arith, c.list_start-start.ensures, c.capacity-room.ensures, c.copy.auto.out, p.1.1.1.0, list_in_store _ _ _ p.0.proper p.0.words p.1.0 p.1.1.0)

pub returns : goal.returns
returns c =
    let a = c.args in
    let p = c.requires in
    let i = list_in_store a.z _ a.level p.0.proper p.0.words p.1.0 p.1.1.0 in
    c.clear.ensures ∙ rw (c.copy.ensures, c.capacity-room.ensures, c.list_start-start.ensures, c.start_of-from.ensures, c.levels.ensures) (list_padded a.z a.s.now a.lists.now a.level a.n p.0.proper p.1.1.0 p.1.1.1.0 p.1.1.1.1 (omega (arith, i)))
