use Prim.Native.Nat.{◌-◌}
use native.Mathlib.Omega.{arith}
use mathlib.Core.Path.{◌≡◌, ◌∙◌}
use Rattle.joins.specs.Joins.{rested_out}
use Rattle.joins.proofs.Laws.{rested_put}
use Rattle.merging.proofs.Merge.{ready, ended, closing, leaves_in}
use Rattle.merging.proofs.merge_blocks.Goals as goal
use Rattle.merging.proofs.merge_blocks.Goals.{After-copy_list}

-- the blocks before Y stand in the list
before : (c : After-copy_list) → c.copy_list.new.out ≡ rested_out c.args.desk.now.out 0 c.args.ys.now c.args.parts.start (c.args.parts.y - c.args.parts.start)
before c =
    let k = c.requires in
    let h = k.y_low in
    let l = k.y_high in
    let m = k.end_high in
    let n = k.room in
    c.copy_list.ensures ∙ rested_put c.args.desk.now.out 0 c.args.ys.now c.args.parts.start (c.args.parts.y - c.args.parts.start) (omega (arith, k.ys_long)) (omega (arith, k.out_long))

pub stream-requires : goal.stream-requires
stream-requires c =
    let a = c.args in
    rw (c.of-o.ensures, c.inputs-t.ensures, c.begin-desk.ensures, c.limit-limit.ensures, before (goal.at.stream-requires c).After-copy_list)
    record { ready = ready a.z a.s.now a.desk.now.used a.desk.now.out a.xs.now a.ys.now a.parts a.cursor c.requires; ends = ended a.z a.s.now a.desk.now.used a.desk.now.out a.xs.now a.ys.now a.parts a.cursor c.requires }

pub close-requires : goal.close-requires
close-requires c =
    let a = c.args in
    rw (c.stream.ensures, c.of-o.ensures, c.inputs-t.ensures, c.begin-desk.ensures, c.limit-limit.ensures, before (goal.at.close-requires c).After-copy_list) (closing a.z a.s.now a.desk.now.used a.desk.now.out a.xs.now a.ys.now a.parts a.cursor c.requires)

pub returns : goal.returns
returns c =
    let a = c.args in
    leaves_in a.z a.s.now a.desk.now.used a.desk.now.out a.xs.now a.ys.now a.parts a.cursor c.requires _
    (c.close.ensures ∙ rw (c.stream.ensures, c.of-o.ensures, c.inputs-t.ensures, c.begin-desk.ensures, c.limit-limit.ensures, before (goal.at.returns c).After-copy_list))
