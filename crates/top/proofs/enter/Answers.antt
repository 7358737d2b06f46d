use mathlib.Core.Path.{sym, subst, ◌∙◌}
use native.Mathlib.Omega.{arith}
use Rattle.geometry.proofs.Bounds.{top_capacity_high}
use Rattle.top.specs.Top.{Room}
use Rattle.top.proofs.Words.{ready_bounds}
use Rattle.top.proofs.Pushing.{found_ready, found_entered, gap_ready, gap_entered}
use Rattle.top.proofs.enter.Goals as goal

pub write_slot-requires : goal.write_slot-requires
write_slot-requires c = found_ready _ _ c.requires.0 (record { key = c.args.k; mark = c.args.mark; pay = c.args.v }) _ (sym c.in-Ok.is ∙ c.requires.1.0)

pub offset_bounds-s-z : goal.offset_bounds-s-z
offset_bounds-s-z c = omega (arith, ready_bounds _ _ c.requires.0)

pub bounds-s-z : goal.bounds-s-z
bounds-s-z c = (ready_bounds _ _ c.requires.0).1.1

pub push_in-requires : goal.push_in-requires
push_in-requires c =
    let k = c.requires in
    (k.0, gap_ready _ _ k.0 (record { key = c.args.k; mark = c.args.mark; pay = c.args.v }) _ (sym c.in-Err.is ∙ k.1.0) (subst (Room c.args.z c.args.s.now) c.in-Err.is k.1.1))

pub overflow_add-s : goal.overflow_add-s
overflow_add-s c = let t = c.requires.0 in omega (arith, t.fits, top_capacity_high _ t.proper.valid.ranged)

pub offset_bounds-s-z-in-Err : goal.offset_bounds-s-z-in-Err
offset_bounds-s-z-in-Err c = omega (arith, ready_bounds _ _ c.requires.0)

pub bounds-s-z-in-Err : goal.bounds-s-z-in-Err
bounds-s-z-in-Err c = omega (arith, c.push_in.auto.s, ready_bounds _ _ c.requires.0)

pub returns-in-Ok : goal.returns-in-Ok
returns-in-Ok c = c.write_slot.ensures ∙ found_entered _ _ c.requires.0 (record { key = c.args.k; mark = c.args.mark; pay = c.args.v }) _ (sym c.in-Ok.is ∙ c.requires.1.0)

pub returns-in-Err : goal.returns-in-Err
returns-in-Err c =
    let k = c.requires in
    rw c.push_in.ensures (gap_entered _ _ k.0 (record { key = c.args.k; mark = c.args.mark; pay = c.args.v }) _ (sym c.in-Err.is ∙ k.1.0) (subst (Room c.args.z c.args.s.now) c.in-Err.is k.1.1))
