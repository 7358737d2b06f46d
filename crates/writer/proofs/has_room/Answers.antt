use Rattle.std.proofs.Common.{◌≡◌, ◌∙◌, sym, true, false, arith}
use Rattle.std.specs.Prelude.{is_ok}
use Rattle.top.proofs.Words.{ready_bounds}
use Rattle.writer.specs.Change.{room_at}
use Rattle.writer.proofs.has_room.Goals as goal

pub returns-then-is_ok : goal.returns-then-is_ok
unfolding room_at
returns-then-is_ok c =
    let e : is_ok c.args.at ≡ true = sym c.is_ok.ensures.value ∙ c.if-is_ok.true in
    rw (c.if-is_ok.true, e)

pub offset_bounds-s-z : goal.offset_bounds-s-z
offset_bounds-s-z c = omega (arith, ready_bounds _ _ c.requires)

pub bounds-s-z : goal.bounds-s-z
bounds-s-z c = (ready_bounds _ _ c.requires).1.1

pub returns-else-is_ok : goal.returns-else-is_ok
unfolding room_at
returns-else-is_ok c =
    let e : is_ok c.args.at ≡ false = sym c.is_ok.ensures.value ∙ c.if-is_ok.false in
    rw (c.top_capacity.ensures, e)
