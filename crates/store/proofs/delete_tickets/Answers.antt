use Rattle.std.proofs.Common.{length-take-le, refl, sym, ap, ◌∙◌, arith}
use Rattle.levels.specs.Tickets.{laid}
use Rattle.tickets.proofs.Gathering.{gathered_all}
use Rattle.store.proofs.Changing.{delete_merges, rows_hold}
use Rattle.store.proofs.delete_tickets.Goals as goal

pub merges-requires : goal.merges-requires
merges-requires c = let m = delete_merges _ _ _ _ c.delete_rows-changed.ensures.0 in omega (arith, m.0, m.1)

pub slice_bounds-rows-end : goal.slice_bounds-rows-end
slice_bounds-rows-end c = let d = c.delete_rows-changed.ensures in (rows_hold _ _ _ _ _ (delete_merges _ _ _ _ d.0) c.merges.ensures refl d.1).1

pub slice_bounds-hand_out-end : goal.slice_bounds-hand_out-end
slice_bounds-hand_out-end c = let d = c.delete_rows-changed.ensures in sym (length-take-le _ _ (rows_hold _ _ _ _ _ (delete_merges _ _ _ _ d.0) c.merges.ensures refl d.1).1)

pub returns : goal.returns
returns c =
    let d = c.delete_rows-changed.ensures in
    let m = delete_merges _ _ _ _ d.0 in
    (d.0, c.hand_out.ensures ∙ ap (λ ts. laid ts c.args.tickets.now) (gathered_all _ _ _ _ (c.merges.ensures ∙ m.0) (omega (arith, m.1)) d.1))
