use Rattle.std.proofs.Common.{rules}
use mathlib.Core.Path.{◌≡◌}
use lib.ListN.{length}
use Rattle.walk.proofs.From.{from_all}
use Rattle.walk.proofs.enter.Goals as goal

pub returns : goal.returns
returns c =
    let n : length c.args.levels ≡ 4 = search rules in
    from_all _ _ c.args.levels _ n c.requires.0 _ _ _ _ c.cursor_from.ensures c.cursor_from-2.ensures c.cursor_from-3.ensures c.cursor_from-4.ensures
