use Rattle.std.proofs.Common.{rules}
use mathlib.Core.Path.{◌≡◌}
use lib.ListN.{length}
use Rattle.walk.proofs.From.{levels_around, levels_twice}
use Rattle.walk.proofs.deepest_last.Goals as goal

pub returns-then-d2-ne0 : goal.returns-then-d2-ne0
returns-then-d2-ne0 c = let n : length c.args.levels ≡ 4 = search rules in levels_around c.args.levels _ n c.if-d3-ne0.false

pub returns : goal.returns
returns c = let n : length c.args.levels ≡ 4 = search rules in levels_twice c.args.levels _ n c.if-d3-ne0.false c.if-d2-ne0.false
