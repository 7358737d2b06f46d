use Rattle.std.proofs.Common.{rules, ◌+◌, ◌∙◌, eqb}
use Rattle.std.specs.List.{slice_range}
use Rattle.std.proofs.lemmas.Iterator.{YieldsList-from_slice}
use Rattle.std.proofs.lemmas.Iterator.Search.{all_from_yields_List}
use Rattle.chunks.proofs.Slots.{zeros_all}
use Rattle.chunks.proofs.zeros.Goals as goal

pub returns : goal.returns
returns c =
    all_from_yields_List (λ x. eqb x 0) _ _ _ c.all.ensures.ran (YieldsList-from_slice (slice_range c.args.s.now c.args.start (c.args.start + c.args.n)) cc) (λ x b q k. search rules) ∙ zeros_all _ _ _ c.requires
