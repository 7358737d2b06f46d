use Rattle.pair.proofs.Chosen.{listed_are, listed_ordered, picked}
use Rattle.pair.proofs.pick.Goals as goal

pub choose_run-run-requires : goal.choose_run-run-requires
choose_run-run-requires c =
    let p = c.requires in
    (p.1.1.0, (p.1.1.1.0, (p.1.1.1.1.0, listed_ordered _ _ _ p.1.1.1.1.1 _ _ c.fence_blocks.ensures)))

pub returns : goal.returns
returns c = λ l q. picked _ _ _ _ c.choose_run-run.ensures l _ q (listed_are _ _ _ c.requires.1.1.1.1.1 _ _ c.fence_blocks.ensures)
