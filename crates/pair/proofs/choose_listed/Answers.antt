use native.Mathlib.Omega.{arith}
use Rattle.pair.proofs.Chosen.{listed_are, listed_high, listed_ordered}
use Rattle.pair.proofs.choose_listed.Goals as goal

pub fence_blocks-requires : goal.fence_blocks-requires
fence_blocks-requires c = let k = c.requires.1.1.1.1.0 in (record { proper = c.requires.0; words = c.requires.1.0 }, (k.high, k.read))

pub pick-requires : goal.pick-requires
pick-requires c =
    let p = c.requires in
    let k = p.1.1.1.1.0 in
    let e = c.fence_blocks.ensures in
    (p.0, (p.1.0, (p.1.1.0, (listed_high _ _ _ k _ _ e _ p.1.1.1.0 (omega (arith, k.high, c.fence_blocks.auto.fences)), (listed_ordered _ _ _ k _ _ e, p.1.1.1.1.1)))))

pub returns : goal.returns
returns c = c.pick.ensures _ (listed_are _ _ _ c.requires.1.1.1.1.0 _ _ c.fence_blocks.ensures)
