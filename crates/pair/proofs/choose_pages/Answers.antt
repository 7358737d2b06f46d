use Prim.Native.Nat.{◌≤◌}
use native.Mathlib.Omega.{arith}
use Rattle.pair.proofs.Pages.{paged_asks, paged_are, paged_ordered, paged_high}
use Rattle.pair.proofs.choose_pages.Goals as goal

pub fence_pages-requires : goal.fence_pages-requires
fence_pages-requires c =
    let p = c.requires in
    let k = p.1.1.1.1.0 in
    (record { proper = p.0; words = p.1.0 }, (paged_asks _ _ _ 0 (omega (arith, p.0.valid.ranged.b_low)) k _ k.high, k.fits))

pub pick-requires : goal.pick-requires
pick-requires c =
    let p = c.requires in
    let k = p.1.1.1.1.0 in
    let b : 1 ≤ c.args.z.geo.b = omega (arith, p.0.valid.ranged.b_low) in
    let e = c.fence_pages.ensures in
    (p.0, (p.1.0, (p.1.1.0, (paged_high _ _ _ _ b k _ k.high _ e p.1.1.1.0 c.fence_pages.auto.fences, (paged_ordered _ _ _ 0 b k _ k.high _ e, p.1.1.1.1.1)))))

pub returns : goal.returns
returns c =
    let p = c.requires in
    let k = p.1.1.1.1.0 in
    c.pick.ensures _ (paged_are _ _ _ 0 (omega (arith, p.0.valid.ranged.b_low)) k _ k.high _ c.fence_pages.ensures)
