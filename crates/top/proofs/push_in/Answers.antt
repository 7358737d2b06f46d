use Prim.Native.Nat.{suc, ◌≤◌}
use mathlib.Core.Path.{◌≡◌, ◌∙◌}
use native.Mathlib.Omega.{arith}
use Rattle.geometry.specs.Geometry.{top_capacity_of}
use Rattle.geometry.proofs.Bounds.{top_capacity_high}
use Rattle.top.specs.Top.{pushed}
use Rattle.top.proofs.Pushing.{pushing, push_long, push_start, push_first, push_low, push_next, push_more}
use Rattle.top.proofs.push_in.Goals as goal

pub overflow_add-end : goal.overflow_add-end
overflow_add-end c = omega (arith, top_capacity_high _ c.requires.0.proper.valid.ranged, c.requires.1)

pub loop-n-init : goal.loop-n-init
loop-n-init c = let h : c.args.i ≤ top_capacity_of c.args.z.geo = omega (arith, c.requires.1) in (omega arith, (omega (arith, c.requires.1), (push_start _ _ c.requires.0 _ _ h, push_first _ _ c.requires.0 _ _ h)))

pub read_slot-next-requires : goal.read_slot-next-requires
read_slot-next-requires c = rw c.loop-n.invariant.1.1.0 (c.requires.0.proper, (push_long _ _ _ _ _ ∙ c.requires.0.words, omega (arith, c.requires.1)))

pub write_slot-requires : goal.write_slot-requires
write_slot-requires c = rw c.loop-n.invariant.1.1.0 (c.requires.0.proper, (push_long _ _ _ _ _ ∙ c.requires.0.words, (omega (arith, c.requires.1), push_low _ _ c.requires.0 _ _ (omega (arith, c.requires.1)) _ (omega (arith, c.requires.1)))))

pub overflow_step-n : goal.overflow_step-n
overflow_step-n c = omega (arith, top_capacity_high _ c.requires.0.proper.valid.ranged, c.requires.1)

pub loop-n-preserved : goal.loop-n-preserved
loop-n-preserved c = (omega arith, (omega arith, (c.write_slot.ensures ∙ rw c.loop-n.invariant.1.1.0 (push_more _ _ c.requires.0 _ _ (omega (arith, c.requires.1)) _ (omega (arith, c.requires.1)) _ c.loop-n.invariant.1.1.1), rw (c.read_slot-next.ensures, c.loop-n.invariant.1.1.0) (push_next _ _ c.requires.0 _ _ (omega (arith, c.requires.1)) _ (omega (arith, c.requires.1)) c.loop-n.invariant.0))))

pub shape_of-s : goal.shape_of-s
shape_of-s c = rw c.loop-n.invariant.1.1.0 (push_long _ _ _ _ _)

pub returns : goal.returns
unfolding pushed pushing
returns c = let e : c.loop-n.n ≡ suc c.args.c = omega arith in rw (c.loop-n.invariant.1.1.0, e)
