use mathlib.Core.Path.{refl, ap, ◌∙◌}
use native.Mathlib.Omega.{arith}
use lib.ListN.{length-drop}
use lib.Seq.{take_all}
use Rattle.choice.specs.declared.Fence.{Fence}
use Rattle.choice.specs.Fences.{first_keys, last_keys}
use Rattle.choice.specs.Pass.{moves_of}
use Rattle.std.proofs.Common.{rules, ℕ, ◌≡◌, ◌-◌, ◌≤◌, List, length, suc, take, drop}
use Rattle.choice.proofs.Pass.{at_most, passed_moves}
use Rattle.choice.proofs.Keys.{ends_room, ends_moved}
use Rattle.choice.proofs.move_on.Goals as goal
use Rattle.choice.proofs.move_on.Goals.{Start}

-- both ends stand in the level
room : (c : Start) → (c.args.at.start ≤ length c.args.under.now) × (c.args.at.end ≤ length c.args.under.now)
room c = ends_room _ c.requires.0 _ _ _ c.requires.1

pub offset_bounds-under-at : goal.offset_bounds-under-at
offset_bounds-under-at c = let r = room (goal.at.offset_bounds-under-at c).Start in search rules

pub slice_bounds-ended-count : goal.slice_bounds-ended-count
slice_bounds-ended-count c = (room (goal.at.slice_bounds-ended-count c).Start).0

pub slice_bounds-ended-start : goal.slice_bounds-ended-start
slice_bounds-ended-start c = let r = room (goal.at.slice_bounds-ended-start c).Start in search rules

pub offset_bounds-under-at-2 : goal.offset_bounds-under-at-2
offset_bounds-under-at-2 c = let r = room (goal.at.offset_bounds-under-at-2 c).Start in search rules

pub slice_bounds-begun-count : goal.slice_bounds-begun-count
slice_bounds-begun-count c = (room (goal.at.slice_bounds-begun-count c).Start).1

pub slice_bounds-begun-start : goal.slice_bounds-begun-start
slice_bounds-begun-start c = let r = room (goal.at.slice_bounds-begun-start c).Start in search rules

pub returns : goal.returns
returns c =
    let a = c.args in
    let t : (n : ℕ) → take (length a.under.now - n) (drop n a.under.now) ≡ drop n a.under.now = λ n. take_all _ _ (omega (arith, length-drop n a.under.now)) in
    ends_moved _ c.requires.0 _ _ _ _ _ c.requires.1 (
    c.ended.ensures ∙ passed_moves _ (λ (f : Fence). f.last) a.lowest (λ f. refl) _ ∙ ap (λ (fs : List Fence). moves_of a.lowest (last_keys fs)) (t a.at.start))
    (c.begun.ensures ∙ passed_moves _ (λ (f : Fence). f.first) (suc a.highest) (λ f. at_most f.first a.highest) _ ∙ ap (λ (fs : List Fence). moves_of (suc a.highest) (first_keys fs)) (t a.at.end))
