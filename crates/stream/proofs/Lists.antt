-- A turn of the loop that copies a list.
use Prim.Native.Nat.{ℕ, ◌+◌, ◌<◌}
use mathlib.Core.Path.{◌≡◌, ◌∙◌}
use mathlib.Core.List.{List}
use native.Mathlib.Numerals.{add-one}
use native.Mathlib.Omega.{arith}
use lib.ListN.{length, set, take, drop, get_or, length-drop}
use lib.Seq.{length-take-le, take-suc, get_or-drop}
use Rattle.slices.specs.Slices.{put_at}
use Rattle.slices.proofs.Put.{put_more}

pub copy_more : (to from i : ℕ) (s xs : List ℕ) → to + i < length xs → from + i < length s → set (put_at to (take i (drop from s)) xs) (to + i) (get_or s (from + i) 0) ≡ put_at to (take (i + 1) (drop from s)) xs
copy_more to from i s xs h k =
    let l : length (take i (drop from s)) ≡ i = length-take-le i (drop from s) (rw length-drop (omega arith)) in
    let m = put_more to (get_or s (from + i) 0) (take i (drop from s)) xs (rw l h) in
    let t = take-suc (drop from s) i 0 (rw length-drop (omega arith)) in
    rw l at m ∙ rw (← get_or-drop from s i 0, ← t, add-one)
