-- A count of a part's bytes, of the whole; the room for the answers to a part.
use mathlib.Core.Path.{◌≡◌, subst, sym}
use native.Mathlib.Nat.{mul-le-mul_left, min-le_right}
use Rattle.std.proofs.Common.{ℕ, ◌+◌, ◌-◌, ◌*◌, ◌≤◌, List, length, take, drop, length-take, length-drop, arith}
use Rattle.dialogue.specs.Said.{tickets_most, longest_answer}

pub within : (xs : List ℕ) (a n : ℕ) → n ≤ length (take (length xs - a) (drop a xs)) → a ≤ length xs → a + n ≤ length xs
within xs a n h l = let k = rw (length-take (length xs - a) (drop a xs), length-drop a xs) at h in omega arith

pub part_fits : (n : ℕ) (xs : List ℕ) (l : ℕ) → length xs ≡ l → length (take n xs) ≤ l
part_fits n xs l e = omega (arith, e, length-take n xs, min-le_right n (length xs))

-- room for the answers to i bytes is room for those to fewer; the dialogue's number of tickets u is the program's, t
pub room_left : (t u n i o o' : ℕ) → u ≡ t → n ≤ i → longest_answer t * i ≤ o → o' ≡ o → longest_answer u * n ≤ o'
room_left t u n i o o' e h k q = subst (λ (x : ℕ). longest_answer x * n ≤ o') (sym e) (omega (arith, k, q, mul-le-mul_left (longest_answer t) h))

-- what `run` requires, of buffers whose lengths are numbers; no line that is printed has more than 46 bytes
pub run_fits : (t i o : ℕ) → t ≤ tickets_most → 1 ≤ i → 46 * (t + 1) * i ≤ o → (t ≤ tickets_most) × ((1 ≤ i) × (longest_answer t * i ≤ o))
unfolding longest_answer
run_fits t i o h l k = (h, (l, k))
