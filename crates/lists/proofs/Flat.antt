-- Laws of one array for the lists of all levels: the parts lie in it, do not meet, and have room for every list of a call.
use Prim.Native.Nat.{ℕ, zero, suc, ◌+◌, ◌-◌, ◌*◌, ◌≤◌, ◌<◌}
use mathlib.Core.Path.{◌≡◌, refl, sym, ap, ◌∙◌}
use mathlib.Core.List.{List, [], ◌∷◌}
use mathlib.Core.Logic.{◌⊎◌, inl, inr, ◌≢◌, dite}
use native.Mathlib.Decide.{dec_lt}
use native.Mathlib.Omega.{arith}
use lib.ListN.{length, take, drop}
use Rattle.slices.specs.Slices.{put_at}
use Rattle.geometry.specs.Geometry.{capacity_of}
use Rattle.geometry.specs.Room.{list_room}
use Rattle.geometry.proofs.Laws.{capacity_doubles, capacity_mono}
use Rattle.pieces.specs.Pieces.{part, piece, lay, lay_all}
use Rattle.pieces.proofs.Parts.{part_length, part_part}
use Rattle.pieces.proofs.Pieces.{put_lay, lay_here, lay_all_kept}
use Rattle.lists.specs.Flat.{start_above, room_above, part_start, part_room, part_of}
use Rattle.layout.specs.Layouts.{Proper}
use Rattle.layout.specs.declared.Layout.{Layout}

-- the parts of two levels, the lower one first in the array
above_next : (k j : ℕ) → k < j → j ≤ 2 → start_above k + room_above k ≤ start_above j
above_next zero (suc zero) a b = omega arith
above_next zero (suc (suc j)) a b = omega arith
above_next (suc zero) (suc (suc j)) a b = omega arith
above_next (suc (suc k)) (suc (suc j)) a b = absurd (omega arith)
above_next zero zero a b = absurd (omega arith)
above_next (suc k) zero a b = absurd (omega arith)
above_next (suc k) (suc zero) a b = absurd (omega arith)

above_high : (k : ℕ) → start_above k + room_above k ≤ 4096
above_high zero = omega arith
above_high (suc zero) = omega arith
above_high (suc (suc k)) = omega arith

pub part_inside : (h i : ℕ) → part_start h i + part_room h i ≤ list_room
unfolding part_start part_room
part_inside h i = above_high (h - i)

-- the parts of a level and of one below it
pub parts_apart : (h i j : ℕ) → h ≤ 3 → 1 ≤ i → i < j → j ≤ h → part_start h j + part_room h j ≤ part_start h i
unfolding part_start part_room
parts_apart h i j a b c d = above_next (h - j) (h - i) (omega arith) (omega arith)

-- the parts of two different levels do not meet
pub parts_clear : (h i j : ℕ) → h ≤ 3 → 1 ≤ i → i ≤ h → 1 ≤ j → j ≤ h → i ≢ j → (part_start h i + part_room h i ≤ part_start h j) ⊎ (part_start h j + part_room h j ≤ part_start h i)
parts_clear h i j a b c d e n =
    dite (dec_lt i j) (λ l. inr (parts_apart h i j a b l e))
    (λ l. dite (dec_lt j i) (λ m. inl (parts_apart h j i a d m c)) (λ m. absurd (n (omega arith))))

-- a part has room for twice the capacity of its level
pub part_roomy : (z : Layout) → Proper z → (i : ℕ) → i ≤ z.geo.h → 2 * capacity_of z.geo i ≤ part_room z.geo.h i
unfolding part_room
part_roomy z v i l = go (z.geo.h - i) refl
  where
    go : (k : ℕ) → z.geo.h - i ≡ k → 2 * capacity_of z.geo i ≤ room_above k
    go zero e = let f : z.geo.h ≡ i = omega arith in omega (arith, capacity_mono z.geo v.valid.ranged {i = i} {j = z.geo.h} l, v.valid.bottom_high)
    go (suc k) e = omega (arith, capacity_doubles z.geo v.valid.ranged i, capacity_mono z.geo v.valid.ranged {i = suc i} {j = z.geo.h} (omega arith), v.valid.bottom_high)

-- and so for a list of a call
pub part_fits : (z : Layout) → Proper z → (i n : ℕ) → i ≤ z.geo.h → n ≤ 2 * capacity_of z.geo i → (n ≤ part_room z.geo.h i) × (part_start z.geo.h i + n ≤ list_room)
part_fits z v i n l h = (omega (arith, part_roomy z v i l), omega (arith, part_roomy z v i l, part_inside z.geo.h i))

pub part_of_length : (h i : ℕ) (lists : List ℕ) → length lists ≡ list_room → length (part_of h lists i) ≡ part_room h i
unfolding part_of
part_of_length h i lists l = part_length lists (part_start h i) (part_room h i) (omega (arith, part_inside h i))

-- Writing xs at the front of the part of level i.
module _ (h i : ℕ) (xs lists : List ℕ) (long : length lists ≡ list_room) (fit : length xs ≤ part_room h i) where
  inside : part_start h i + length xs ≤ length lists
  inside = omega (arith, part_inside h i)

  as_piece : put_at (part_start h i) xs lists ≡ lay (piece (part_start h i) xs) lists
  as_piece = put_lay (part_start h i) xs lists inside

  one_kept : (a n : ℕ) → a + n ≤ length lists → (a + n ≤ part_start h i) ⊎ (part_start h i + length xs ≤ a) → part (put_at (part_start h i) xs lists) a n ≡ part lists a n
  unfolding lay_all
  one_kept a n l o = ap (λ (x : List ℕ). part x a n) as_piece ∙ lay_all_kept (piece (part_start h i) xs ∷ []) lists a n l (o, tt)

  -- its first entries are xs
  pub put_part : take (length xs) (part_of h (put_at (part_start h i) xs lists) i) ≡ xs
  unfolding part_of part
  put_part =
      part_part (put_at (part_start h i) xs lists) (part_start h i) (part_room h i) 0 (length xs) (omega arith)
      ∙ ap (λ (x : List ℕ). part x (part_start h i + 0) (length xs)) as_piece
      ∙ here
    where
      here : part (lay (piece (part_start h i) xs) lists) (part_start h i + 0) (length xs) ≡ xs
      here = let e : part_start h i + 0 ≡ part_start h i = omega arith in ap (λ (a : ℕ). part (lay (piece (part_start h i) xs) lists) a (length xs)) e ∙ lay_here (piece (part_start h i) xs) lists inside

  -- the other levels keep their parts
  pub put_other : h ≤ 3 → 1 ≤ i → i ≤ h → (j : ℕ) → 1 ≤ j → j ≤ h → i ≢ j → part_of h (put_at (part_start h i) xs lists) j ≡ part_of h lists j
  unfolding part_of
  put_other a b c j d e n = one_kept (part_start h j) (part_room h j) (omega (arith, part_inside h j)) (clear (parts_clear h i j a b c d e n))
    where
      clear : (part_start h i + part_room h i ≤ part_start h j) ⊎ (part_start h j + part_room h j ≤ part_start h i) → (part_start h j + part_room h j ≤ part_start h i) ⊎ (part_start h i + length xs ≤ part_start h j)
      clear (inl x) = inr (omega arith)
      clear (inr x) = inl x

-- the first n entries of a part, in the array
pub part_entries : (h i n : ℕ) (lists : List ℕ) → n ≤ part_room h i → take n (part_of h lists i) ≡ part lists (part_start h i) n
unfolding part_of part
part_entries h i n lists l =
    part_part lists (part_start h i) (part_room h i) 0 n (omega arith) ∙ (let e : part_start h i + 0 ≡ part_start h i = omega arith in ap (λ (a : ℕ). part lists a n) e)

-- what is lent of the array where the list of level i has n entries
pub part_lent : (h i n at : ℕ) (lists : List ℕ) → at ≡ part_start h i → n ≤ part_room h i → take (at + n - at) (drop at lists) ≡ take n (part_of h lists i)
unfolding part
part_lent h i n at lists e l = let q : at + n - at ≡ n = omega arith in rw (q, e) (sym (part_entries h i n lists l))

-- the three cases of `start_of`
pub start_bottom : (h i : ℕ) → h - i ≡ 0 → 0 ≡ part_start h i
unfolding part_start
start_bottom h i e = ap start_above (sym e)

pub start_next : (h i : ℕ) → h - i ≡ 1 → 2048 ≡ part_start h i
unfolding part_start
start_next h i e = ap start_above (sym e)

pub start_last : (h i : ℕ) → h - i ≢ 0 → h - i ≢ 1 → 3072 ≡ part_start h i
unfolding part_start
start_last h i a b = go (h - i) a b
  where
    go : (k : ℕ) → k ≢ 0 → k ≢ 1 → 3072 ≡ start_above k
    go zero a b = absurd (a refl)
    go (suc zero) a b = absurd (b refl)
    go (suc (suc k)) a b = refl
