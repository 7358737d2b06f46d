-- Place lists in the parts of one array: a list written anew, the entries of a part, and a run that is copied and taken out.
use Prim.Native.Nat.{ℕ, ◌+◌, ◌-◌, ◌≤◌, ◌<◌}
use mathlib.Core.Path.{◌≡◌, refl, sym, ap, ◌∙◌, subst}
use mathlib.Core.List.{List, ◌++◌}
use mathlib.Core.Logic.{◌≢◌, inl, dite}
use native.Mathlib.Decide.{dec_lt}
use native.Mathlib.Omega.{arith}
use lib.ListN.{length, get_or, take, drop}
use Rattle.slices.specs.Slices.{put_at}
use Rattle.slices.proofs.Put.{put_length, put_join}
use Rattle.geometry.specs.Room.{list_room}
use Rattle.pieces.specs.Pieces.{part, Piece, piece, lay}
use Rattle.pieces.proofs.Parts.{part_length, part_word}
use Rattle.pieces.proofs.Pieces.{put_lay, lay_held, lay_here, lay_beside, lay_word}
use Rattle.lists.specs.Flat.{part_start, part_room, part_of}
use Rattle.lists.proofs.Flat.{part_inside, put_part, put_other, part_entries}

-- the list of level i written anew in its part: its n entries are xs, and the other parts stay
pub record Anew (h i n : ℕ) (xs lists lists' : List ℕ) : Type 0 where
  pub long : length lists' ≡ list_room
  pub here : take n (part_of h lists' i) ≡ xs
  pub others : (j : ℕ) → 1 ≤ j → j ≤ h → j ≢ i → part_of h lists' j ≡ part_of h lists j

pub put_anew : (h i n : ℕ) (xs lists lists' : List ℕ) → h ≤ 3 → 1 ≤ i → i ≤ h → length lists ≡ list_room → length xs ≡ n → n ≤ part_room h i → lists' ≡ put_at (part_start h i) xs lists → Anew h i n xs lists lists'
put_anew h i n xs lists lists' hh low high l m f e =
    rw e
    (record {
      long = put_length (part_start h i) xs lists (omega (arith, part_inside h i)) ∙ l;
      here = rw m at (put_part h i xs lists l (omega arith));
      others = λ j a b d. put_other h i xs lists l (omega arith) hh low high j a b (λ q. d (sym q));
    })

-- the entries of a part, as the code lends them
pub slice_is : (h i n : ℕ) (lists : List ℕ) → n ≤ part_room h i → take (part_start h i + n - part_start h i) (drop (part_start h i) lists) ≡ take n (part_of h lists i)
unfolding part
slice_is h i n lists l = let e : part_start h i + n - part_start h i ≡ n = omega arith in rw e (sym (part_entries h i n lists l))

-- what holds of the entries of a part holds of them in the array
pub part_each : (P : ℕ → Type 0) (h i n : ℕ) (lists : List ℕ) → n ≤ part_room h i → ((k : ℕ) → k < n → P (get_or (part_of h lists i) k 0)) → (k : ℕ) → part_start h i ≤ k → k < part_start h i + n → P (get_or lists k 0)
unfolding part_of
part_each P h i n lists r f k l m =
    let e : part_start h i + (k - part_start h i) ≡ k = omega arith in
    subst P (part_word lists (part_start h i) (part_room h i) (k - part_start h i) (omega arith) ∙ ap (λ (j : ℕ). get_or lists j 0) e) (f (k - part_start h i) (omega arith))

-- A run of w entries from entry b on, copied to entry a and those after it of another array.
module _ (xs zeros lists : List ℕ) (a b w : ℕ) (fit : a + w ≤ length zeros) (inside : b + w ≤ length lists) (e : xs ≡ put_at a (take w (drop b lists)) zeros) where
  run_length : length (part lists b w) ≡ w
  run_length = part_length lists b w inside

  pub copied_length : length xs ≡ length zeros
  unfolding part
  copied_length = rw e (put_length a (part lists b w) zeros (rw run_length fit))

  pub copied_run : take w (drop a xs) ≡ take w (drop b lists)
  unfolding part
  copied_run =
      rw e
      (ap (λ (l : List ℕ). part l a w) (put_lay a (part lists b w) zeros (rw run_length fit)) ∙ rw run_length at (lay_here (piece a (part lists b w)) zeros (rw run_length fit)))

  pub copied_entry : (k : ℕ) → a ≤ k → k < a + w → get_or xs k 0 ≡ get_or lists (b + (k - a)) 0
  unfolding part
  copied_entry k l h =
      let d : a + (k - a) ≡ k = omega arith in
      ap (λ (j : ℕ). get_or xs j 0) (sym d) ∙ sym (part_word xs a w (k - a) (omega arith)) ∙ ap (λ (l : List ℕ). get_or l (k - a) 0) copied_run ∙ part_word lists b w (k - a) (omega arith)

-- A run of w entries, behind x entries from entry `at` on, that m entries follow: those move down to its place.
module _ (lists lists' : List ℕ) (at x w m : ℕ) (inside : at + (x + (w + m)) ≤ length lists) (e : lists' ≡ put_at (at + x) (take m (drop (at + x + w) lists)) lists) where
  behind : length (part lists (at + x + w) m) ≡ m
  behind = part_length lists (at + x + w) m (omega arith)

  -- the list is written anew without it
  pub gone_put : lists' ≡ put_at at (part lists at x ++ part lists (at + x + w) m) lists
  unfolding part
  gone_put =
      let a = part lists at x in
      let l : length a ≡ x = part_length lists at x (omega arith) in
      let held : put_at at a lists ≡ lists = put_lay at a lists (rw l (omega arith)) ∙ lay_held (piece at a) lists (rw l refl) in
      e ∙ rw (l, held) at (put_join at a (part lists (at + x + w) m) lists (rw l (omega arith)))

  -- what holds of its entries holds of those that stay
  pub gone_each : (P : ℕ → Type 0) → ((k : ℕ) → at ≤ k → k < at + (x + (w + m)) → P (get_or lists k 0)) → (k : ℕ) → at ≤ k → k < at + (x + m) → P (get_or lists' k 0)
  unfolding part
  gone_each P f k l h = rw (e ∙ put_lay (at + x) (part lists (at + x + w) m) lists (rw behind (omega arith))) (dite (dec_lt k (at + x)) early late)
    where
      tail : Piece
      tail = piece (at + x) (part lists (at + x + w) m)

      early : k < at + x → P (get_or (lay tail lists) k 0)
      early y = rw (lay_beside tail lists k (inl (omega arith))) (f k l (omega arith))

      late : (k < at + x → ⊥) → P (get_or (lay tail lists) k 0)
      late n =
          let j = k - (at + x) in
          let d : at + x + j ≡ k = omega arith in
          subst P (sym (rw d at (lay_word tail lists j (rw behind (omega arith)) (omega arith) ∙ part_word lists (at + x + w) m j (omega arith)))) (f (at + x + w + j) (omega arith) (omega arith))
