-- Where Y lies: the two ends of the stretch below a run cut the lower level as document 01 has it.
use Prim.Native.Nat.{ℕ, suc, ◌+◌, ◌-◌, ◌≤◌, ◌<◌}
use mathlib.Core.Path.{◌≡◌, refl, sym, ap, ◌∙◌}
use mathlib.Core.Bool.{Bool, true, false}
use mathlib.Core.List.{[], ◌∷◌, map}
use native.Mathlib.Omega.{arith}
use lib.Dec.{ltb}
use lib.ListN.{length, take, drop, length-map, length-drop}
use lib.Seq.{length-take-le, drop-drop}
use borrow.Author.Tests.{lt-ltb, le-ltb, le-leb, lt-leb, ltb-true, ltb-false}
use Rattle.slices.specs.Ranks.{Rising, count_below}
use Rattle.levels.specs.Record.{Block, Level, first_key, last_key}
use Rattle.levels.specs.Choose.{lo_of, hi_of, below, not_above, cut_at}
use Rattle.choice.specs.declared.Stretch.{Stretch}
use Rattle.choice.specs.declared.Fence.{Fence}
use Rattle.choice.specs.Fences.{fence_of, Ordered, count_at_most, first_keys, last_keys, stretch_of}
use Rattle.slices.proofs.Ranks.{count_in, count_none, count_high, count_drop, rising_drop}
use Rattle.levels.proofs.Lists.{map_take, map_drop}
use Rattle.choice.proofs.Lists.{map_of_map}
use Rattle.choice.proofs.Levels.{low_fences, high_fences}
use Rattle.choice.proofs.Order.{lasts_rise, firsts_rise, stretch_order, ordered_take, ordered_drop}

-- The longest start of a level whose blocks have a rising key below a bound has as many blocks as there are such keys.
-- F gives that start: `below` and `not_above` do.
prefix_is : (F : Level → Level) (k : Block → ℕ) (bound : ℕ) → F [] ≡ []
    → ((b : Block) (bs : Level) → k b < bound → F (b ∷ bs) ≡ b ∷ F bs)
    → ((b : Block) (bs : Level) → bound ≤ k b → F (b ∷ bs) ≡ [])
    → (low : ℕ) (l : Level) → Rising low (map k l) → F l ≡ take (count_below bound (map k l)) l
unfolding count_below
prefix_is F k bound e on stop low [] r = e
prefix_is F k bound e on stop low (b ∷ bs) r = go (ltb (k b) bound) refl (prefix_is F k bound e on stop (suc (k b)) bs r.1)
  where
    go : (t : Bool) → ltb (k b) bound ≡ t → F bs ≡ take (count_below bound (map k bs)) bs → F (b ∷ bs) ≡ take (count_below bound (map k (b ∷ bs))) (b ∷ bs)
    go true d ih =
        let p = ltb-true (k b) bound d in
        rw (count_in bound (k b) (map k bs) p, on b bs p, ih)
    go false d ih =
        let p = ltb-false (k b) bound d in
        let z : count_below bound (map k (b ∷ bs)) ≡ 0 = count_none bound (k b) (map k (b ∷ bs)) (omega arith, r.1) p in
        rw (z, stop b bs p)

abbrev first_of : Block → ℕ
first_of b = first_key b.recs

abbrev last_of : Block → ℕ
last_of b = last_key b.recs

first_keys_lem : (l : Level) → first_keys (map fence_of l) ≡ map first_of l
first_keys_lem l = map_of_map (λ (f : Fence). f.first) fence_of first_of (λ b. refl) l

last_keys_lem : (l : Level) → last_keys (map fence_of l) ≡ map last_of l
last_keys_lem l = map_of_map (λ (f : Fence). f.last) fence_of last_of (λ b. refl) l

below_is : (lo low : ℕ) (l : Level) → Rising low (map last_of l) → below lo l ≡ take (count_below lo (map last_of l)) l
below_is lo low l r =
    prefix_is (below lo) last_of lo refl (λ b bs h. rw (lt-ltb (last_of b) lo h)) (λ b bs h. rw (le-ltb (last_of b) lo h)) low l r

not_above_is : (hi low : ℕ) (l : Level) → Rising low (map first_of l) → not_above hi l ≡ take (count_at_most hi (map first_of l)) l
not_above_is hi low l r =
    prefix_is (not_above hi) first_of (suc hi) refl (λ b bs h. rw (le-leb (first_of b) hi (omega arith))) (λ b bs h. rw (lt-leb (first_of b) hi h)) low l r

-- what the ends of a stretch count, for the run of w blocks from block `first` on
abbrev run_of : ℕ → ℕ → Level → Level
run_of w first above = take w (drop first above)

run_fences : (w first : ℕ) (above : Level) → take w (drop first (map fence_of above)) ≡ map fence_of (run_of w first above)
run_fences w first above = sym (map_take fence_of w (drop first above) ∙ ap (take w) (map_drop fence_of first above))

start_is : (w first : ℕ) (above under : Level) → (stretch_of (take w (drop first (map fence_of above))) (map fence_of under)).start ≡ count_below (lo_of (run_of w first above)) (map last_of under)
unfolding stretch_of
start_is w first above under = rw (run_fences w first above, low_fences (run_of w first above), last_keys_lem under)

end_is : (w first : ℕ) (above under : Level) → (stretch_of (take w (drop first (map fence_of above))) (map fence_of under)).end ≡ count_at_most (hi_of (run_of w first above)) (map first_of under)
unfolding stretch_of
end_is w first above under = rw (run_fences w first above, high_fences (run_of w first above), first_keys_lem under)

-- The cut of two levels in key order, s the stretch that the fences of the run have below.
module _ (w first : ℕ) (above under : Level) (u : Ordered 0 (map fence_of under)) (s : Stretch)
    (e : s ≡ stretch_of (take w (drop first (map fence_of above))) (map fence_of under)) where
  start : s.start ≡ count_below (lo_of (run_of w first above)) (map last_of under)
  start = ap (λ (t : Stretch). t.start) e ∙ start_is w first above under

  end : s.end ≡ count_at_most (hi_of (run_of w first above)) (map first_of under)
  end = ap (λ (t : Stretch). t.end) e ∙ end_is w first above under

  starts : Rising 0 (map first_of under)
  starts = rw (first_keys_lem under) at (firsts_rise 0 (map fence_of under) u)

  -- the blocks before Y
  pub cut_before : (cut_at w first above under).before ≡ take s.start under
  unfolding cut_at
  cut_before = rw start (below_is (lo_of (run_of w first above)) 0 under (rw (last_keys_lem under) at (lasts_rise 0 (map fence_of under) u)))

  pub cut_start : length (cut_at w first above under).before ≡ s.start
  cut_start =
      let h : s.start ≤ length under = rw start (omega (arith, count_high (lo_of (run_of w first above)) (map last_of under), length-map under last_of)) in
      rw cut_before (length-take-le s.start under h)

  -- Y
  pub cut_over : (cut_at w first above under).over ≡ take (s.end - s.start) (drop s.start under)
  unfolding cut_at
  cut_over =
      let r : Rising 0 (map first_of (drop s.start under)) = rw (map_drop first_of s.start under) (rising_drop 0 s.start (map first_of under) starts) in
      let n : count_at_most (hi_of (run_of w first above)) (map first_of (drop s.start under)) ≡ s.end - s.start =
      rw (map_drop first_of s.start under, end) (count_drop (suc (hi_of (run_of w first above))) 0 s.start (map first_of under) starts) in
      rw cut_start (rw n at (not_above_is (hi_of (run_of w first above)) 0 (drop s.start under) r))

  -- with the run in key order, Y ends where the blocks behind it begin
  module _ (o : Ordered 0 (map fence_of above)) (p : 1 ≤ w) (h : first + w ≤ length above) where
    ends_in_order : s.start ≤ s.end
    ends_in_order =
        let fs = take w (drop first (map fence_of above)) in
        let n : 1 ≤ length fs = rw (run_fences w first above) (omega (arith, length-map (run_of w first above) fence_of, length-take-le w (drop first above) (omega (arith, length-drop first above)))) in
        rw e (stretch_order fs (map fence_of under) (ordered_take 0 w (drop first (map fence_of above)) (ordered_drop 0 first (map fence_of above) o)) n u)

    length_over : length (cut_at w first above under).over ≡ s.end - s.start
    length_over =
        let h : s.end ≤ length under = rw end (omega (arith, count_high (suc (hi_of (run_of w first above))) (map first_of under), length-map under first_of)) in
        rw cut_over (length-take-le (s.end - s.start) (drop s.start under) (omega (arith, length-drop s.start under)))

    pub cut_end : length (cut_at w first above under).before + length (cut_at w first above under).over ≡ s.end
    cut_end = omega (arith, cut_start, length_over, ends_in_order)

    pub cut_behind : (cut_at w first above under).behind ≡ drop s.end under
    unfolding cut_at
    cut_behind =
        let n : s.start + (s.end - s.start) ≡ s.end = omega (arith, ends_in_order) in
        rw (length_over, cut_start) (drop-drop (s.end - s.start) s.start under ∙ ap (λ (k : ℕ). drop k under) n)
