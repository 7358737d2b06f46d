-- The choice run by run, as the loop of the code makes it, and where the chosen run lies.
use Prim.Native.Nat.{ℕ, zero, suc, ◌+◌, ◌-◌, ◌≤◌, ◌<◌}
use mathlib.Core.Path.{◌≡◌, refl, sym, ap, ◌∙◌}
use mathlib.Core.Bool.{Bool, true, false}
use mathlib.Core.List.{List, [], ◌∷◌, ◌++◌}
use native.Mathlib.Numerals.{add-one}
use native.Mathlib.Omega.{arith}
use lib.Dec.{leb, ltb}
use lib.ListN.{length, get_or, take, drop, length-map}
use lib.Seq.{take-suc, take_all, length-take-le}
use borrow.Author.Tests.{leb-true, leb-false, ltb-true, ltb-false, lt-leb, lt-ltb, le-ltb}
use Rattle.levels.specs.Basics.{if◌then◌otherwise◌}
use Rattle.levels.specs.Choose.{Least, least, least_of}
use Rattle.levels.proofs.Lists.{get_d_map_in}
use Rattle.levels.proofs.Choice.{IsLeast, least_of_is}
use Rattle.choice.specs.declared.Choice.{Choice}
use Rattle.choice.specs.declared.Stretch.{Stretch}
use Rattle.choice.specs.declared.Fence.{Fence}
use Rattle.choice.specs.Fences.{Ordered, fence_runs, fence_overlap, overlaps_of, choose_fences, choice_of, with_stretch, stretch_of, run_over, fewer}
use Rattle.choice.specs.Pass.{AtRun}
use Rattle.choice.proofs.Order.{overlap_stretch}
use Rattle.choice.proofs.Once.{at_start, runs_length, runs_at, run_at, pass_at, pass_first, pass_next}
use Rattle.choice.proofs.Keys.{low_at, high_at}

pub overlaps_length : (w : ℕ) (above under : List Fence) → 1 ≤ w → length (overlaps_of w above under) ≡ suc (length above) - w
unfolding overlaps_of
overlaps_length w above under p = length-map (fence_runs w above) (fence_overlap under) ∙ runs_length w above p

pub overlaps_at : (w : ℕ) (above under : List Fence) (i : ℕ) → 1 ≤ w → i + w ≤ length above → get_or (overlaps_of w above under) i 0 ≡ fence_overlap under (take w (drop i above))
unfolding overlaps_of
overlaps_at w above under i p h =
    get_d_map_in (fence_overlap under) (fence_runs w above) i [] 0 (omega (arith, runs_length w above p)) ∙ ap (fence_overlap under) (runs_at w above i p h)

-- a number before a list, and one behind it that has index n
abbrev ahead : ℕ → Least → Least
ahead q r = if leb q r.value then record { at = 0; value = q } otherwise record { at = suc r.at; value = r.value }

abbrev behind : ℕ → ℕ → Least → Least
behind n p r = if ltb p r.value then record { at = n; value = p } otherwise r

ahead_one : (q n p : ℕ) → ahead q (record { at = n; value = p }) ≡ behind (suc n) p (record { at = 0; value = q })
ahead_one q n p = go (leb q p) refl
  where
    go : (t : Bool) → leb q p ≡ t → (if t then record { at = 0; value = q } otherwise record { at = suc n; value = p }) ≡ behind (suc n) p (record { at = 0; value = q })
    go true e = rw (le-ltb p q (leb-true q p e))
    go false e = rw (lt-ltb p q (leb-false q p e))

ahead_behind : (q n p : ℕ) (r : Least) → ahead q (behind n p r) ≡ behind (suc n) p (ahead q r)
ahead_behind q n p r = go (ltb p r.value) (leb q r.value) refl refl
  where
    go : (t u : Bool) → ltb p r.value ≡ t → leb q r.value ≡ u
        → ahead q (if t then record { at = n; value = p } otherwise r) ≡ behind (suc n) p (if u then record { at = 0; value = q } otherwise record { at = suc r.at; value = r.value })
    go true true e d = ahead_one q n p
    go true false e d =
        let l = ltb-true p r.value e in
        rw (e, lt-leb q p (omega (arith, leb-false q r.value d)))
    go false true e d =
        let l = ltb-false p r.value e in
        rw (d, le-ltb p q (omega (arith, leb-true q r.value d)))
    go false false e d = rw (d, e)

-- one number more at the end replaces the least so far only if it is smaller
least_snoc : (q : ℕ) (qs : List ℕ) (p : ℕ) → least q (qs ++ (p ∷ [])) ≡ behind (suc (length qs)) p (least q qs)
least_snoc q [] p = ahead_one q 0 p
least_snoc q (x ∷ xs) p = ap (ahead q) (least_snoc x xs p) ∙ ahead_behind q (suc (length xs)) p (least x xs)

-- The choice among the first i runs, each with the stretch below it.
module _ (w : ℕ) (above under : List Fence) where
  abbrev choice_by : Least → Choice
  choice_by l = choice_of (with_stretch w above under l)

  choice_behind : (n p : ℕ) (r : Least) → choice_by (behind n p r) ≡ fewer (choice_by r) (choice_by (record { at = n; value = p }))
  choice_behind n p r = go (ltb p r.value)
    where
      go : (t : Bool) → choice_by (if t then record { at = n; value = p } otherwise r) ≡ (if t then choice_by (record { at = n; value = p }) otherwise choice_by r)
      go true = refl
      go false = refl

  -- the least of the first i + 1 numbers, from the least of the first i
  choice_more : (qs : List ℕ) (i : ℕ) → 1 ≤ i → i < length qs → choice_by (least_of (take (suc i) qs)) ≡ fewer (choice_by (least_of (take i qs))) (choice_by (record { at = i; value = get_or qs i 0 }))
  choice_more [] i l h = absurd (omega arith)
  choice_more (q ∷ qs) zero l h = absurd (omega arith)
  choice_more (q ∷ qs) (suc i) l h =
      let s : take (suc i) qs ≡ take i qs ++ (get_or qs i 0 ∷ []) = take-suc qs i 0 (omega arith) in
      let n : length (take i qs) ≡ i = length-take-le i qs (omega arith) in
      rw s (ap choice_by (rw n at (least_snoc q (take i qs) (get_or qs i 0))) ∙ choice_behind (suc i) (get_or qs i 0) (least q (take i qs)))

  unfoldable pub choice_among : ℕ → Choice
  choice_among i = choice_by (least_of (take i (overlaps_of w above under)))

  -- run i by its overlap
  abbrev choice_at : ℕ → Choice
  choice_at i = choice_by (record { at = i; value = fence_overlap under (take w (drop i above)) })

  module _ (p : 1 ≤ w) where
    among_first : w ≤ length above → choice_among 1 ≡ choice_at 0
    unfolding choice_among
    among_first h =
        go (overlaps_of w above under) (omega (arith, overlaps_length w above under p)) ∙ ap (λ (q : ℕ). choice_by (record { at = 0; value = q })) (overlaps_at w above under 0 p (omega arith))
      where
        go : (qs : List ℕ) → 0 < length qs → choice_by (least_of (take 1 qs)) ≡ choice_by (record { at = 0; value = get_or qs 0 0 })
        go [] l = absurd (omega arith)
        go (q ∷ qs) l = refl

    among_more : (i : ℕ) → 1 ≤ i → i + w ≤ length above → choice_among (i + 1) ≡ fewer (choice_among i) (choice_at i)
    unfolding choice_among
    among_more i l h =
        rw (add-one i, ← overlaps_at w above under i p h) (choice_more (overlaps_of w above under) i l (omega (arith, overlaps_length w above under p)))

    among_all : (i : ℕ) → length above < i + w → choice_among i ≡ choice_of (choose_fences w above under)
    unfolding choice_among choose_fences
    among_all i h = rw (take_all i (overlaps_of w above under) (omega (arith, overlaps_length w above under p)))

-- the same by the fences that the code reads, `at` the stretch below run i
module _ (above under : List Fence) (w : ℕ) (p : 1 ≤ w) (o : Ordered 0 under) (d : Fence) where
  run_here : (i : ℕ) (at : Stretch) → at ≡ stretch_of (run_at w i above) under → choice_at w above under i ≡ run_over i at
  run_here i at e = rw (overlap_stretch (run_at w i above) under o, ← e)

  -- the ends at the first run, and at run i, are where the pass has them
  pub pass_here : (at : Stretch) → w ≤ length above → AtRun (get_or above 0 d).first (get_or above (0 + w - 1) d).last under at_start at → at ≡ pass_at w above under 0
  pass_here at h r = r.moved ∙ rw (← low_at above d 0 w p (omega arith), ← high_at above d 0 w p (omega arith)) (sym (pass_first w p above under h))

  pub pass_on : (i : ℕ) (before at : Stretch) → 1 ≤ i → i + w ≤ length above → before ≡ pass_at w above under (i - 1) → AtRun (get_or above i d).first (get_or above (i + w - 1) d).last under before at → at ≡ pass_at w above under i
  pass_on zero before at l h b r = absurd (omega arith)
  pass_on (suc i) before at l h b r =
      let m : suc i - 1 ≡ i = omega arith in
      r.moved ∙ rw (b, m, ← low_at above d (suc i) w p h, ← high_at above d (suc i) w p h) (sym (pass_next w p above under i h))

  pub choose_first : (at : Stretch) → w ≤ length above → at ≡ stretch_of (run_at w 0 above) under → choice_among w above under 1 ≡ run_over 0 at
  choose_first at h e = among_first w above under p h ∙ run_here 0 at e

  pub choose_more : (i : ℕ) (at : Stretch) → 1 ≤ i → i + w ≤ length above → at ≡ stretch_of (run_at w i above) under → choice_among w above under (i + 1) ≡ fewer (choice_among w above under i) (run_over i at)
  choose_more i at l h e = among_more w above under p i l h ∙ ap (fewer (choice_among w above under i)) (run_here i at e)

  pub choose_all : (i : ℕ) → length above < i + w → choice_among w above under i ≡ choice_of (choose_fences w above under)
  choose_all i h = among_all w above under p i h

-- The chosen run.

module _ (w : ℕ) (above under : List Fence) (p : 1 ≤ w) (h : w ≤ length above) where
  chosen : IsLeast (overlaps_of w above under) (choose_fences w above under).run
  unfolding choose_fences
  chosen = least_of_is (overlaps_of w above under) (omega (arith, overlaps_length w above under p))

  -- it lies in the level above
  pub chosen_inside : (choose_fences w above under).run.at + w ≤ length above
  chosen_inside = omega (arith, chosen.inside, overlaps_length w above under p)

  -- its overlap is the length of the stretch below it
  pub chosen_overlap : Ordered 0 under
      → (choose_fences w above under).run.value ≡ (stretch_of (take w (drop (choose_fences w above under).run.at above)) under).end - (stretch_of (take w (drop (choose_fences w above under).run.at above)) under).start
  chosen_overlap u =
      sym chosen.stands
      ∙ overlaps_at w above under (choose_fences w above under).run.at p chosen_inside
      ∙ overlap_stretch (take w (drop (choose_fences w above under).run.at above)) under u
