-- Demand 3's bound of the overlap: q is at most n divided by the whole part of a/w, rounded up.
-- The m runs that share no block overlap at most n + m − 1 blocks in all, so the least of them overlaps at most n/m, rounded up.
use Prim.Native.Nat.{ℕ, zero, suc, ◌+◌, ◌-◌, ◌*◌, ◌/◌, ◌<◌, ◌≤◌}
use mathlib.Core.Path.{◌≡◌, refl, sym, ◌∙◌}
use mathlib.Core.Bool.{Bool, true, false, ◌&&◌}
use mathlib.Core.List.{[], ◌∷◌}
use native.Mathlib.Omega.{arith}
use native.Mathlib.Decide.{dec_lt}
use native.Mathlib.Nat.{le-div_iff_mul-le, div-mul-le_self, mul-le-mul_right}
use lib.Dec.{leb}
use lib.ListN.{length, take, drop, length-drop}
use lib.Seq.{drop-drop}
use borrow.Author.Tests.{leb-true, leb-false, lt-leb}
use Rattle.geometry.specs.declared.Geometry.{Geometry}
use Rattle.geometry.specs.Geometry.{Ranged, capacity_of, window_of}
use Rattle.geometry.proofs.Laws.{capacity_windows, window_low}
use Rattle.levels.specs.Basics.{if◌then◌otherwise◌, ceil_div}
use Rattle.levels.specs.Record.{Block, Level, first_key, last_key}
use Rattle.levels.specs.Choose.{meets, count_meets, lo_of, hi_of, overlap, choose, overlap_bound}
use Rattle.levels.proofs.Levels.{Ordered}
use Rattle.levels.proofs.Choice.{choose_is}

-- the tests of a block, as laws of the count
pub count_out : (lo hi : ℕ) (b : Block) (bs : Level) → last_key b.recs < lo → count_meets lo hi (b ∷ bs) ≡ count_meets lo hi bs
count_out lo hi b bs h = rw (lt-leb lo (last_key b.recs) h)

pub count_over_lem : (lo hi : ℕ) (b : Block) (bs : Level) → hi < first_key b.recs → count_meets lo hi (b ∷ bs) ≡ count_meets lo hi bs
count_over_lem lo hi b bs h = go (leb lo (last_key b.recs)) (lt-leb (first_key b.recs) hi h)
  where
    go : (t : Bool) → leb (first_key b.recs) hi ≡ false → (if t && leb (first_key b.recs) hi then suc (count_meets lo hi bs) otherwise count_meets lo hi bs) ≡ count_meets lo hi bs
    go true e = rw e
    go false e = refl

count_most : (lo hi : ℕ) (b : Block) (bs : Level) → count_meets lo hi (b ∷ bs) ≤ suc (count_meets lo hi bs)
count_most lo hi b bs = go (meets lo hi b)
  where
    go : (t : Bool) → (if t then suc (count_meets lo hi bs) otherwise count_meets lo hi bs) ≤ suc (count_meets lo hi bs)
    go true = omega arith
    go false = omega arith

count_le : (lo hi : ℕ) (bs : Level) → count_meets lo hi bs ≤ length bs
count_le lo hi [] = omega arith
count_le lo hi (b ∷ bs) = omega (arith, count_most lo hi b bs, count_le lo hi bs)

-- no block meets a run that ends below them all
pub count_none : (lo hi k : ℕ) (bs : Level) → Ordered k bs → hi < k → count_meets lo hi bs ≡ 0
count_none lo hi k [] o h = refl
count_none lo hi k (b ∷ bs) o h = count_over_lem lo hi b bs (omega arith) ∙ count_none lo hi (suc (last_key b.recs)) bs o.2 (omega arith)

-- the blocks from the first that ends above hi
abbrev past : ℕ → Level → Level
past hi [] = []
past hi (b ∷ bs) = if leb (last_key b.recs) hi then past hi bs otherwise b ∷ bs

ordered_from : (low k : ℕ) (bs : Level) → low ≤ k → Ordered k bs → Ordered low bs
ordered_from low k [] h o = tt
ordered_from low k (b ∷ bs) h o = (omega arith, o.1, o.2)

past_ordered : (hi low : ℕ) (bs : Level) → Ordered low bs → Ordered low (past hi bs)
past_ordered hi low [] o = tt
past_ordered hi low (b ∷ bs) o = go (leb (last_key b.recs) hi) (past_ordered hi low bs (ordered_from low (suc (last_key b.recs)) bs (omega arith) o.2))
  where
    go : (t : Bool) → Ordered low (past hi bs) → Ordered low (if t then past hi bs otherwise b ∷ bs)
    go true p = p
    go false p = o

-- a run that starts above hi meets only blocks past hi
count_past : (hi lo' hi' : ℕ) (bs : Level) → hi < lo' → count_meets lo' hi' (past hi bs) ≡ count_meets lo' hi' bs
count_past hi lo' hi' [] h = refl
count_past hi lo' hi' (b ∷ bs) h = go (leb (last_key b.recs) hi) refl (count_past hi lo' hi' bs h)
  where
    go : (t : Bool) → leb (last_key b.recs) hi ≡ t → count_meets lo' hi' (past hi bs) ≡ count_meets lo' hi' bs
        → count_meets lo' hi' (if t then past hi bs otherwise b ∷ bs) ≡ count_meets lo' hi' (b ∷ bs)
    go true e ih = ih ∙ sym (count_out lo' hi' b bs (omega (arith, leb-true (last_key b.recs) hi e)))
    go false e ih = refl

-- a run meets the blocks that end with it or before, and at most one more
count_split : (lo hi k : ℕ) (bs : Level) → Ordered k bs → count_meets lo hi bs + length (past hi bs) ≤ suc (length bs)
count_split lo hi k [] o = omega arith
count_split lo hi k (b ∷ bs) o = go (leb (last_key b.recs) hi) refl (count_split lo hi (suc (last_key b.recs)) bs o.2)
  where
    go : (t : Bool) → leb (last_key b.recs) hi ≡ t → count_meets lo hi bs + length (past hi bs) ≤ suc (length bs)
        → count_meets lo hi (b ∷ bs) + length (if t then past hi bs otherwise b ∷ bs) ≤ suc (length (b ∷ bs))
    go true e ih = omega (arith, count_most lo hi b bs)
    go false e ih = omega (arith, count_most lo hi b bs, count_none lo hi (suc (last_key b.recs)) bs o.2 (omega (arith, leb-false (last_key b.recs) hi e)))

-- the overlaps of the m runs from the start of the level that share no block, added
abbrev pub overlaps : ℕ → ℕ → Level → Level → ℕ
overlaps zero w above under = 0
overlaps (suc m) w above under = overlap under (take w above) + overlaps m w (drop w above) under

-- of the first w blocks of a level: their first key, their last key, and what follows
lo_of_lem : (w k : ℕ) (l : Level) → Ordered k l → 1 ≤ w → w ≤ length l → k ≤ lo_of (take w l)
lo_of_lem zero k l o p f = omega arith
lo_of_lem (suc w) k [] o p f = omega arith
lo_of_lem (suc w) k (b ∷ bs) o p f = o.0

hi_of_lem : (w k : ℕ) (l : Level) → Ordered k l → 1 ≤ w → w ≤ length l → (k ≤ hi_of (take w l)) × Ordered (suc (hi_of (take w l))) (drop w l)
hi_of_lem zero k l o p f = absurd (omega arith)
hi_of_lem (suc w) k [] o p f = absurd (omega arith)
hi_of_lem (suc zero) k (b ∷ bs) o p f = (omega arith, o.2)
hi_of_lem (suc (suc w)) k (b ∷ []) o p f = absurd (omega arith)
hi_of_lem (suc (suc w)) k (b ∷ c ∷ bs) o p f =
    let ih = hi_of_lem (suc w) (suc (last_key b.recs)) (c ∷ bs) o.2 (omega arith) (omega arith) in
    (omega (arith, ih.0, o.0, o.1), ih.1)

-- runs above hi meet only blocks past hi
overlaps_past : (m hi w k : ℕ) (above under : Level) → Ordered k above → hi < k → 1 ≤ w → m * w ≤ length above → overlaps m w above (past hi under) ≡ overlaps m w above under
overlaps_past zero hi w k above under o h p f = refl
overlaps_past (suc m) hi w k above under o h p f =
    let c = hi_of_lem w k above o p (omega arith) in
    let here = count_past hi (lo_of (take w above)) (hi_of (take w above)) under (omega (arith, lo_of_lem w k above o p (omega arith))) in
    let more = overlaps_past m hi w (suc (hi_of (take w above))) (drop w above) under c.1 (omega (arith, c.0)) p (omega (arith, length-drop w above)) in
    rw (here, more)

-- m + 1 such runs overlap at most n + m blocks in all: two neighbours share at most one
pub overlaps_most : (m w k j : ℕ) (above under : Level) → Ordered k above → Ordered j under → 1 ≤ w → suc m * w ≤ length above → overlaps (suc m) w above under ≤ m + length under
overlaps_most zero w k j above under o u p f = omega (arith, count_le (lo_of (take w above)) (hi_of (take w above)) under)
overlaps_most (suc m) w k j above under o u p f =
    let hi = hi_of (take w above) in
    let c = hi_of_lem w k above o p (omega arith) in
    let fits : suc m * w ≤ length (drop w above) = omega (arith, length-drop w above) in
    let ih = overlaps_most m w (suc hi) j (drop w above) (past hi under) c.1 (past_ordered hi j under u) p fits in
    let same = overlaps_past (suc m) hi w (suc hi) (drop w above) under c.1 (omega arith) p fits in
    omega (arith, ih, same, count_split (lo_of (take w above)) hi j under u)

-- a number that is at most each of the overlaps
least_times : (q m w : ℕ) (above under : Level) → ((i : ℕ) → i + w ≤ length above → q ≤ overlap under (take w (drop i above))) → m * w ≤ length above
    → m * q ≤ overlaps m w above under
least_times q zero w above under h f = omega arith
least_times q (suc m) w above under h f =
    omega (arith, h 0 (omega arith), least_times q m w (drop w above) under (λ i g. rw drop-drop (h (w + i) (omega (arith, length-drop w above)))) (omega (arith, length-drop w above)))

-- a q that no run of w blocks stays below is at most n/m, rounded up, where m runs that share no block fit above
pub fewest_bound : (q m w k j : ℕ) (above under : Level) → Ordered k above → Ordered j under → 1 ≤ w → 1 ≤ m → m * w ≤ length above
    → ((i : ℕ) → i + w ≤ length above → q ≤ overlap under (take w (drop i above))) → q ≤ ceil_div (length under) m
fewest_bound q zero w k j above under o u p n f h = absurd (omega arith)
fewest_bound q (suc m) w k j above under o u p n f h =
    let a = overlaps_most m w k j above under o u p f in
    let b = least_times q (suc m) w above under h f in
    (le-div_iff_mul-le n).1 (omega arith)

-- demand 3: "q is at most n divided by the whole part of a/w, rounded up"
pub choose_bound : (w k j : ℕ) (above under : Level) → Ordered k above → Ordered j under → 1 ≤ w → w ≤ length above
    → (choose w above under).value ≤ overlap_bound w (length above) (length under)
choose_bound w k j above under o u p f =
    fewest_bound (choose w above under).value (length above / w) w k j above under o u p ((le-div_iff_mul-le p).1 (omega arith)) (div-mul-le_self (length above) w) (choose_is w above under p f).fewest

pub ceil_most : (n m W : ℕ) → 1 ≤ m → n ≤ m * W → ceil_div n m ≤ W
ceil_most n m W p h = go (dec_lt W (ceil_div n m))
  where
    go : Dec (W < ceil_div n m) → ceil_div n m ≤ W
    go (no d) = omega arith
    go (yes d) = absurd (omega (arith, mul-le-mul_right m d, div-mul-le_self (n + (m - 1)) m))

-- a level that holds K(i) blocks or more has d runs that share no block
pub runs_enough : (g : Geometry) (i a : ℕ) → Ranged g → capacity_of g i ≤ a → g.d ≤ a / window_of g i
runs_enough g i a k h = (le-div_iff_mul-le (window_low g k i)).1 (omega (arith, capacity_windows g i))

-- a level that holds K(i) blocks or more has room for a run
pub window_fits : (g : Geometry) (i a : ℕ) → Ranged g → capacity_of g i ≤ a → window_of g i ≤ a
window_fits g i a k h = let d = k.d_low in omega (arith, capacity_windows g i, mul-le-mul_right {m = 1} {n = g.d} (window_of g i) (omega arith))

-- so the chosen run overlaps at most W(i + 1) blocks of a level below that is not over its capacity
pub choose_window : (g : Geometry) (i k j : ℕ) (above under : Level) → Ranged g → Ordered k above → Ordered j under → capacity_of g i ≤ length above → length under ≤ capacity_of g (suc i)
    → (choose (window_of g i) above under).value ≤ window_of g (suc i)
choose_window g i k j above under v oa ou a u =
    let p = window_low g v i in
    let f = window_fits g i (length above) v a in
    let r = runs_enough g i (length above) v a in
    let d = v.d_low in
    let c = choose_bound (window_of g i) k j above under oa ou p f in
    let m = ceil_most (length under) (length above / window_of g i) (window_of g (suc i)) (omega (arith, r)) (omega (arith, capacity_windows g (suc i), mul-le-mul_right (window_of g (suc i)) r)) in
    omega (arith, c, m)
