-- The cut of the two levels of a merge, for any run of w blocks: its parts make up the levels, Y is the blocks that X overlaps, and how the parts lie.
use Prim.Native.Nat.{ℕ, suc, ◌+◌, ◌<◌, ◌≤◌}
use mathlib.Core.Path.{◌≡◌, refl, sym, ◌∙◌, ap}
use mathlib.Core.Bool.{Bool, true, false, ◌&&◌}
use mathlib.Core.List.{List, [], ◌∷◌, ◌++◌, append_assoc, append-nil}
use native.Mathlib.Omega.{arith}
use lib.Dec.{leb, ltb}
use lib.Seq.{drop-drop}
use lib.ListN.{length, length-append, take, drop, length-take, length-drop, take-append-drop}
use borrow.Author.Tests.{leb-false, ltb-true, ltb-false, le-leb, lt-leb}
use Rattle.levels.specs.Basics.{if◌then◌otherwise◌}
use Rattle.levels.specs.Record.{Rec, Block, Level, records, first_key, last_key}
use Rattle.levels.specs.Choose.{lo_of, hi_of, meets, count_meets, overlap, Cut, below, not_above, cut_at}
use Rattle.levels.specs.Rising.{Rising, Below}
use Rattle.levels.specs.Well.{Sized, Well}
use Rattle.levels.proofs.Rising.{rising_from, rising_left, rising_right, below_more, below_append}
use Rattle.levels.proofs.Levels.{Ordered, records_three, well_drop, well_prefix, take_prefix, Prefix, empty, prefix_if, prefix_rest, drop_rising, block_ends, first_rising}

-- X and what is left and right of it make up the upper level
pub cut_above : (w first : ℕ) (above under : Level) → let c = cut_at w first above under in c.left ++ (c.run ++ c.right) ≡ above
unfolding cut_at
cut_above w first above under =
    ap (λ (k : Level). take first above ++ (take w (drop first above) ++ k)) (sym (drop-drop w first above))
    ∙ ap (λ (k : Level). take first above ++ k) (take-append-drop w (drop first above)) ∙ take-append-drop first above

-- what is before Y, and Y of the rest, are beginnings
below_prefix : (lo : ℕ) (l : Level) → Prefix (below lo l) l
below_prefix lo [] = empty
below_prefix lo (b ∷ bs) = prefix_if (ltb (last_key b.recs) lo) (below_prefix lo bs)

not_above_prefix : (hi : ℕ) (l : Level) → Prefix (not_above hi l) l
not_above_prefix hi [] = empty
not_above_prefix hi (b ∷ bs) = prefix_if (leb (first_key b.recs) hi) (not_above_prefix hi bs)

-- Y and what is before and behind it make up the lower level
pub cut_under : (w first : ℕ) (above under : Level) → let c = cut_at w first above under in c.before ++ (c.over ++ c.behind) ≡ under
unfolding cut_at
cut_under w first above under =
    let run : Level = take w (drop first above) in
    let rest : Level = drop (length (below (lo_of run) under)) under in
    ap (λ (k : Level). below (lo_of run) under ++ k) (prefix_rest (not_above_prefix (hi_of run) rest)) ∙ prefix_rest (below_prefix (lo_of run) under)

-- the lengths of the parts
pub cut_lengths : (w first : ℕ) (above under : Level) → let c = cut_at w first above under in
    (length c.left + length c.run + length c.right ≡ length above) × (length c.before + length c.over + length c.behind ≡ length under)
cut_lengths w first above under =
    let c = cut_at w first above under in (
      omega (arith, length-append c.left (c.run ++ c.right), length-append c.run c.right, ap length (cut_above w first above under)),
      omega (arith, length-append c.before (c.over ++ c.behind), length-append c.over c.behind, ap length (cut_under w first above under)),
    )

-- the run is the w blocks from block `first` on
pub cut_run : (w first : ℕ) (above under : Level) → (cut_at w first above under).run ≡ take w (drop first above)
unfolding cut_at
cut_run w first above under = refl

-- and so has w blocks, if so many are there
pub run_length : (w first : ℕ) (above under : Level) → first + w ≤ length above → length (cut_at w first above under).run ≡ w
unfolding cut_at
run_length w first above under h = length-take w (drop first above) ∙ omega (arith, length-drop first above)

-- "A run overlaps a block of level i + 1 if ..": the blocks that keys lo to hi overlap
abbrev pub overlapped : ℕ → ℕ → Level → Level
overlapped lo hi [] = []
overlapped lo hi (b ∷ bs) = if meets lo hi b then b ∷ overlapped lo hi bs otherwise overlapped lo hi bs

-- their number is the overlap
pub overlapped_length : (lo hi : ℕ) (l : Level) → length (overlapped lo hi l) ≡ count_meets lo hi l
overlapped_length lo hi [] = refl
overlapped_length lo hi (b ∷ bs) = go (meets lo hi b) (overlapped_length lo hi bs)
  where
    go : (t : Bool) → length (overlapped lo hi bs) ≡ count_meets lo hi bs
        → length (if t then b ∷ overlapped lo hi bs otherwise overlapped lo hi bs) ≡ (if t then suc (count_meets lo hi bs) otherwise count_meets lo hi bs)
    go true ih = ap suc ih
    go false ih = ih

overlapped_out : (lo hi : ℕ) (b : Block) (bs : Level) → last_key b.recs < lo → overlapped lo hi (b ∷ bs) ≡ overlapped lo hi bs
overlapped_out lo hi b bs h = rw (lt-leb lo (last_key b.recs) h)

overlapped_over : (lo hi : ℕ) (b : Block) (bs : Level) → hi < first_key b.recs → overlapped lo hi (b ∷ bs) ≡ overlapped lo hi bs
overlapped_over lo hi b bs h = go (leb lo (last_key b.recs)) (lt-leb (first_key b.recs) hi h)
  where
    go : (t : Bool) → leb (first_key b.recs) hi ≡ false → (if t && leb (first_key b.recs) hi then b ∷ overlapped lo hi bs otherwise overlapped lo hi bs) ≡ overlapped lo hi bs
    go true e = rw e
    go false e = refl

overlapped_none : (lo hi k : ℕ) (l : Level) → Ordered k l → hi < k → overlapped lo hi l ≡ []
overlapped_none lo hi k [] o h = refl
overlapped_none lo hi k (b ∷ bs) o h = overlapped_over lo hi b bs (omega arith) ∙ overlapped_none lo hi (suc (last_key b.recs)) bs o.2 (omega arith)

not_above_lem : (lo hi k : ℕ) (l : Level) → Ordered k l → lo ≤ k → not_above hi l ≡ overlapped lo hi l
not_above_lem lo hi k [] o h = refl
not_above_lem lo hi k (b ∷ bs) o h = go (leb (first_key b.recs) hi) refl (not_above_lem lo hi (suc (last_key b.recs)) bs o.2 (omega arith))
  where
    go : (t : Bool) → leb (first_key b.recs) hi ≡ t → not_above hi bs ≡ overlapped lo hi bs → (if t then b ∷ not_above hi bs otherwise []) ≡ overlapped lo hi (b ∷ bs)
    go true e ih = rw (e, le-leb lo (last_key b.recs) (omega arith)) (ap (λ (k : Level). b ∷ k) ih)
    go false e ih =
        sym (overlapped_over lo hi b bs (leb-false (first_key b.recs) hi e) ∙ overlapped_none lo hi (suc (last_key b.recs)) bs o.2 (omega (arith, leb-false (first_key b.recs) hi e)))

-- the same where only the first block's end is known to reach lo
not_above_first : (lo hi k : ℕ) (b : Block) (bs : Level) → Ordered k (b ∷ bs) → lo ≤ last_key b.recs → not_above hi (b ∷ bs) ≡ overlapped lo hi (b ∷ bs)
not_above_first lo hi k b bs o h = go (leb (first_key b.recs) hi) refl
  where
    go : (t : Bool) → leb (first_key b.recs) hi ≡ t → (if t then b ∷ not_above hi bs otherwise []) ≡ overlapped lo hi (b ∷ bs)
    go true e = rw (e, le-leb lo (last_key b.recs) h) (ap (λ (k : Level). b ∷ k) (not_above_lem lo hi (suc (last_key b.recs)) bs o.2 (omega arith)))
    go false e =
        sym (overlapped_over lo hi b bs (leb-false (first_key b.recs) hi e) ∙ overlapped_none lo hi (suc (last_key b.recs)) bs o.2 (omega (arith, leb-false (first_key b.recs) hi e)))

over_is : (lo hi k : ℕ) (l : Level) → Ordered k l → not_above hi (drop (length (below lo l)) l) ≡ overlapped lo hi l
over_is lo hi k [] o = refl
over_is lo hi k (b ∷ bs) o = go (ltb (last_key b.recs) lo) refl (over_is lo hi (suc (last_key b.recs)) bs o.2)
  where
    go : (t : Bool) → ltb (last_key b.recs) lo ≡ t → not_above hi (drop (length (below lo bs)) bs) ≡ overlapped lo hi bs
        → not_above hi (drop (length (if t then b ∷ below lo bs otherwise [])) (b ∷ bs)) ≡ overlapped lo hi (b ∷ bs)
    go true e ih = ih ∙ sym (overlapped_out lo hi b bs (ltb-true (last_key b.recs) lo e))
    go false e ih = not_above_first lo hi k b bs o (ltb-false (last_key b.recs) lo e)

-- "Y is those blocks": the blocks below that X overlaps
pub cut_over : (w first k : ℕ) (above under : Level) → Ordered k under → let c = cut_at w first above under in c.over ≡ overlapped (lo_of c.run) (hi_of c.run) under
unfolding cut_at
cut_over w first k above under o = let run : Level = take w (drop first above) in over_is (lo_of run) (hi_of run) k under o

-- q is the length of Y
pub over_length : (w first k : ℕ) (above under : Level) → Ordered k under → length (cut_at w first above under).over ≡ overlap under (take w (drop first above))
unfolding cut_at
over_length w first k above under o =
    let run : Level = take w (drop first above) in
    ap length (over_is (lo_of run) (hi_of run) k under o) ∙ overlapped_length (lo_of run) (hi_of run) under

-- the parts of two well filled levels
pub record WellCut (B : ℕ) (c : Cut) : Type 0 where
  pub left : Well B c.left
  pub run : Well B c.run
  pub right : Well B c.right
  pub before : Well B c.before
  pub over : Well B c.over
  pub behind : Well B c.behind

-- they are well filled too
pub cut_well : (B w first : ℕ) (above under : Level) → Well B above → Well B under → WellCut B (cut_at w first above under)
unfolding cut_at
cut_well B w first above under wa wu = record {
  left = well_prefix B (take_prefix first above) wa;
  run = well_prefix B (take_prefix w (drop first above)) (well_drop B first above wa);
  right = well_drop B (first + w) above wa;
  before = well_prefix B (below_prefix (lo_of run) under) wu;
  over = well_prefix B (not_above_prefix (hi_of run) rest) wr;
  behind = well_drop B (length (not_above (hi_of run) rest)) rest wr;
}
  where
    run : Level
    run = take w (drop first above)

    rest : Level
    rest = drop (length (below (lo_of run) under)) under

    wr : Well B rest
    wr = well_drop B (length (below (lo_of run) under)) under wu

-- the blocks below lo hold keys below lo
before_below : (B lo k : ℕ) (l : Level) → Sized B l → Rising k (records l) → Below lo (records (below lo l))
before_below B lo k [] s h = tt
before_below B lo k (b ∷ bs) s h =
    let e = block_ends k b.recs (records bs) s.0 h in
    go (ltb (last_key b.recs) lo) refl e.1 (before_below B lo (suc (last_key b.recs)) bs s.2 e.2)
  where
    go : (t : Bool) → ltb (last_key b.recs) lo ≡ t → Below (suc (last_key b.recs)) b.recs → Below lo (records (below lo bs)) → Below lo (records (if t then b ∷ below lo bs otherwise []))
    go true e c ih = below_append lo b.recs (records (below lo bs)) (below_more (suc (last_key b.recs)) lo b.recs (ltb-true (last_key b.recs) lo e) c) ih
    go false e c ih = tt

-- the blocks from the first that begins above hi
behind_rising : (B hi k : ℕ) (l : Level) → Sized B l → Rising k (records l) → Rising (suc hi) (records (drop (length (not_above hi l)) l))
behind_rising B hi k [] s h = tt
behind_rising B hi k (b ∷ bs) s h = go (leb (first_key b.recs) hi) refl (behind_rising B hi k bs s.2 (rising_right k b.recs (records bs) h))
  where
    go : (t : Bool) → leb (first_key b.recs) hi ≡ t → Rising (suc hi) (records (drop (length (not_above hi bs)) bs))
        → Rising (suc hi) (records (drop (length (if t then b ∷ not_above hi bs otherwise [])) (b ∷ bs)))
    go true e ih = ih
    go false e ih = rising_from (suc hi) (first_key b.recs) (records (b ∷ bs)) (leb-false (first_key b.recs) hi e) (first_rising k b bs s.0 h)

-- a run's first and last key
run_lo : (B k : ℕ) (l : Level) → Sized B l → Rising k (records l) → Rising (lo_of l) (records l)
run_lo B k [] s h = tt
run_lo B k (b ∷ bs) s h = first_rising k b bs s.0 h

run_hi : (B k : ℕ) (l : Level) (ys : List Rec) → 1 ≤ length l → Sized B l → Rising k (records l ++ ys) → (k ≤ hi_of l) × Below (suc (hi_of l)) (records l) × Rising (suc (hi_of l)) ys
run_hi B k [] ys p s h = absurd (omega arith)
run_hi B k (b ∷ []) ys p s h =
    let e : (b.recs ++ []) ++ ys ≡ b.recs ++ ys = ap (λ (l : List Rec). l ++ ys) (append-nil b.recs) in
    let i = block_ends k b.recs ys s.0 (rw e at h) in
    (i.0, rw (append-nil b.recs) i.1, i.2)
run_hi B k (b ∷ c ∷ bs) ys p s h =
    let e = append_assoc b.recs (records (c ∷ bs)) ys in
    let i = block_ends k b.recs (records (c ∷ bs) ++ ys) s.0 (rw e at h) in
    let ih = run_hi B (suc (last_key b.recs)) (c ∷ bs) ys (omega arith) s.2 i.2 in
    (omega (arith, i.0, ih.0), below_append (suc (hi_of (c ∷ bs))) b.recs (records (c ∷ bs)) (below_more (suc (last_key b.recs)) (suc (hi_of (c ∷ bs))) b.recs (omega (arith, ih.0)) i.1) ih.1, ih.2)

-- How the parts of two sorted levels lie: X's keys go from lo to hi; what is right of X, and what is behind Y, is above hi; what is before Y is below lo.
-- Y's first block may begin below lo.
pub record Lies (c : Cut) : Type 0 where
  pub run_low : Rising (lo_of c.run) (records c.run)
  pub run_high : Below (suc (hi_of c.run)) (records c.run)
  pub right_above : Rising (suc (hi_of c.run)) (records c.right)
  pub before_under : Below (lo_of c.run) (records c.before)
  pub behind_above : Rising (suc (hi_of c.run)) (records c.behind)
  pub upper_sorted : Rising 0 (records c.left ++ (records c.run ++ records c.right))
  pub lower_sorted : Rising 0 (records c.before ++ (records c.over ++ records c.behind))

cut_before : (B w first : ℕ) (above under : Level) → Sized B under → Rising 0 (records under) → let c = cut_at w first above under in Below (lo_of c.run) (records c.before)
unfolding cut_at
cut_before B w first above under s h = before_below B (lo_of (take w (drop first above))) 0 under s h

cut_behind : (B w first : ℕ) (above under : Level) → Well B under → Rising 0 (records under) → let c = cut_at w first above under in Rising (suc (hi_of c.run)) (records c.behind)
unfolding cut_at
cut_behind B w first above under s h =
    let run : Level = take w (drop first above) in
    let n : ℕ = length (below (lo_of run) under) in
    behind_rising B (hi_of run) 0 (drop n under) (well_drop B n under s).sized (drop_rising 0 n under h)

pub cut_lies : (B w first : ℕ) (above under : Level) → 1 ≤ w → first + w ≤ length above → Well B above → Well B under → Rising 0 (records above) → Rising 0 (records under)
    → Lies (cut_at w first above under)
cut_lies B w first above under p f wa wu ha hu =
    let c = cut_at w first above under in
    let wc = cut_well B w first above under wa wu in
    let ea = ap records (sym (cut_above w first above under)) ∙ records_three c.left c.run c.right in
    let eb = ap records (sym (cut_under w first above under)) ∙ records_three c.before c.over c.behind in
    let ra : Rising 0 (records c.left ++ (records c.run ++ records c.right)) = rw ea at ha in
    let rb : Rising 0 (records c.before ++ (records c.over ++ records c.behind)) = rw eb at hu in
    let rr = rising_right 0 (records c.left) (records c.run ++ records c.right) ra in
    let hi = run_hi B 0 c.run (records c.right) (omega (arith, run_length w first above under f)) wc.run.sized rr in
    record {
      run_low = run_lo B 0 c.run wc.run.sized (rising_left 0 (records c.run) (records c.right) rr);
      run_high = hi.1;
      right_above = hi.2;
      before_under = cut_before B w first above under wu.sized hu;
      behind_above = cut_behind B w first above under wu hu;
      upper_sorted = ra;
      lower_sorted = rb;
    }
