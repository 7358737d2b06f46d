-- What a merge in the array of lists asks and leaves, and that it is a merge of parts of levels.
use Prim.Native.Nat.{ℕ, zero, suc, ◌+◌, ◌-◌, ◌*◌, ◌≤◌, ◌<◌}
use mathlib.Core.Path.{◌≡◌, refl, sym, ap, ◌∙◌}
use mathlib.Core.Bool.{Bool, true, false}
use mathlib.Core.List.{List, [], ◌∷◌, map}
use native.Mathlib.Nat.{add-zero}
use native.Mathlib.Omega.{arith}
use lib.ListN.{length, get_or, take, drop, length-map, length-drop}
use lib.Seq.{take_all, length-take-le, get_or-take}
use Rattle.std.specs.Prelude.{Option, None, Some}
use Rattle.std.specs.Option.{unwrap_or, option_map}
use Rattle.geometry.specs.Room.{places_most, list_room}
use Rattle.levels.specs.Record.{Level, records, rising, new}
use Rattle.levels.specs.Rising.{Rising}
use Rattle.levels.specs.Choose.{choose}
use Rattle.levels.specs.Merge.{merge}
use Rattle.levels.specs.Place.{Allocation, Settled, settle, places_of}
use Rattle.levels.proofs.Lists.{map_take, map_drop, get_d_map_in}
use Rattle.levels.proofs.Rising.{test_rising, rising_from, rising_left, rising_right}
use Rattle.levels.proofs.Settling.{settle_length}
use Rattle.pieces.specs.Pieces.{part}
use Rattle.pieces.proofs.Parts.{part_length, part_part}
use Rattle.words.specs.Stores.{block_at}
use Rattle.lists.specs.Flat.{part_start, part_room}
use Rattle.lists.proofs.Flat.{part_inside, part_entries}
use Rattle.merging.specs.declared.Cut.{Cut}
use Rattle.merging.specs.declared.Merged.{Merged}
use Rattle.merging.specs.Contract.{page_at, blocks_of, run_of, merge_of, ListedBlock, FullPage, Leaves}
use Rattle.pair.specs.declared.Picked.{Picked}
use Rattle.pair.specs.Contract.{level_of, listed, InUse, Chosen, Stored, Relistable, Relisted, LowerLeaves}
use Rattle.pair.proofs.Lists.{Anew, put_anew}
use Rattle.pair.proofs.Room.{count_few}
use Rattle.layout.specs.Layouts.{Proper}
use Rattle.layout.specs.declared.Layout.{Layout}

-- a cut by numbers: the lower list has n entries from entry `at` of the array on, and Y is those from p to q
abbrev pub cut_from : ℕ → ℕ → ℕ → ℕ → ℕ → ℕ → Bool → Bool → Cut
cut_from x v at p q n pages bottom = record { x = x; xend = v; start = at; y = at + p; yend = at + q; end = at + n; pages = pages; bottom = bottom }

-- where the keys of a level rise, those of each of its blocks do
pub block_rises : (low : ℕ) (l : Level) (k : ℕ) → Rising low (records l) → k < length l → Rising 0 (get_or l k (new [])).recs
block_rises low [] k h e = absurd (omega arith)
block_rises low (b ∷ bs) zero h e = rising_from 0 low b.recs (omega arith) (rising_left low b.recs (records bs) h)
block_rises low (b ∷ bs) (suc k) h e = block_rises low bs k (rising_right low b.recs (records bs) h) (omega arith)

-- m blocks from block i on of the n that an array lists from entry `at` on
pub part_is : (z : Layout) (ws list : List ℕ) (at n i m : ℕ) → i + m ≤ n → blocks_of z ws list (at + i) m ≡ take m (drop i (blocks_of z ws list at n))
unfolding part
part_is z ws list at n i m h =
    ap (map (block_at z ws)) (sym (part_part list at n i m h)) ∙ map_take (block_at z ws) m (drop i (part list at n)) ∙ ap (take m) (map_drop (block_at z ws) i (part list at n))

pub front_is : (z : Layout) (ws list : List ℕ) (at n m : ℕ) → m ≤ n → blocks_of z ws list at m ≡ take m (blocks_of z ws list at n)
front_is z ws list at n m h = rw add-zero at (part_is z ws list at n 0 m (omega arith))

-- the blocks behind block i
pub rest_is : (z : Layout) (ws list : List ℕ) (at n i : ℕ) → i ≤ n → at + n ≤ length list → blocks_of z ws list (at + i) (n - i) ≡ drop i (blocks_of z ws list at n)
unfolding part
rest_is z ws list at n i h l =
    part_is z ws list at n i (n - i) (omega arith)
    ∙ take_all (n - i) (drop i (blocks_of z ws list at n)) (omega (arith, length-drop i (blocks_of z ws list at n), length-map (part list at n) (block_at z ws), part_length list at n l))

-- a level, by the entries of the whole array
pub listed_is : (z : Layout) (ws lists : List ℕ) (i n : ℕ) → n ≤ part_room z.geo.h i → listed z ws lists i n ≡ blocks_of z ws lists (part_start z.geo.h i) n
unfolding part
listed_is z ws lists i n h = ap (map (block_at z ws)) (part_entries z.geo.h i n lists h)

pub level_length : (z : Layout) (ws list : List ℕ) (n : ℕ) → n ≤ length list → length (level_of z ws list n) ≡ n
level_length z ws list n h = length-map (take n list) (block_at z ws) ∙ length-take-le n list h

pub listed_rises : (z : Layout) (ws list : List ℕ) (n : ℕ) → n ≤ length list → rising 0 (records (level_of z ws list n)) ≡ true → (k : ℕ) → k < n → Rising 0 (block_at z ws (get_or list k 0)).recs
listed_rises z ws list n h r k l =
    let e : get_or (level_of z ws list n) k (new []) ≡ block_at z ws (get_or list k 0) = get_d_map_in (block_at z ws) (take n list) k 0 (new []) (rw (length-take-le n list h) l) ∙ ap (block_at z ws) (get_or-take n list k 0 l) in
    rw (← e) (block_rises 0 (level_of z ws list n) k (test_rising 0 (records (level_of z ws list n)) r) (rw (level_length z ws list n h) l))

-- the merge of a cut by numbers, as the merge of parts of two levels
pub merge_is : (z : Layout) (ws xs ys : List ℕ) (x v at p q n : ℕ) (pages bottom : Bool) (run under : Level) → p ≤ q → q ≤ n → at + n ≤ length ys
    → run_of pages z ws xs x (v - x) ≡ run → blocks_of z ws ys at n ≡ under
    → merge_of z ws xs ys (cut_from x v at p q n pages bottom) ≡ merge z.geo.b bottom (take p under) run (take (q - p) (drop p under)) (drop q under)
unfolding merge_of
merge_is z ws xs ys x v at p q n pages bottom run under h l m er eu =
    let a : at + p - at ≡ p = omega arith in
    let b : at + q - (at + p) ≡ q - p = omega arith in
    let c : at + n - (at + q) ≡ n - q = omega arith in
    rw (a, b, c, er, front_is z ws ys at n p (omega arith), part_is z ws ys at n p (q - p) (omega arith), rest_is z ws ys at n q l m, eu)

-- a listed block whose keys rise
abbrev pub Sound : Layout → List ℕ → List Bool → ℕ → Type 0
Sound z ws used q = ListedBlock z ws used q × Rising 0 (block_at z ws q).recs

pub stored_sound : (z : Layout) (ws : List ℕ) (used : List Bool) (list : List ℕ) (n : ℕ) → Stored z ws used list n → (k : ℕ) → k < n → Sound z ws used (get_or list k 0)
stored_sound z ws used list n s k h = (s.blocks k h, listed_rises z ws list n s.long s.rises k h)

-- what every merge in the array asks
module _ (z : Layout) (ws : List ℕ) (used : List Bool) (lists xs : List ℕ) (cursor : ℕ) (valid : Proper z) (words : length ws ≡ z.length) (marks : length used ≡ places_most)
    (ll : length lists ≡ list_room) (xl : length xs ≡ list_room) (low : cursor < z.geo.p) (in_use : InUse used) where
  pub relistable : (j x v p q n : ℕ) (pages bottom : Bool) → x ≤ v → v ≤ list_room → p ≤ q → q ≤ n → n ≤ part_room z.geo.h j
      → (pages ≡ false → (k : ℕ) → x ≤ k → k < v → Sound z ws used (get_or xs k 0))
      → (pages ≡ true → (k : ℕ) → x ≤ k → k < v → FullPage z ws k × Rising 0 (page_at z ws k).recs)
      → ((k : ℕ) → part_start z.geo.h j ≤ k → k < part_start z.geo.h j + n → Sound z ws used (get_or lists k 0))
      → n + 2 * ((v - x) + (q - p)) + 2 ≤ list_room → length in_use.places + ((v - x) + (q - p)) + 1 ≤ z.geo.p
      → length (merge_of z ws xs lists (cut_from x v (part_start z.geo.h j) p q n pages bottom)) ≤ part_room z.geo.h j
      → Relistable z ws used lists xs (cut_from x v (part_start z.geo.h j) p q n pages bottom) cursor
  relistable j x v p q n pages bottom xo xh po qo nh up pg lo room free fits =
      let i = part_inside z.geo.h j in
      let c = count_few z.geo.p used in_use.places in_use.marks in
      record {
        in_use = in_use;
        lists_long = ll;
        mergeable = λ out ol. record {
          proper = valid;
          words = words;
          marks_long = marks;
          out_long = ol;
          xs_long = xl;
          ys_long = ll;
          cursor_low = low;
          x_low = xo;
          x_high = xh;
          start_low = omega arith;
          y_low = omega arith;
          y_high = omega arith;
          end_high = omega arith;
          upper = λ e k a b. (up e k a b).0;
          paged = λ e k a b. (pg e k a b).0;
          lower = λ k a b. (lo k a b).0;
          upper_rises = λ e k a b. (up e k a b).1;
          paged_rises = λ e k a b. (pg e k a b).1;
          lower_rises = λ k a b. (lo k a b).1;
          room = omega arith;
          free = omega arith;
        };
        fits = omega arith;
      }

-- the new list is as long as the merge makes the level
pub leaves_count : (z : Layout) (al : Allocation) (l : Level) (ws ws' : List ℕ) (used' : List Bool) (out : List ℕ) (r : Merged) → Leaves z (settle z.geo.p al l) ws ws' used' out r → r.count ≡ length l
leaves_count z al l ws ws' used' out r k = k.count ∙ settle_length z.geo.p al l

-- what a merge leaves of its list
pub relisted_anew : (z : Layout) (al : Allocation) (l : Level) (j : ℕ) (ws ws' : List ℕ) (used' : List Bool) (lists lists' : List ℕ) (r : Merged) → Relisted z (settle z.geo.p al l) (part_start z.geo.h j) ws ws' used' lists lists' r
    → Proper z → 1 ≤ j → j ≤ z.geo.h → length lists ≡ list_room → length l ≤ part_room z.geo.h j → Anew z.geo.h j r.count (places_of (settle z.geo.p al l).level) lists lists'
relisted_anew z al l j ws ws' used' lists lists' r k v low high ll f =
    let h = k.leaves.count_high in
    let o = k.leaves.list_long in
    let c = leaves_count z al l ws ws' used' k.out r k.leaves in
    put_anew z.geo.h j r.count (places_of (settle z.geo.p al l).level) lists lists' v.valid.ranged.h_high low high ll (sym (ap length k.leaves.list) ∙ length-take-le r.count k.out (omega arith)) (omega arith) k.put

-- and of the lower level, for the run that was chosen
pub lower_leaves : (z : Layout) (st : Settled) (j : ℕ) (ws ws' : List ℕ) (used' : List Bool) (out lists lists' : List ℕ) (v : Merged) → Leaves z st ws ws' used' out v → Anew z.geo.h j v.count (places_of st.level) lists lists'
    → (w : ℕ) (above under : Level) (p : Picked) → Chosen w above under p → (a writes : ℕ)
    → LowerLeaves z j st (choose w above under) used' lists' (record { above = a; under = v.count; cursor = v.cursor; writes = writes; first = p.first; overlap = p.overlap })
lower_leaves z st j ws ws' used' out lists lists' v k n w above under p c a writes =
    record {
      lower = n.here;
      lists_long = n.long;
      under = k.count;
      cursor = k.cursor;
      marks = k.marks;
      marks_long = k.marks_long;
      first = c.first;
      overlap = c.overlap;
    }

-- what is made of a value, or of another where there is none
pub made_or : {A B : Type 0} (f : A → B) (o : Option A) (d : A) → f (unwrap_or o d) ≡ unwrap_or (option_map f o) (f d)
made_or f None d = refl
made_or f (Some x) d = refl
