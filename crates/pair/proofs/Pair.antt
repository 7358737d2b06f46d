-- The whole merge between two listed levels.
use Prim.Native.Nat.{ℕ, zero, suc, ◌+◌, ◌-◌, ◌≤◌, ◌<◌}
use mathlib.Core.Path.{◌≡◌, refl, sym, ap, ◌∙◌}
use mathlib.Core.Bool.{Bool, false, true≢false}
use mathlib.Core.List.{List, [], ◌∷◌, ◌++◌, map, map-append}
use mathlib.Core.Logic.{◌≢◌}
use native.Mathlib.Omega.{arith}
use lib.Dec.{eqb}
use lib.ListN.{length, get_or, take, drop, length-append, length-drop}
use lib.Seq.{get_or-take, length-take-le, take_at, drop_at}
use Rattle.slices.specs.Slices.{put_at}
use Rattle.geometry.specs.Geometry.{window_of}
use Rattle.geometry.specs.Room.{list_room}
use Rattle.geometry.proofs.Laws.{window_low}
use Rattle.levels.specs.Record.{Level}
use Rattle.levels.specs.Choose.{choose, cut_at}
use Rattle.levels.specs.Choose as choosing
use Rattle.levels.specs.Merge.{merge, close}
use Rattle.levels.specs.Place.{Allocation, settle, places_of}
use Rattle.levels.specs.Taking.{fresh}
use Rattle.levels.proofs.Fresh.{count_all}
use Rattle.levels.proofs.Levels.{Filled}
use Rattle.levels.proofs.Lists.{map_drop, map_take}
use Rattle.levels.proofs.MergeWrites.{close_length}
use Rattle.levels.proofs.Settling.{written_length, settle_length}
use Rattle.pieces.specs.Pieces.{part}
use Rattle.pieces.proofs.Parts.{part_length}
use Rattle.words.specs.Stores.{block_at, with_blocks}
use Rattle.words.proofs.Blocks.{block_size, blocks_append}
use Rattle.lists.specs.Flat.{part_start, part_room, part_of}
use Rattle.lists.proofs.Flat.{part_inside, part_of_length}
use Rattle.choice.specs.Fences.{Ordered, fence_of}
use Rattle.choice.proofs.Levels.{level_ordered}
use Rattle.blocks.specs.Blocks.{Marks}
use Rattle.merging.specs.declared.Cut.{Cut}
use Rattle.merging.specs.declared.Merged.{Merged}
use Rattle.merging.specs.Contract.{ListedBlock, blocks_of, merge_of, Leaves}
use Rattle.pair.specs.declared.Picked.{Picked}
use Rattle.pair.specs.Contract.{level_of, listed, gap_at, meets_at, cut_of, upper_after, lower_after, Chosen, Readables, Stored, Relistable, Relisted, PairReady, PairLeaves}
use Rattle.pair.proofs.Lists.{Anew, put_anew, slice_is, part_each, copied_length, copied_run, copied_entry, gone_put, gone_each}
use Rattle.layout.specs.Layouts.{Proper}
use Rattle.layout.specs.declared.Layout.{Layout}
use Rattle.pair.proofs.Chosen.{run_inside, ends_in_order, ends_inside, overlap_is}
use Rattle.pair.proofs.Below.{met_merge}
use Rattle.pair.proofs.Merges.{Sound, stored_sound, relistable, relisted_anew, lower_leaves, part_is, front_is, rest_is, listed_is, level_length, merge_is}
use Rattle.pair.proofs.After.{Later, later, listed_fresh, close_fit, close_one}
use Rattle.layout.specs.Layouts.{Proper}
use Rattle.layout.specs.declared.Layout.{Layout}

stored_filled : (z : Layout) (ws : List ℕ) (used : List Bool) (list : List ℕ) (n : ℕ) → ((k : ℕ) → k < n → ListedBlock z ws used (get_or list k 0)) → Filled (level_of z ws list n)
stored_filled z ws used list zero f = tt
stored_filled z ws used [] (suc n) f = tt
stored_filled z ws used (p ∷ ps) (suc n) f =
    let b = f 0 (omega arith) in
    (rw (block_size z ws p b.high) b.low, stored_filled z ws used ps n (λ k h. f (suc k) (omega arith)))

-- stored blocks lie in key order, and can be read
module _ (z : Layout) (ws : List ℕ) (used : List Bool) (list : List ℕ) (n : ℕ) (k : Stored z ws used list n) where
  pub stored_ordered : Ordered 0 (map fence_of (level_of z ws list n))
  stored_ordered = level_ordered 0 (level_of z ws list n) (stored_filled z ws used list n k.blocks) k.rises

  pub stored_length : length (level_of z ws list n) ≡ n
  stored_length = level_length z ws list n k.long

  pub stored_readable : Readables z ws (take n list)
  stored_readable =
      let l : length (take n list) ≡ n = length-take-le n list k.long in
      record {
        high = rw l k.high;
        read = λ i h. let m : i < n = rw l at h in let b = k.blocks i m in rw (get_or-take n list i 0 m) (record { inside = b.place; filled = b.low; fits = b.high });
        ordered = stored_ordered;
      }

-- a list has room in its part, and its part in the array
pub stored_room : (z : Layout) (ws : List ℕ) (used : List Bool) (lists : List ℕ) (j n : ℕ) → length lists ≡ list_room → Stored z ws used (part_of z.geo.h lists j) n → n ≤ part_room z.geo.h j
stored_room z ws used lists j n l k = let m = k.long in omega (arith, part_of_length z.geo.h j lists l)

-- a merge writes no more blocks than it leaves
leaves_writes : (z : Layout) (a : Allocation) (l : Level) (ws ws' : List ℕ) (used' : List Bool) (out' : List ℕ) (r : Merged) → Leaves z (settle z.geo.p a l) ws ws' used' out' r → r.writes ≤ 4096
leaves_writes z a l ws ws' used' out' r k =
    let w = k.writes in
    let c = k.count in
    let h = k.count_high in
    omega (arith, written_length z.geo.p a l, settle_length z.geo.p a l, count_all l)

-- from level 1 on, step 2 is the same for every level
close_level : (B i : ℕ) (left right : Level) → 1 ≤ i → close B i left right ≡ close B 1 left right
close_level B zero left right h = absurd (omega arith)
close_level B (suc i) left right h = refl

module _ (z : Layout) (ws : List ℕ) (used : List Bool) (lists : List ℕ) (i a n cursor : ℕ) (k : PairReady z ws used lists i a n cursor) where
  abbrev w : ℕ
  w = window_of z.geo i

  abbrev at : ℕ
  at = part_start z.geo.h i

  abbrev low : ℕ
  low = part_start z.geo.h (suc i)

  abbrev above : Level
  above = listed z ws lists i a

  abbrev under : Level
  under = listed z ws lists (suc i) n

  abbrev cut : choosing.Cut
  cut = cut_of z i above under

  a_room : a ≤ part_room z.geo.h i
  a_room = stored_room z ws used lists i a k.lists_long k.above

  n_room : n ≤ part_room z.geo.h (suc i)
  n_room = stored_room z ws used lists (suc i) n k.lists_long k.under

  -- both lists lie in the array
  pub pair_inside : (at + a ≤ list_room) × (low + n ≤ list_room)
  pair_inside = (omega (arith, a_room, part_inside z.geo.h i), omega (arith, n_room, part_inside z.geo.h (suc i)))

  w_low : 1 ≤ w
  w_low = window_low z.geo k.proper.valid.ranged i

  oa : Ordered 0 (map fence_of above)
  oa = stored_ordered z ws used (part_of z.geo.h lists i) a k.above

  ou : Ordered 0 (map fence_of under)
  ou = stored_ordered z ws used (part_of z.geo.h lists (suc i)) n k.under

  la : length above ≡ a
  la = stored_length z ws used (part_of z.geo.h lists i) a k.above

  lu : length under ≡ n
  lu = stored_length z ws used (part_of z.geo.h lists (suc i)) n k.under

  fits : w ≤ length above
  fits = rw la k.window

  -- the lists, as the code lends them
  abbrev us : List ℕ
  us = take (at + a - at) (drop at lists)

  abbrev vs : List ℕ
  vs = take (low + n - low) (drop low lists)

  -- the run can be chosen, and is
  pub pair_choosable : Proper z × ((length ws ≡ z.length) × ((1 ≤ w) × ((w ≤ length us) × (Readables z ws us × Readables z ws vs))))
  pair_choosable =
      let l : length (take a (part_of z.geo.h lists i)) ≡ a = length-take-le a (part_of z.geo.h lists i) k.above.long in
      rw (slice_is z.geo.h i a lists a_room, slice_is z.geo.h (suc i) n lists n_room)
      (k.proper, (k.words, (w_low, (rw l k.window, (stored_readable z ws used (part_of z.geo.h lists i) a k.above, stored_readable z ws used (part_of z.geo.h lists (suc i)) n k.under)))))

  pub pair_chosen : (r : Picked) → Chosen w (map (block_at z ws) us) (map (block_at z ws) vs) r → Chosen w above under r
  pair_chosen r = rw (slice_is z.geo.h i a lists a_room, slice_is z.geo.h (suc i) n lists n_room) (λ c. c)

  module _ (r : Picked) (ch : Chosen w above under r) where
    pub run_in : r.first + w ≤ a
    run_in = rw la at (run_inside w above under r ch oa ou w_low fits)

    pub met_in : (r.start ≤ r.end) × (r.end ≤ n)
    met_in = (ends_in_order w above under r ch oa ou w_low fits, rw lu at (ends_inside w above under r ch oa ou w_low fits))

    abbrev left : Level
    left = take r.first above

    abbrev right : Level
    right = drop (r.first + w) above

    abbrev shut : Level
    shut = close z.geo.b 1 left right

    -- step 2 is what document 01 asks for
    upper_is : close z.geo.b i cut.left cut.right ≡ shut
    unfolding cut_at
    upper_is = rw (← ch.first) (close_level z.geo.b i left right k.level_low)

    left_old : fresh left ≡ 0
    left_old = rw (← map_take (block_at z ws) r.first (take a (part_of z.geo.h lists i))) (listed_fresh z ws (take r.first (take a (part_of z.geo.h lists i))))

    right_old : fresh right ≡ 0
    right_old = rw (← map_drop (block_at z ws) (r.first + w) (take a (part_of z.geo.h lists i))) (listed_fresh z ws (drop (r.first + w) (take a (part_of z.geo.h lists i))))

    left_long : length left ≡ r.first
    left_long = length-take-le r.first above (omega (arith, run_in, la))

    shut_few : length shut ≤ a - w
    shut_few = omega (arith, close_length z.geo.b 0 left right, left_long, length-drop (r.first + w) above, la, run_in)

    -- the run is copied and leaves its list
    module _ (zeros xs lists1 : List ℕ) (zl : length zeros ≡ list_room) (ex : xs ≡ put_at r.first (take w (drop (at + r.first) lists)) zeros)
        (e1 : lists1 ≡ put_at (at + r.first) (take (at + (a - w) - (at + r.first)) (drop (at + r.first + w) lists)) lists) where
      abbrev m : ℕ
      m = a - (r.first + w)

      all : r.first + (w + m) ≡ a
      all = omega (arith, run_in)

      gone : lists1 ≡ put_at (at + r.first) (take m (drop (at + r.first + w) lists)) lists
      gone = let e : at + (a - w) - (at + r.first) ≡ m = omega (arith, run_in) in rw e at e1

      inside : at + (r.first + (w + m)) ≤ length lists
      inside = omega (arith, all, pair_inside.0, k.lists_long)

      anew1 : Anew z.geo.h i (a - w) (part lists at r.first ++ part lists (at + r.first + w) m) lists lists1
      anew1 =
          let u = part_length lists at r.first (omega (arith, inside)) in
          let v = part_length lists (at + r.first + w) m (omega (arith, inside)) in
          let h = k.level_high in
          put_anew z.geo.h i (a - w) _ lists lists1 k.proper.valid.ranged.h_high k.level_low (omega arith) k.lists_long (rw length-append (omega (arith, run_in))) (omega (arith, a_room)) (gone_put lists lists1 at r.first w m inside gone)

      shut_level : blocks_of z ws lists1 at (a - w) ≡ left ++ right
      unfolding part
      shut_level =
          let s : at + (r.first + w) ≡ at + r.first + w = omega arith in
          sym (listed_is z ws lists1 i (a - w) (omega (arith, a_room))) ∙ ap (map (block_at z ws)) anew1.here ∙ map-append (block_at z ws) (part lists at r.first) (part lists (at + r.first + w) m)
          ∙ rw (listed_is z ws lists i a a_room, ← front_is z ws lists at a r.first (omega (arith, run_in)), ← rest_is z ws lists at a (r.first + w) run_in (omega (arith, pair_inside.0, k.lists_long)), s)

      shut_is : merge_of z ws xs lists1 (gap_at w at a r) ≡ shut
      shut_is =
          let o : r.first - r.first ≡ 0 = omega arith in
          merge_is z ws xs lists1 0 0 at r.first r.first (a - w) false false [] (left ++ right) (omega arith) (omega (arith, run_in)) (omega (arith, anew1.long, pair_inside.0)) refl shut_level
          ∙ rw (o, take_at left right r.first left_long, drop_at left right r.first left_long)

      xl : length xs ≡ list_room
      xl = copied_length xs zeros lists r.first (at + r.first) w (omega (arith, run_in, k.above.high)) (omega (arith, inside)) ex ∙ zl

      -- step 2 can be made
      pub pair_closable : Relistable z ws used lists1 xs (gap_at w at a r) cursor
      pair_closable =
          let h = run_in in
          let s = k.above.high in
          let f = k.free in
          let e = all in
          relistable z ws used lists1 xs cursor k.proper k.words k.marks_long anew1.long xl k.cursor_low k.in_use i 0 0 r.first r.first (a - w) false false (omega arith) (omega arith) (omega arith) (omega arith) (omega (arith, a_room))
          (λ _ j x y. absurd (omega arith)) (λ t. absurd (true≢false (sym t)))
          (λ j x y. gone_each lists lists1 at r.first w m inside gone (Sound z ws used) (λ l b d. part_each (Sound z ws used) z.geo.h i a lists a_room (stored_sound z ws used (part_of z.geo.h lists i) a k.above) l b (omega arith)) j x (omega arith))
          (omega arith) (omega arith) (rw shut_is (omega (arith, shut_few, a_room)))

      -- after step 2
      module _ (ws1 : List ℕ) (used1 : List Bool) (lists2 : List ℕ) (u : Merged)
          (k2 : (al : Allocation) → al.cursor ≡ cursor → Marks used al.used → Relisted z (settle z.geo.p al (merge_of z ws xs lists1 (gap_at w at a r))) at ws ws1 used1 lists1 lists2 u) where
        -- for the places in use at its start
        abbrev at_start_lem : Allocation
        at_start_lem = record { used = k.in_use.places; cursor = cursor }

        relisted1 : (al : Allocation) → al.cursor ≡ cursor → Marks used al.used → Relisted z (settle z.geo.p al shut) at ws ws1 used1 lists1 lists2 u
        relisted1 al e d = rw shut_is at (k2 al e d)

        first_time : Relisted z (settle z.geo.p at_start_lem shut) at ws ws1 used1 lists1 lists2 u
        first_time = relisted1 at_start_lem refl k.in_use.marks

        after : Later z ws ws1 used used1 u (length k.in_use.places + fresh shut)
        after =
            later z ws ws1 used used1 first_time.out u at_start_lem shut k.proper k.words k.cursor_low (let f = k.free in omega (arith, close_one z.geo.b 0 left right left_old right_old)) (close_fit z.geo.b 0 left right left_old right_old) k.in_use.marks first_time.leaves

        anew2 : (al : Allocation) → al.cursor ≡ cursor → Marks used al.used → Anew z.geo.h i u.count (places_of (settle z.geo.p al shut).level) lists1 lists2
        anew2 al e d =
            let h = k.level_high in
            relisted_anew z al shut i ws ws1 used1 lists1 lists2 u (relisted1 al e d) k.proper k.level_low (omega arith) anew1.long (omega (arith, shut_few, a_room))

        others : (j : ℕ) → 1 ≤ j → j ≤ z.geo.h → j ≢ i → part_of z.geo.h lists2 j ≡ part_of z.geo.h lists j
        others j x y d = (anew2 at_start_lem refl k.in_use.marks).others j x y d ∙ anew1.others j x y d

        low_same : part_of z.geo.h lists2 (suc i) ≡ part_of z.geo.h lists (suc i)
        low_same = others (suc i) (omega arith) k.level_high (λ e. omega arith)

        long2 : length lists2 ≡ list_room
        long2 = (anew2 at_start_lem refl k.in_use.marks).long

        upper_then : Stored z ws1 used1 (part_of z.geo.h lists i) a × (level_of z ws1 (part_of z.geo.h lists i) a ≡ above)
        upper_then = after.stored (part_of z.geo.h lists i) a k.above

        lower_then : Stored z ws1 used1 (part_of z.geo.h lists2 (suc i)) n × (level_of z ws1 (part_of z.geo.h lists2 (suc i)) n ≡ under)
        lower_then = rw low_same (after.stored (part_of z.geo.h lists (suc i)) n k.under)

        abbrev meets : Cut
        meets = meets_at w low n false (eqb (suc i) z.geo.h) r

        -- X is read from the copy
        run_blocks : blocks_of z ws1 xs r.first w ≡ take w (drop r.first above)
        run_blocks =
            ap (map (block_at z ws1)) (copied_run xs zeros lists r.first (at + r.first) w (omega (arith, run_in, k.above.high)) (omega (arith, inside)) ex) ∙ part_is z ws1 lists at a r.first w run_in
            ∙ ap (λ (l : Level). take w (drop r.first l)) (sym (listed_is z ws1 lists i a a_room) ∙ upper_then.1)

        run_sound : (j : ℕ) → r.first ≤ j → j < r.first + w → Sound z ws1 used1 (get_or xs j 0)
        run_sound j x y =
            rw (copied_entry xs zeros lists r.first (at + r.first) w (omega (arith, run_in, k.above.high)) (omega (arith, inside)) ex j x y)
            (part_each (Sound z ws1 used1) z.geo.h i a lists a_room (stored_sound z ws1 used1 (part_of z.geo.h lists i) a upper_then.0) (at + r.first + (j - r.first)) (omega arith) (omega (arith, run_in)))

        -- steps 3 and 4 are what document 01 asks for
        lower_is : merge_of z ws1 xs lists2 meets ≡ merge z.geo.b (eqb (suc i) z.geo.h) cut.before cut.run cut.over cut.behind
        lower_is =
            met_merge w above under r ch oa ou w_low fits z ws1 xs lists2 low n false (eqb (suc i) z.geo.h) (omega (arith, pair_inside.1, long2)) lu run_blocks (sym (listed_is z ws1 lists2 (suc i) n n_room) ∙ lower_then.1)

        settled_lower : (al : Allocation) → lower_after z i al cut ≡ settle z.geo.p al (merge_of z ws1 xs lists2 meets)
        unfolding lower_after
        settled_lower al = ap (settle z.geo.p al) (sym lower_is)

        lower_few : length (merge_of z ws1 xs lists2 meets) ≤ part_room z.geo.h (suc i)
        lower_few = rw settle_length at (rw (settled_lower at_start_lem) at (k.fits at_start_lem))

        -- and can be made
        pub pair_mergeable : Relistable z ws1 used1 lists2 xs meets u.cursor
        pair_mergeable =
            let h = run_in in
            let x : r.first + w - r.first ≡ w = omega arith in
            let y = overlap_is w above under r ch oa ou w_low fits in
            let s = k.above.high in
            let f = k.free in
            let m = k.room in
            let d = after.count in
            let c = close_one z.geo.b 0 left right left_old right_old in
            relistable z ws1 used1 lists2 xs u.cursor k.proper after.long first_time.leaves.marks_long long2 xl after.cursor after.in_use (suc i) r.first (r.first + w) r.start r.end n false (eqb (suc i) z.geo.h) (omega arith) (omega arith) met_in.0 met_in.1 n_room
            (λ _. run_sound) (λ t. absurd (true≢false (sym t))) (part_each (Sound z ws1 used1) z.geo.h (suc i) n lists2 n_room (stored_sound z ws1 used1 (part_of z.geo.h lists2 (suc i)) n lower_then.0))
            (omega arith) (omega arith) lower_few

        -- after steps 3 and 4
        module _ (ws2 : List ℕ) (used2 : List Bool) (lists3 : List ℕ) (v : Merged)
            (k3 : (al : Allocation) → al.cursor ≡ u.cursor → Marks used1 al.used → Relisted z (settle z.geo.p al (merge_of z ws1 xs lists2 meets)) low ws1 ws2 used2 lists2 lists3 v) where
          pub pair_writes : u.writes + v.writes ≤ 8192
          pair_writes =
              let p = first_time.leaves in
              let b = (settle z.geo.p at_start_lem shut).allocation in
              let q = k3 b (sym p.cursor) p.marks in
              omega (arith, leaves_writes z at_start_lem shut ws ws1 used1 first_time.out u p, leaves_writes z b (merge_of z ws1 xs lists2 meets) ws1 ws2 used2 q.out v q.leaves)

          settled_upper : (al : Allocation) → upper_after z i al cut ≡ settle z.geo.p al shut
          unfolding upper_after
          settled_upper al = ap (settle z.geo.p al) upper_is

          pub pair_leaves : (al : Allocation) → al.cursor ≡ cursor → Marks used al.used
              → PairLeaves z i (upper_after z i al cut) (lower_after z i (upper_after z i al cut).allocation cut) (choose w above under) ws ws2 used2 lists lists3
              (record { above = u.count; under = v.count; cursor = v.cursor; writes = u.writes + v.writes; first = r.first; overlap = r.overlap })
          pair_leaves al e d =
              let p = (relisted1 al e d).leaves in
              let b = (settle z.geo.p al shut).allocation in
              let q = k3 b (sym p.cursor) p.marks in
              let us = (settle z.geo.p al shut).written in
              let vs = (settle z.geo.p b (merge_of z ws1 xs lists2 meets)).written in
              let h = k.level_high in
              let anew3 = relisted_anew z b (merge_of z ws1 xs lists2 meets) (suc i) ws1 ws2 used2 lists2 lists3 v q k.proper (omega arith) k.level_high long2 lower_few in
              rw (settled_upper al, settled_lower b)
              (record {
                words = q.leaves.words ∙ ap (with_blocks z vs) p.words ∙ sym (blocks_append z us vs ws);
                upper = ap (take u.count) (anew3.others i k.level_low (omega arith) (λ x. omega arith)) ∙ (anew2 al e d).here;
                above = p.count;
                below = lower_leaves z _ (suc i) ws1 ws2 used2 q.out lists2 lists3 v q.leaves anew3 w above under r ch _ _;
                kept = λ j x y a b. anew3.others j x y b ∙ others j x y a;
                writes = omega (arith, p.writes, q.leaves.writes, length-append us vs);
              })
