-- A record goes in between others: the slots after n turns, and at the end.
use Prim.Native.Nat.{ℕ, suc, ◌+◌, ◌-◌, ◌/◌, ◌≤◌, ◌<◌}
use mathlib.Core.Path.{◌≡◌, refl, sym, ap, ◌∙◌}
use mathlib.Core.Bool.{Bool, true, false}
use mathlib.Core.List.{List, ◌∷◌, ◌++◌, append_assoc}
use native.Mathlib.Numerals.{add-one}
use native.Mathlib.Omega.{arith}
use lib.ListN.{length, take, drop, get_or, set, replicate, take-append-drop, length-set}
use lib.Seq.{take_at, take-append-le, drop-append-le, drop-append-add, set-append_left}
use Rattle.std.specs.Prelude.{Result, Ok, Err, is_ok}
use Rattle.slices.specs.Ranks.{among, ranked, rank_of}
use Rattle.geometry.specs.Geometry.{top_capacity_of}
use Rattle.layout.specs.declared.Layout.{Layout}
use Rattle.layout.specs.Layouts.{Proper}
use Rattle.levels.specs.Record.{Rec}
use Rattle.levels.specs.Put.{insert}
use Rattle.levels.proofs.Rising.{test_rising}
use Rattle.pieces.specs.Pieces.{word}
use Rattle.words.specs.Stores.{top_count_at, top_slots, top_recs, keys_of}
use Rattle.words.proofs.Slots.{pad_recs, blank_rec}
use Rattle.words.proofs.Ranks.{rank_in}
use Rattle.words.proofs.Top.{top_slots_length}
use Rattle.top.specs.declared.Slot.{Slot}
use Rattle.top.specs.Top.{TopReady, rec_of, slot_at, with_slot, with_slots, with_top, pushed}
use Rattle.top.proofs.Lists.{pushed_in, pushed_length, pushed_here, pushed_on, pushed_before, mixed_more, mixed_next, mixed_length}
use Rattle.top.proofs.Words.{slot_low, slot_read, slot_set, slots_long, same_count, top_is, padded_is, ready_count, ready_slots, ready_is}
use Rattle.top.proofs.Inserting.{Entered, entered}

-- the words once slots i to n - 1 are done
unfoldable pub pushing : Layout → List ℕ → ℕ → Rec → ℕ → List ℕ
pushing z ws i r n = with_slots z ws (take n (pushed_in i r (top_slots z ws)) ++ drop n (top_slots z ws))

pub push_long : (z : Layout) (ws : List ℕ) (i : ℕ) (r : Rec) (n : ℕ) → length (pushing z ws i r n) ≡ length ws
unfolding pushing
push_long z ws i r n = slots_long z ws (take n (pushed_in i r (top_slots z ws)) ++ drop n (top_slots z ws))

module _ (z : Layout) (ws : List ℕ) (t : TopReady z ws) (i : ℕ) (r : Rec) (h : i ≤ top_capacity_of z.geo) where
  abbrev S : List Rec
  S = top_slots z ws

  long : length S ≡ top_capacity_of z.geo
  long = top_slots_length z ws

  low : i ≤ length S
  low = omega (arith, long)

  front : length (pushed_in i r S) ≡ suc (top_capacity_of z.geo)
  front = pushed_length i r S low ∙ ap suc long

  pub push_start : ws ≡ pushing z ws i r i
  unfolding pushing
  push_start = rw (pushed_before i r S low, take-append-drop i S) (sym (ready_is z ws t))

  pub push_first : r ≡ get_or (pushed_in i r S) i blank_rec
  push_first = sym (pushed_here i r S blank_rec low)

  module _ (n : ℕ) (l : n < top_capacity_of z.geo) where
    abbrev slots : List Rec
    slots = take n (pushed_in i r S) ++ drop n S

    slots_full : length slots ≡ top_capacity_of z.geo
    slots_full = mixed_length (pushed_in i r S) S n (omega (arith, front)) (omega (arith, long)) ∙ long

    pub push_low : word (pushing z ws i r n) (z.marks + n / z.geo.b) < 65536
    unfolding pushing
    push_low = slot_low z t.proper ws t.words slots slots_full n l

    -- the record that is taken up is the next to be put down
    pub push_next : i ≤ n → rec_of (slot_at z (pushing z ws i r n) n) ≡ get_or (pushed_in i r S) (n + 1) blank_rec
    unfolding pushing
    push_next a =
        slot_read z t.proper ws t.words slots slots_full n l ∙ mixed_next (pushed_in i r S) S n blank_rec (omega (arith, front))
        ∙ rw (add-one n) (sym (pushed_on i r S n blank_rec a low))

    pub push_more : (slot : Slot) → rec_of slot ≡ get_or (pushed_in i r S) n blank_rec → with_slot z (pushing z ws i r n) n slot ≡ pushing z ws i r (n + 1)
    unfolding pushing
    push_more slot e =
        slot_set z t.proper ws t.words slots slots_full n l slot
        ∙ rw (e, mixed_more (pushed_in i r S) S n blank_rec (omega (arith, front)) (omega (arith, long)), add-one n)

-- what a rank says: whether the key is there, and the place
abbrev place_of : Result ℕ ℕ → ℕ
place_of (Ok i) = i
place_of (Err i) = i

ranked_says : (t : Bool) (n : ℕ) → (is_ok (ranked t n) ≡ t) × (place_of (ranked t n) ≡ n)
ranked_says true n = (refl, refl)
ranked_says false n = (refl, refl)

-- A slot where its key stands.
module _ (z : Layout) (ws : List ℕ) (t : TopReady z ws) (slot : Slot) (i : ℕ) where
  abbrev rs : List Rec
  rs = top_recs z ws

  abbrev r : Rec
  r = rec_of slot

  abbrev room : ℕ
  room = top_capacity_of z.geo

  abbrev blanks : List Rec
  blanks = replicate (room - length rs) blank_rec

  count_low : length rs ≤ room
  count_low = rw (ready_count z ws t) t.fits

  entered_at : (x : Result ℕ ℕ) → x ≡ rank_of r.key (keys_of rs) → Entered r rs (is_ok x) (place_of x)
  entered_at x s =
      let q = ranked_says (among r.key (keys_of rs)) (rank_in r.key rs) in
      rw (s, q.0, q.1) (entered 0 r rs (test_rising 0 rs t.rises))

  module _ (s : Ok i ≡ rank_of slot.key (keys_of rs)) where
    found : Entered r rs true i
    found = entered_at (Ok i) s

    found_inside : i < length rs
    found_inside = found.0

    found_room : i < room
    found_room = omega (arith, found_inside, count_low)

    -- the slot may be written
    pub found_ready : Proper z × ((length ws ≡ z.length) × ((i < room) × (word ws (z.marks + i / z.geo.b) < 65536)))
    found_ready = (t.proper, (t.words, (found_room, rw (ready_is z ws t) at (slot_low z t.proper ws t.words (top_slots z ws) (top_slots_length z ws) i found_room))))

    -- a record is overwritten
    found_slots : set (top_slots z ws) i r ≡ pad_recs room (set rs i r)
    found_slots = rw (ready_slots z ws t, length-set rs i r) (set-append_left rs blanks i r found_inside)

    pub found_entered : with_slot z ws i slot ≡ with_top z ws (insert r rs)
    found_entered =
        let l : length (set rs i r) ≡ top_count_at z ws = length-set rs i r ∙ ready_count z ws t in
        ap (λ (us : List ℕ). with_slot z us i slot) (sym (ready_is z ws t))
        ∙ slot_set z t.proper ws t.words (top_slots z ws) (top_slots_length z ws) i found_room slot
        ∙ ap (with_slots z ws) found_slots ∙ padded_is z t.proper ws (set rs i r) (rw l t.fits)
        ∙ sym (same_count z ws (set rs i r) l) ∙ ap (with_top z ws) (sym found.1)

  module _ (s : Err i ≡ rank_of slot.key (keys_of rs)) (h : suc (top_count_at z ws) ≤ room) where
    missed : Entered r rs false i
    missed = entered_at (Err i) s

    gap_inside : i ≤ length rs
    gap_inside = missed.0

    -- there is a slot for it
    pub gap_ready : (i ≤ top_count_at z ws) × (suc (top_count_at z ws) ≤ room)
    gap_ready = (omega (arith, gap_inside, ready_count z ws t), h)

    gap_long : length (pushed_in i r rs) ≡ top_count_at z ws + 1
    gap_long = pushed_length i r rs gap_inside ∙ rw (ready_count z ws t, add-one (top_count_at z ws))

    -- a record goes in
    gap_slots : pushed i (top_count_at z ws) r (top_slots z ws) ≡ pad_recs room (pushed_in i r rs)
    unfolding pushed
    gap_slots =
        let c = length rs in
        let l : suc c ≤ room = rw (ready_count z ws t) h in
        let n : length (pushed_in i r rs) ≡ suc c = pushed_length i r rs gap_inside in
        let x : room - c ≡ suc (room - suc c) = omega arith in
        let d : drop (suc c) (rs ++ blanks) ≡ replicate (room - suc c) blank_rec = ap (λ (x : ℕ). drop x (rs ++ blanks)) (sym (add-one c)) ∙ drop-append-add rs blanks 1 ∙ ap (λ (x : ℕ). drop 1 (replicate x blank_rec)) x in
        rw (← ready_count z ws t, ready_slots z ws t, take-append-le i rs blanks gap_inside, drop-append-le i rs blanks gap_inside, ← append_assoc (take i rs) (r ∷ drop i rs) blanks, take_at (pushed_in i r rs) blanks (suc c) n, d, n)

    pub gap_entered : set (with_slots z ws (pushed i (top_count_at z ws) r (top_slots z ws))) z.count (top_count_at z ws + 1) ≡ with_top z ws (insert r rs)
    gap_entered =
        let l : length (pushed_in i r rs) ≤ room = rw gap_long (omega (arith, h)) in
        rw (gap_slots, padded_is z t.proper ws (pushed_in i r rs) l, ← gap_long, missed.1) (top_is z t.proper ws (pushed_in i r rs) l)
