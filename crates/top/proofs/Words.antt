-- Level 0's three parts in the words of a store: its slots read and written, and what the form check says of them.
use Prim.Native.Nat.{ℕ, ◌+◌, ◌-◌, ◌*◌, ◌/◌, ◌%◌, ◌^◌, ◌≤◌, ◌<◌}
use mathlib.Core.Path.{◌≡◌, sym, ap, ◌∙◌, subst}
use mathlib.Core.List.{List, [], ◌∷◌, append-nil}
use mathlib.Core.Logic.{inl}
use native.Mathlib.Nat.{div-add-mod', mod-lt, div-lt_iff_lt-mul}
use native.Mathlib.Omega.{arith}
use lib.Dec.{eqb}
use lib.ListN.{length, take, drop, get_or, set, length-set, length-map}
use lib.Pow.{pow_mono}
use lib.Seq.{set-get_or, take-take}
use Rattle.slices.specs.Ranks.{Rising}
use Rattle.geometry.specs.Geometry.{capacity_of, top_capacity_of}
use Rattle.layout.specs.declared.Layout.{Layout}
use Rattle.layout.specs.Layouts.{Proper, words_most}
use Rattle.layout.proofs.Laws.{lists_before, places_before, marks_before, keys_before, pays_before, count_before}
use Rattle.levels.specs.Record.{Rec}
use Rattle.levels.specs.Every.{Every}
use Rattle.levels.proofs.Lists.{get_d_map_in, map_set, map_take}
use Rattle.levels.proofs.Rising.{test_rising}
use Rattle.pieces.specs.Pieces.{word, part, Piece, piece, lay, lay_all, Held, Within}
use Rattle.pieces.proofs.Pieces.{held_word, lay_all_length, lay_all_here, lay_all_held, stacked_clear, stacked_apart, within_most}
use Rattle.words.specs.Stores.{top_count_at, top_slots, top_recs, keys_of, pays_of, top_pieces}
use Rattle.words.proofs.Slots.{pad_recs, pad_recs_length, keys_pad, pays_pad, blank_rec, unpad}
use Rattle.words.proofs.Top.{TopInside, TopHeld, marks_of, marks_length, marks_pad, top_inside, top_slots_length, top_length, top_pieces_of, top_written}
use Rattle.words.proofs.Stacking.{top_stacked}
use Rattle.words.proofs.Form.{top_unused, mark_words_low}
use Rattle.words.proofs.Ranks.{keys_rise_lem}
use Rattle.top.specs.declared.Slot.{Slot}
use Rattle.top.specs.Top.{TopReady, with_slots, with_top, slot_at, set_bit, with_slot, rec_of}
use Rattle.top.proofs.Marks.{marks_bit, marks_set, marks_low}
use Rattle.top.proofs.Moves.{set_beside, set_piece}

-- the pieces of K(0)×B records, one in each slot
abbrev pub slot_pieces : Layout → List Rec → List Piece
slot_pieces z S =
    piece z.marks (marks_of z.geo.b (capacity_of z.geo 0) S)
    ∷ piece z.keys (keys_of S)
    ∷ piece z.pays (pays_of S)
    ∷ []

-- padding that there is no room for
pad_full : (T : ℕ) (S : List Rec) → length S ≡ T → pad_recs T S ≡ S
pad_full T S e =
    let z : T - length S ≡ 0 = omega arith in
    rw (z, append-nil)

pub slots_long : (z : Layout) (ws : List ℕ) (rs : List Rec) → length (with_slots z ws rs) ≡ length ws
unfolding with_slots
slots_long z ws rs = lay_all_length (top_pieces z rs) ws

-- as many records as c says
pub same_count : (z : Layout) (ws : List ℕ) (rs : List Rec) → length rs ≡ top_count_at z ws → with_top z ws rs ≡ with_slots z ws rs
unfolding with_top with_slots lay_all lay
same_count z ws rs e = ap (λ (n : ℕ). lay_all (top_pieces z rs) (set ws z.count n)) e ∙ ap (lay_all (top_pieces z rs)) (set-get_or ws z.count 0)

module _ (z : Layout) (k : Proper z) where
  -- fewer are padded with blank slots
  padded_pieces : (rs : List Rec) → length rs ≤ top_capacity_of z.geo → top_pieces z rs ≡ slot_pieces z (pad_recs (top_capacity_of z.geo) rs)
  unfolding top_capacity_of
  padded_pieces rs l =
      let T = top_capacity_of z.geo in
      rw (marks_pad z.geo.b (capacity_of z.geo 0) rs (omega (arith, k.valid.ranged.b_low)) l, ← keys_pad T rs, ← pays_pad T rs)

  pub full_pieces : (S : List Rec) → length S ≡ top_capacity_of z.geo → top_pieces z S ≡ slot_pieces z S
  full_pieces S e = padded_pieces S (omega arith) ∙ ap (slot_pieces z) (pad_full (top_capacity_of z.geo) S e)

  pub padded_is : (ws : List ℕ) (rs : List Rec) → length rs ≤ top_capacity_of z.geo → with_slots z ws (pad_recs (top_capacity_of z.geo) rs) ≡ with_slots z ws rs
  unfolding with_slots
  padded_is ws rs l =
      let T = top_capacity_of z.geo in
      ap (λ (ps : List Piece). lay_all ps ws) (full_pieces (pad_recs T rs) (pad_recs_length T rs l) ∙ sym (padded_pieces rs l))

  -- the pieces lie in the words, and stand there once they are laid
  pub top_within : (ws : List ℕ) (rs : List Rec) → length ws ≡ z.length → length rs ≤ top_capacity_of z.geo → Within (length ws) (top_pieces z rs)
  top_within ws rs n l = within_most (top_pieces z rs) z.lists (length ws) (omega (arith, lists_before z k, places_before z k)) (top_stacked z rs k l).1

  pub top_here : (ws : List ℕ) (rs : List Rec) → length ws ≡ z.length → length rs ≤ top_capacity_of z.geo → Every (Held (with_slots z ws rs)) (top_pieces z rs)
  unfolding with_slots
  top_here ws rs n l = lay_all_here (top_pieces z rs) ws (top_within ws rs n l) (stacked_apart (top_pieces z rs) z.marks (top_stacked z rs k l).0)

  -- c and the slots make the records
  pub top_is : (ws : List ℕ) (rs : List Rec) → length rs ≤ top_capacity_of z.geo → set (with_slots z ws rs) z.count (length rs) ≡ with_top z ws rs
  unfolding with_top with_slots lay_all lay
  top_is ws rs l =
      set_beside (top_pieces z rs) ws z.count (length rs) (stacked_clear (top_pieces z rs) z.marks z.count 1 (omega (arith, k.count_marks)) (top_stacked z rs k l).0)

  -- one page and the bits in it
  page_of_lem : (j : ℕ) → j < top_capacity_of z.geo → (j / z.geo.b < capacity_of z.geo 0) × ((j % z.geo.b < z.geo.b) × (j / z.geo.b * z.geo.b + j % z.geo.b ≡ j))
  unfolding top_capacity_of
  page_of_lem j h =
      let b = k.valid.ranged.b_low in
      ((div-lt_iff_lt-mul {k = z.geo.b} (omega arith)).1 h, (mod-lt j (omega arith), div-add-mod' j z.geo.b))

  -- Words with other slots in level 0.
  module _ (ws : List ℕ) (n : length ws ≡ z.length) (S : List Rec) (e : length S ≡ top_capacity_of z.geo) where
    pub slots_held : Every (Held (with_slots z ws S)) (slot_pieces z S)
    slots_held = subst (Every (Held (with_slots z ws S))) (full_pieces S e) (top_here ws S n (omega arith))

    module _ (j : ℕ) (h : j < top_capacity_of z.geo) where
      abbrev M : List ℕ
      M = marks_of z.geo.b (capacity_of z.geo 0) S

      abbrev q : ℕ
      q = j / z.geo.b

      in_keys : j < length (keys_of S)
      in_keys = rw (length-map S, e) h

      in_pays : j < length (pays_of S)
      in_pays = rw (length-map S, e) h

      in_marks : q < length M
      in_marks = rw marks_length (page_of_lem j h).0

      mark_word_lem : word (with_slots z ws S) (z.marks + q) ≡ get_or M q 0
      mark_word_lem = held_word (with_slots z ws S) (piece z.marks M) slots_held.0 q in_marks

      pub slot_low : word (with_slots z ws S) (z.marks + q) < 65536
      slot_low =
          rw mark_word_lem
          (omega (arith, marks_low z.geo.b (capacity_of z.geo 0) q S (page_of_lem j h).0, pow_mono {i = z.geo.b} {j = 16} k.valid.ranged.b_high))

      -- slot j read
      pub slot_read : rec_of (slot_at z (with_slots z ws S) j) ≡ get_or S j blank_rec
      unfolding slot_at
      slot_read =
          let p = page_of_lem j h in
          let us = with_slots z ws S in
          let key : word us (z.keys + j) ≡ (get_or S j blank_rec).key = held_word us (piece z.keys (keys_of S)) slots_held.1.0 j in_keys ∙ get_d_map_in (λ (r : Rec). r.key) S j blank_rec 0 (rw e h) in
          let pay : word us (z.pays + j) ≡ (get_or S j blank_rec).pay = held_word us (piece z.pays (pays_of S)) slots_held.1.1.0 j in_pays ∙ get_d_map_in (λ (r : Rec). r.pay) S j blank_rec 0 (rw e h) in
          let t : eqb (get_or M q 0 / 2 ^ (j % z.geo.b) % 2) 1 ≡ (get_or S (q * z.geo.b + j % z.geo.b) blank_rec).tombstone = marks_bit z.geo.b (capacity_of z.geo 0) q (j % z.geo.b) S p.0 p.1.0 (rw (p.1.1, e) h) in
          let b : eqb (word us (z.marks + q) / 2 ^ (j % z.geo.b) % 2) 1 ≡ (get_or S j blank_rec).tombstone = rw mark_word_lem (t ∙ rw p.1.1) in
          λ x. record { key = key x; tombstone = b x; pay = pay x }

      room : capacity_of z.geo 0 * z.geo.b ≤ length S
      unfolding top_capacity_of
      room = omega (arith, e)

      -- slot j written
      pub slot_set : (r : Slot) → with_slot z (with_slots z ws S) j r ≡ with_slots z ws (set S j (rec_of r))
      unfolding with_slot with_slots
      slot_set r =
          let p = page_of_lem j h in
          let b = j % z.geo.b in
          let m = set_bit (get_or M q 0) b r.mark in
          let ks = set (keys_of S) j r.key in
          let vs = set (pays_of S) j r.pay in
          let n : set_bit (word (with_slots z ws S) (z.marks + q)) b r.mark ≡ m = rw mark_word_lem in
          let w : marks_of z.geo.b (capacity_of z.geo 0) (set S j (rec_of r)) ≡ set M q m = rw p.1.1 at (marks_set z.geo.b (capacity_of z.geo 0) q b S (rec_of r) p.0 p.1.0 room) in
          rw (n, full_pieces S e, full_pieces (set S j (rec_of r)) (length-set S j (rec_of r) ∙ e), w, map_set (λ (x : Rec). x.key) S j (rec_of r), map_set (λ (x : Rec). x.pay) S j (rec_of r))
          (ap (λ (us : List ℕ). set (set us (z.pays + j) r.pay) (z.marks + q) m) (set_piece (piece z.marks M ∷ []) (piece z.keys (keys_of S)) (piece z.pays (pays_of S) ∷ []) ws j r.key in_keys (inl (omega (arith, k.keys_pays)), tt))
          ∙ ap (λ (us : List ℕ). set us (z.marks + q) m) (set_piece (piece z.marks M ∷ piece z.keys ks ∷ []) (piece z.pays (pays_of S)) [] ws j r.pay in_pays tt)
          ∙ set_piece [] (piece z.marks M) (piece z.keys ks ∷ piece z.pays vs ∷ []) ws q m in_marks (inl (omega (arith, p.0, k.marks_keys)), (inl (omega (arith, p.0, k.marks_keys, k.keys_pays)), tt)))

-- where slot j's words are, of n words
pub record Offsets (z : Layout) (n j : ℕ) : Type 0 where
  pub mark : z.marks + j / z.geo.b < n
  pub key : z.keys + j < n
  pub pay : z.pays + j < n
  pub shift : j % z.geo.b < 16
  pub short : n ≤ words_most

pub offsets : (z : Layout) (n j : ℕ) → Proper z → n ≡ z.length → j < top_capacity_of z.geo → Offsets z n j
offsets z n j k e h =
    let p = page_of_lem z k j h in
    let l = places_before z k in
    record {
      mark = omega (arith, p.0, marks_before z k);
      key = omega (arith, keys_before z k);
      pay = omega (arith, pays_before z k);
      shift = omega (arith, p.1.0, k.valid.ranged.b_high);
      short = rw e k.short;
    }

-- What the form check says of level 0.
module _ (z : Layout) (ws : List ℕ) (t : TopReady z ws) where
  abbrev S : List Rec
  S = top_slots z ws

  abbrev T : ℕ
  T = top_capacity_of z.geo

  pub ready_inside : TopInside z (length ws)
  ready_inside = top_inside z ws t.proper t.words

  pub ready_count : length (top_recs z ws) ≡ top_count_at z ws
  ready_count = top_length z ws t.fits

  -- the slots are the records and blank ones
  pub ready_slots : S ≡ pad_recs T (top_recs z ws)
  unfolding top_recs
  ready_slots = sym (unpad T (top_count_at z ws) S (top_slots_length z ws) t.fits (top_unused z ws t.unused).0)

  ready_held : TopHeld z ws (top_recs z ws)
  unfolding top_recs
  ready_held =
      top_written z ws (top_count_at z ws) (omega (arith, t.proper.valid.ranged.b_low)) t.fits ready_inside (top_unused z ws t.unused).0 (mark_words_low z ws t.proper t.words t.unused)

  -- they stand in the words
  pub ready_is : with_slots z ws S ≡ ws
  unfolding with_slots
  ready_is =
      let l : length (top_recs z ws) ≤ T = rw ready_count t.fits in
      ap (with_slots z ws) ready_slots ∙ padded_is z t.proper ws (top_recs z ws) l
      ∙ lay_all_held (top_pieces z (top_recs z ws)) ws (top_pieces_of z ws (top_recs z ws) (omega (arith, t.proper.valid.ranged.b_low)) l ready_held)

  pub ready_parts : Every (Held ws) (slot_pieces z S)
  ready_parts = subst (λ (us : List ℕ). Every (Held us) (slot_pieces z S)) ready_is (slots_held z t.proper ws t.words S (top_slots_length z ws))

  -- their keys stand in a row
  pub ready_keys : keys_of (top_recs z ws) ≡ take (top_count_at z ws) (drop z.keys ws)
  unfolding top_recs part
  ready_keys =
      let c = top_count_at z ws in
      map_take (λ (r : Rec). r.key) c S ∙ ap (take c) (sym ready_parts.1.0)
      ∙ take-take c (length (keys_of S)) (drop z.keys ws) (rw (length-map S, top_slots_length z ws) t.fits)

  pub ready_rise : Rising 0 (take (top_count_at z ws) (drop z.keys ws))
  ready_rise = subst (Rising 0) ready_keys (keys_rise_lem 0 (top_recs z ws) (test_rising 0 (top_recs z ws) t.rises))

  -- the words that a search reads are there
  pub ready_bounds : (z.keys + top_count_at z ws ≤ length ws) × ((length ws ≤ words_most) × (z.count < length ws))
  ready_bounds =
      let k = t.proper in
      (omega (arith, ready_inside.keys, t.fits), (rw t.words k.short, omega (arith, t.words, count_before z k, places_before z k)))
