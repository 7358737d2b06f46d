-- Level 0 in the words of a store: its slots, whether there is room for one more, and the words with other records in it.
use Rattle.std.specs.Prelude.{ℕ, zero, suc, ◌+◌, ◌*◌, ◌/◌, ◌%◌, ◌^◌, ◌≤◌, ◌≡◌, Bool, true, List, [], ◌∷◌, ◌++◌, eqb, length, take, drop, set, replicate, Result, Ok, Err}
use Rattle.geometry.specs.Geometry.{top_capacity_of}
use Rattle.layout.specs.declared.Layout.{Layout}
use Rattle.layout.specs.Layouts.{Proper}
use Rattle.levels.specs.Record.{Rec, rising}
use Rattle.pieces.specs.Pieces.{word, part, piece, lay, lay_all}
use Rattle.words.specs.Stores.{top_count_at, top_recs, bit, top_pieces}
use Rattle.words.specs.Form.{top_unused_zero}
use Rattle.top.specs.declared.Slot.{Slot}

-- the words with these records in level 0's three parts, and the same count c
unfoldable pub with_slots : Layout → List ℕ → List Rec → List ℕ
with_slots z ws rs = lay_all (top_pieces z rs) ws

-- the words with these records for level 0: c and level 0's three parts are theirs, every other word is kept
unfoldable pub with_top : Layout → List ℕ → List Rec → List ℕ
with_top z ws rs = lay_all (piece z.count (length rs ∷ []) ∷ top_pieces z rs) ws

-- what a store that passes the form check gives about level 0
pub record TopReady (z : Layout) (ws : List ℕ) : Type 0 where
  pub proper : Proper z
  pub words : length ws ≡ z.length
  pub fits : top_count_at z ws ≤ top_capacity_of z.geo
  pub unused : top_unused_zero z ws ≡ true
  pub rises : rising 0 (top_recs z ws) ≡ true

-- there is room for the record: one is overwritten, or level 0 is not full
abbrev pub Room : Layout → List ℕ → Result ℕ ℕ → Type 0
Room z ws (Ok i) = Unit {0}
Room z ws (Err i) = suc (top_count_at z ws) ≤ top_capacity_of z.geo

-- the record of a slot
abbrev pub rec_of : Slot → Rec
rec_of r = record { key = r.key; tombstone = r.mark; pay = r.pay }

-- "Bit j of mark word p, bit 0 the lowest, belongs to record p×B + j": slot j
unfoldable pub slot_at : Layout → List ℕ → ℕ → Slot
slot_at z ws j =
    record {
      key = word ws (z.keys + j);
      mark = eqb (word ws (z.marks + j / z.geo.b) / 2 ^ (j % z.geo.b) % 2) 1;
      pay = word ws (z.pays + j);
    }

-- m with this for bit j
unfoldable pub set_bit : ℕ → ℕ → Bool → ℕ
set_bit m zero t = bit t + 2 * (m / 2)
set_bit m (suc j) t = m % 2 + 2 * set_bit (m / 2) j t

-- the words with r in slot j
unfoldable pub with_slot : Layout → List ℕ → ℕ → Slot → List ℕ
with_slot z ws j r =
    let p = z.marks + j / z.geo.b in
    set (set (set ws (z.keys + j) r.key) (z.pays + j) r.pay) p (set_bit (word ws p) (j % z.geo.b) r.mark)

-- slots with r in slot i, those from slot i to slot c - 1 one slot on: what was in slot c is gone
unfoldable pub pushed : ℕ → ℕ → Rec → List Rec → List Rec
pushed i c r rs = take (suc c) (take i rs ++ (r ∷ drop i rs)) ++ drop (suc c) rs

-- a list without the `gap` elements after its first `at`, and as many of d at its end
abbrev pub without : {A : Type 0} → ℕ → ℕ → A → List A → List A
without at gap d xs = take at xs ++ (drop (at + gap) xs ++ replicate gap d)

-- the words with the n from word `start` on without `gap` of them: the later ones move up, and zeros come last
unfoldable pub closed : List ℕ → ℕ → ℕ → ℕ → ℕ → List ℕ
closed ws start n at gap = lay (piece start (without at gap 0 (part ws start n))) ws
