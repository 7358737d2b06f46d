-- Laying the blocks of a level is giving them places in key order and writing the new ones.
use Prim.Native.Nat.{ℕ, zero, suc, ◌+◌, ◌≤◌, ◌<◌}
use mathlib.Core.Path.{◌≡◌, sym, ap, ◌∙◌, refl}
use mathlib.Core.Bool.{Bool, true, false, ◌||◌}
use mathlib.Core.List.{List, [], ◌∷◌, ◌++◌, append_assoc, append-nil}
use mathlib.Core.Option.{Option, none, some}
use native.Mathlib.Decide.{ℕ_discrete}
use native.Mathlib.Omega.{arith}
use lib.Dec.{eqb}
use lib.ListN.{length, get_or, set, length-set}
use lib.Seq.{get_or-set_same, get_or-set_other}
use borrow.Author.Tests.{eq-eqb, ne_eqb}
use Rattle.levels.specs.Basics.{member}
use Rattle.levels.specs.Record.{Rec, Block, Level, size, placed}
use Rattle.levels.specs.Place.{after, free_after, first_free, Allocation, Settled, settle, places_of}
use Rattle.blocks.specs.Blocks.{Sized, offsets_of, free_mark, next_mark, Marks, buffer_of, written}
use Rattle.blocks.proofs.Laws.{free_low}
use Rattle.blocks.proofs.Written.{written_block}
use Rattle.merging.proofs.Blocks.{Flash, lay_at, lay, lay_all}
use Rattle.merging.proofs.Words.{written_length, sized_on}
use Rattle.layout.specs.declared.Layout.{Layout}
use Rattle.words.specs.Stores.{with_blocks}
use Rattle.words.proofs.Blocks.{blocks_none, blocks_more}

-- a new block has at most B records
abbrev pub NewFit : ℕ → Level → Type 0
NewFit B [] = Unit {0}
NewFit B (b ∷ bs) = (placed b ≡ false → size b ≤ B) × NewFit B bs

-- marks and list of places in use lead to the same free place
pub free_same : (n P : ℕ) (used : List Bool) (places : List ℕ) (q : ℕ) → Marks used places → free_mark n P used q ≡ free_after n P places q
unfolding free_mark free_after
free_same zero P used places q m = refl
free_same (suc n) P used places q m = go (member (after P q) places) refl (free_same n P used places (after P q) m)
  where
    go : (t : Bool) → member (after P q) places ≡ t → free_mark n P used (after P q) ≡ free_after n P places (after P q) → free_mark (suc n) P used q ≡ free_after (suc n) P places q
    go true e ih = rw (m (after P q), e, free_mark, free_after) ih
    go false e ih = rw (m (after P q), e, free_mark, free_after)

-- one place more
pub marks_set : (used : List Bool) (places : List ℕ) (p : ℕ) → p < length used → Marks used places → Marks (set used p true) (p ∷ places)
marks_set used places p l m q = go (ℕ_discrete q p)
  where
    go : Dec (q ≡ p) → get_or (set used p true) q false ≡ (eqb q p || member q places)
    go (yes e) = rw (eq-eqb q p e, e, get_or-set_same used p true false l)
    go (no n) = rw (ne_eqb q p n, get_or-set_other used p q true false n, m q)

-- a level laid on flash, and the same level with places given
pub record Laid (z : Layout) (d e : Flash) (st : Settled) : Type 0 where
  pub words : e.words ≡ with_blocks z st.written d.words
  pub list : e.list ≡ d.list ++ places_of st.level
  pub cursor : e.cursor ≡ st.allocation.cursor
  pub marks : Marks e.used st.allocation.used
  pub marks_length : length e.used ≡ length d.used
  pub writes : e.writes ≡ d.writes + length st.written

module _ (z : Layout) where
  first_is : (a : Allocation) → first_free z.geo.p a ≡ free_after z.geo.p z.geo.p a.used a.cursor
  unfolding first_free
  first_is a = refl

  -- the allocation after a block of these records has taken its place, and the block there
  abbrev next : Allocation → Allocation
  next a = record { used = first_free z.geo.p a ∷ a.used; cursor = first_free z.geo.p a }

  abbrev put : Allocation → List Rec → Block
  put a rs = record { place = some (first_free z.geo.p a); recs = rs }

  -- where flash and an allocation agree on the places in use and on the cursor
  pub record Agrees (a : Allocation) (d : Flash) : Type 0 where
    pub sized : Sized (offsets_of z) d.words
    pub long : length d.used ≡ 8192
    pub low : d.cursor < z.geo.p
    pub cursor : d.cursor ≡ a.cursor
    pub marks : Marks d.used a.used

  pub same_place_lem : (a : Allocation) (d : Flash) → Agrees a d → next_mark z.geo.p d.used d.cursor ≡ first_free z.geo.p a
  same_place_lem a d k = ap (free_mark z.geo.p z.geo.p d.used) k.cursor ∙ free_same z.geo.p z.geo.p d.used a.used a.cursor k.marks ∙ sym (first_is a)

  place_low : (a : Allocation) (d : Flash) → Agrees a d → first_free z.geo.p a < z.geo.p
  place_low a d k = rw (← same_place_lem a d k) (free_low z.geo.p z.geo.p d.used d.cursor k.low)

  -- they agree after one more block
  agrees_next : (a : Allocation) (d : Flash) (rs : List Rec) → Agrees a d → Agrees (next a) (lay_at (offsets_of z) d rs (first_free z.geo.p a))
  agrees_next a d rs k =
      let q = first_free z.geo.p a in
      let low = place_low a d k in
      record {
        sized = sized_on (offsets_of z) d.words (written (offsets_of z) d.words q (buffer_of rs)) k.sized (written_length (offsets_of z) d.words q (buffer_of rs));
        long = length-set d.used q true ∙ k.long;
        low = low;
        cursor = refl;
        marks = marks_set d.used a.used q (let s = k.sized.places in let n = k.long in omega arith) k.marks;
      }

  pub settle_laid : (a : Allocation) (d : Flash) (l : Level) → Agrees a d → NewFit z.geo.b l → Laid z d (lay_all (offsets_of z) d l) (settle z.geo.p a l)
  unfolding lay_all lay settle
  settle_laid a d [] k f =
      record {
        words = sym (blocks_none z d.words);
        list = sym (append-nil d.list);
        cursor = k.cursor;
        marks = k.marks;
        marks_length = refl;
        writes = omega arith;
      }
  settle_laid a d (b ∷ bs) k f = go b.place b.recs f.0 (λ c e m. settle_laid c e bs m f.1)
    where
      go : (o : Option ℕ) (rs : List Rec) → (placed (record { place = o; recs = rs }) ≡ false → length rs ≤ z.geo.b) → ((c : Allocation) (e : Flash) → Agrees c e → Laid z e (lay_all (offsets_of z) e bs) (settle z.geo.p c bs))
          → Laid z d (lay_all (offsets_of z) (lay (offsets_of z) d (record { place = o; recs = rs })) bs) (settle z.geo.p a (record { place = o; recs = rs } ∷ bs))
      go (some q) rs h ih =
          let i = ih a (record { words = d.words; used = d.used; cursor = d.cursor; writes = d.writes; list = d.list ++ (q ∷ []) }) (record { sized = k.sized; long = k.long; low = k.low; cursor = k.cursor; marks = k.marks }) in
          record { words = i.words; list = i.list ∙ append_assoc d.list (q ∷ []) (places_of (settle z.geo.p a bs).level); cursor = i.cursor; marks = i.marks; marks_length = i.marks_length; writes = i.writes }
      go none rs h ih =
          let q = first_free z.geo.p a in
          let ws : List ℕ = d.words in
          let new = written_block z ws q rs k.sized.b_high (h refl) in
          let i = ih (next a) (lay_at (offsets_of z) d rs q) (agrees_next a d rs k) in
          let r = settle z.geo.p (next a) bs in
          rw (same_place_lem a d k)
          (record {
            words = i.words ∙ ap (with_blocks z r.written) new ∙ sym (blocks_more z (put a rs) r.written ws);
            list = i.list ∙ append_assoc d.list (q ∷ []) (places_of r.level);
            cursor = i.cursor;
            marks = i.marks;
            marks_length = i.marks_length ∙ length-set d.used q true;
            writes = omega (arith, i.writes);
          })

-- every block of a settled level has a place
pub settle_placed : (P : ℕ) (a : Allocation) (l : Level) → length (places_of (settle P a l).level) ≡ length (settle P a l).level
unfolding settle
settle_placed P a [] = refl
settle_placed P a (b ∷ bs) = go b.place b.recs (λ c. settle_placed P c bs)
  where
    go : (o : Option ℕ) (rs : List Rec) → ((c : Allocation) → length (places_of (settle P c bs).level) ≡ length (settle P c bs).level)
        → length (places_of (settle P a (record { place = o; recs = rs } ∷ bs)).level) ≡ length (settle P a (record { place = o; recs = rs } ∷ bs)).level
    go (some q) rs ih = ap suc (ih a)
    go none rs ih = ap suc (ih (record { used = first_free P a ∷ a.used; cursor = first_free P a }))
