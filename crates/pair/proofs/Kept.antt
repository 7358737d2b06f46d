-- Blocks that are written at free places change no word of a place in use.
use Prim.Native.Nat.{ℕ, ◌+◌, ◌≤◌, ◌<◌}
use mathlib.Core.Path.{◌≡◌, refl, sym, ap, ◌∙◌}
use mathlib.Core.Bool.{true, false, or-true, true≢false}
use mathlib.Core.List.{List, [], ◌∷◌}
use mathlib.Core.Option.{Option, none, some}
use native.Mathlib.Nat.{add-zero}
use native.Mathlib.Omega.{arith}
use lib.Dec.{eqb}
use lib.ListN.{length, get_or, take}
use Rattle.geometry.specs.Geometry.{block_width}
use Rattle.levels.specs.Basics.{member}
use Rattle.levels.specs.Record.{Rec, Block, Level, placed}
use Rattle.levels.specs.Place.{first_free, Allocation, Settled, settle}
use Rattle.levels.specs.Taking.{fresh}
use Rattle.levels.proofs.FirstFree.{first_free_lem}
use Rattle.levels.proofs.Settling.{taking}
use Rattle.words.specs.Stores.{word, record_count, mark_word_at, block_slots, block_at, block_piece, with_blocks}
use Rattle.words.proofs.Parts.{part_word}
use Rattle.words.proofs.Slots.{slots_agree}
use Rattle.pieces.proofs.Pieces.{lay_length}
use Rattle.words.proofs.Blocks.{blocks_none, blocks_more, block_other}
use Rattle.merging.proofs.Settle.{NewFit}
use Rattle.layout.specs.Layouts.{place_start, Proper}
use Rattle.layout.specs.declared.Layout.{Layout}
use Rattle.pieces.specs.Pieces.{part, lay}

-- what settling a level leaves of the places in use before
pub record Grown (z : Layout) (a : Allocation) (ws : List ℕ) (st : Settled) : Type 0 where
  pub words : (q : ℕ) → q < z.geo.p → member q a.used ≡ true → part (with_blocks z st.written ws) (place_start z q) (block_width z.geo) ≡ part ws (place_start z q) (block_width z.geo)
  pub used : (q : ℕ) → member q a.used ≡ true → member q st.allocation.used ≡ true
  pub cursor : st.allocation.cursor < z.geo.p

pub settle_grows : (z : Layout) (a : Allocation) (ws : List ℕ) (l : Level) → Proper z → length ws ≡ z.length → a.cursor < z.geo.p → length a.used + fresh l ≤ z.geo.p → NewFit z.geo.b l
    → Grown z a ws (settle z.geo.p a l)
unfolding settle
settle_grows z a ws [] v e h r f = record { words = λ q i m. ap (λ (xs : List ℕ). part xs (place_start z q) (block_width z.geo)) (blocks_none z ws); used = λ q m. m; cursor = h }
settle_grows z a ws (b ∷ bs) v e h r f = go b.place b.recs r f.0 (λ c us d i s. settle_grows z c us bs v d i s f.1)
  where
    go : (o : Option ℕ) (rs : List Rec) → length a.used + fresh (record { place = o; recs = rs } ∷ bs) ≤ z.geo.p → (placed (record { place = o; recs = rs }) ≡ false → length rs ≤ z.geo.b)
        → ((c : Allocation) (us : List ℕ) → length us ≡ z.length → c.cursor < z.geo.p → length c.used + fresh bs ≤ z.geo.p → Grown z c us (settle z.geo.p c bs))
        → Grown z a ws (settle z.geo.p a (record { place = o; recs = rs } ∷ bs))
    go (some q) rs r n ih =
        let i = ih a ws e h (omega arith) in
        record { words = i.words; used = i.used; cursor = i.cursor }
    go none rs r n ih =
        let at = first_free z.geo.p a in
        let c : Block = record { place = some at; recs = rs } in
        let k = first_free_lem z.geo.p a h (omega arith) in
        let i = ih (taking z.geo.p a) (lay (block_piece z c) ws) (lay_length (block_piece z c) ws ∙ e) k.inside (omega arith) in
        let w = (settle z.geo.p (taking z.geo.p a) bs).written in
        let more : (q : ℕ) → member q a.used ≡ true → member q (at ∷ a.used) ≡ true = λ q m. rw m (or-true (eqb q at)) in
        record {
          words = λ q l m.
              ap (λ (xs : List ℕ). part xs (place_start z q) (block_width z.geo)) (blocks_more z c w ws)
              ∙ i.words q l (more q m) ∙ block_other z v q c ws e l (n refl) (λ d. true≢false (sym m ∙ ap (λ (x : ℕ). member x a.used) d ∙ k.free));
          used = λ q m. i.used q (more q m);
          cursor = i.cursor;
        }

-- two stores whose words at place q are the same have the same block there
module _ (z : Layout) (ws us : List ℕ) (q : ℕ) (e : part us (place_start z q) (block_width z.geo) ≡ part ws (place_start z q) (block_width z.geo)) where
  pub word_same : (j : ℕ) → j < block_width z.geo → word us (place_start z q + j) ≡ word ws (place_start z q + j)
  word_same j l =
      sym (part_word us (place_start z q) (block_width z.geo) j l)
      ∙ ap (λ (xs : List ℕ). get_or xs j 0) e
      ∙ part_word ws (place_start z q) (block_width z.geo) j l

  pub count_same : record_count z us q ≡ record_count z ws q
  unfolding block_width
  count_same = rw add-zero at (word_same 0 (omega arith))

  pub mark_same : mark_word_at z us q ≡ mark_word_at z ws q
  unfolding block_width
  mark_same = word_same 1 (omega arith)

  pub block_same : block_at z us q ≡ block_at z ws q
  unfolding block_at block_slots block_width
  block_same =
      let s = place_start z q in
      rw (count_same, mark_same)
      (ap (λ (rs : List Rec). record { place = some q; recs = take (record_count z ws q) rs })
      (slots_agree us ws (mark_word_at z ws q) (s + 2) (s + 2 + z.geo.b) (s + 2) (s + 2 + z.geo.b) z.geo.b
      (λ i l. let d : s + 2 + i ≡ s + (2 + i) = omega arith in rw d (word_same (2 + i) (omega arith)))
      (λ i l. let d : s + 2 + z.geo.b + i ≡ s + (2 + z.geo.b + i) = omega arith in rw d (word_same (2 + z.geo.b + i) (omega arith)))))
