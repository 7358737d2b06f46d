-- About: what it answers of words that pass is what their size words say, of words that format left what format was given, and of others what check says.
use Prim.Native.Nat.{ℕ, ◌≤◌}
use mathlib.Core.Path.{◌≡◌, refl, sym, ap, ◌∙◌}
use mathlib.Core.Bool.{Bool, true, false}
use mathlib.Core.List.{List, []}
use native.Mathlib.Omega.{arith}
use lib.Dec.{eqb}
use lib.ListN.{length, get_or, get_or-eq_default}
use borrow.Author.Tests.{eq-eqb, ne_eqb, eqb-true}
use Rattle.geometry.specs.declared.Geometry.{Geometry}
use Rattle.geometry.specs.Geometry.{key_limit_of}
use Rattle.levels.specs.Record.{Level}
use Rattle.levels.specs.Map.{map_of, live_count}
use Rattle.levels.specs.Store.{empty_store, rows}
use Rattle.levels.proofs.Empty.{empty_map, empty_at}
use Rattle.words.specs.Stores.{live_at, top_count_at, count_at, store_at, layout_at}
use Rattle.words.specs.Form.{reason_of}
use Rattle.words.specs.Calls.{AboutAnswer, map_at, check_of, format_of, about_in, about_refused, about_of}
use Rattle.words.specs.Passed.{Passed}
use Rattle.words.proofs.State.{live_held, top_count_held, count_held}
use Rattle.words.proofs.Reason.{passed_held, size_legal, reason_passed}
use Rattle.words.proofs.Formatted.{format_own, format_holds_empty, format_sizes, format_leaves, format_passes}
use Rattle.layout.specs.declared.Layout.{Layout}

-- the answer for a store of this geometry with so many keys in its map, records in level 0 and blocks in levels 1, 2 and 3
abbrev pub answer_with : Geometry → ℕ → ℕ → ℕ → ℕ → ℕ → AboutAnswer
answer_with g live top n1 n2 n3 = record {
  reason = 0;
  b = g.b;
  w = g.w;
  d = g.d;
  g = g.g;
  h = g.h;
  p = g.p;
  live = live;
  limit = key_limit_of g;
  top = top;
  blocks1 = n1;
  blocks2 = n2;
  blocks3 = n3;
}

-- a store that is not turned down
about_passed : (ws : List ℕ) → reason_of ws ≡ 0 → about_of ws ≡ about_in (layout_at ws).geo (store_at (layout_at ws) ws)
unfolding about_of
about_passed ws e = rw (eq-eqb (reason_of ws) 0 e, about_of)

-- About is turned down exactly as check,
pub about_turned_down : (ws : List ℕ) → (reason_of ws ≡ 0 → ⊥) → about_of ws ≡ about_refused (check_of ws)
unfolding about_of check_of
about_turned_down ws h = rw (ne_eqb (reason_of ws) 0 h, about_of)

-- and its reason is the answer of check for all words.
pub about_reason : (ws : List ℕ) → (about_of ws).reason ≡ check_of ws
unfolding about_of about_in check_of
about_reason ws = go (eqb (reason_of ws) 0) refl
  where
    go : (t : Bool) → eqb (reason_of ws) 0 ≡ t → (about_of ws).reason ≡ reason_of ws
    go true q = rw (q, about_of) (sym (eqb-true (reason_of ws) 0 q))
    go false q = rw (q, about_of)

-- of words that pass, the map, the records and the blocks counted are the size words
pub about_read : (z : Layout) (ws : List ℕ) → Passed z ws → about_in z.geo (store_at z ws) ≡ answer_with z.geo (live_at z ws) (top_count_at z ws) (count_at z ws 1) (count_at z ws 2) (count_at z ws 3)
unfolding about_in
about_read z ws p =
    let s = store_at z ws in
    let held = passed_held z ws p in
    let live = p.sound.live_exact ∙ sym (live_held z ws s p.proper p.fits p.long held) in
    let top = sym (top_count_held z ws s p.proper p.fits p.long held) in
    let n1 = sym (count_held z ws s p.proper p.fits p.long held 0 (omega arith)) in
    let n2 = sym (count_held z ws s p.proper p.fits p.long held 1 (omega arith)) in
    let n3 = sym (count_held z ws s p.proper p.fits p.long held 2 (omega arith)) in
    λ i. answer_with z.geo (live i) (top i) (n1 i) (n2 i) (n3 i)

module _ (ws : List ℕ) (e : reason_of ws ≡ 0) where
  passed : Passed (layout_at ws) ws
  passed = reason_passed ws e

  -- About answers the size words and N.
  pub about_words : let z = layout_at ws in about_of ws ≡ answer_with z.geo (live_at z ws) (top_count_at z ws) (count_at z ws 1) (count_at z ws 2) (count_at z ws 3)
  about_words = about_passed ws e ∙ about_read (layout_at ws) ws passed

  -- "live (number of keys in the map)"
  pub about_live : (about_of ws).live ≡ length (map_at ws)
  unfolding about_in live_count
  about_live = ap (λ (a : AboutAnswer). a.live) (about_passed ws e)

  -- "live is the number of keys of the map and at most N"
  pub about_full : (about_of ws).live ≤ (about_of ws).limit
  about_full = rw about_words (rw (live_held (layout_at ws) ws (store_at (layout_at ws) ws) passed.proper passed.fits passed.long (passed_held (layout_at ws) ws passed)) passed.sound.live_fits)

  -- "(zero above h)"
  pub about_above : ((layout_at ws).geo.h ≤ 1 → (about_of ws).blocks2 ≡ 0) × ((layout_at ws).geo.h ≤ 2 → (about_of ws).blocks3 ≡ 0)
  unfolding about_in
  about_above = (λ h. ap (λ (a : AboutAnswer). a.blocks2) (about_passed ws e) ∙ above 1 h, λ h. ap (λ (a : AboutAnswer). a.blocks3) (about_passed ws e) ∙ above 2 h)
    where
      above : (i : ℕ) → (layout_at ws).geo.h ≤ i → length (get_or (store_at (layout_at ws) ws).levels i []) ≡ 0
      above i h = ap (λ (l : Level). length l) (get_or-eq_default (store_at (layout_at ws) ws).levels [] {n = i} (omega (arith, passed.fits.level_count)))

-- After format: the geometry as it was given, no key, N, no record and no block.
pub about_format : (ws : List ℕ) (g : Geometry) → (format_of ws g).answer.reason ≡ 0 → about_of (format_of ws g).words ≡ answer_with g 0 0 0 0 0
unfolding about_in live_count empty_store
about_format ws g e =
    let y = format_sizes ws g e in
    let v = (size_legal (length ws) g y).0 in
    let none : length (map_of (rows (empty_store g))) ≡ 0 = rw (empty_map g) in
    let blocks : (i : ℕ) → length (get_or (empty_store g).levels i []) ≡ 0 = λ i. ap (λ (l : Level). length l) (empty_at g.h i) in
    about_passed (format_of ws g).words (format_passes ws g y)
    ∙ ap (λ (xs : List ℕ). about_in (layout_at xs).geo (store_at (layout_at xs) xs)) (format_leaves ws g y)
    ∙ (λ i. about_in (format_own g v i) (format_holds_empty g v i))
    ∙ (λ i. answer_with g (none i) 0 (blocks 0 i) (blocks 1 i) (blocks 2 i))
