-- The steps of the code of the form check: one entry of a list, one list, the words behind the pages.
use Prim.Native.Nat.{ℕ, suc, ◌+◌, ◌-◌, ◌*◌, ◌≤◌, ◌<◌}
use mathlib.Core.Path.{◌≡◌, ◌∙◌}
use mathlib.Core.Bool.{Bool, true, false, ◌&&◌, and-true}
use mathlib.Core.List.{List}
use native.Mathlib.Omega.{arith}
use native.Mathlib.Nat.{mul-le-mul}
use borrow.Author.Tests.{lt-ltb, le-ltb}
use lib.Dec.{ltb, leb}
use lib.ListN.{get_or, length, set}
use Rattle.std.specs.List.{slice_range}
use Rattle.geometry.specs.Geometry.{capacity_of, key_limit_of, top_capacity_of}
use Rattle.geometry.proofs.Bounds.{capacity_zero_high}
use Rattle.words.specs.Stores.{word, count_at, cursor_at, live_at, top_count_at}
use Rattle.words.specs.Form.{live_fits, cursor_inside, top_fits, room_of, counts_fit}
use Rattle.chunks.specs.Chunks.{zeros_at}
use Rattle.chunks.proofs.Slots.{part_word}
use Rattle.directory.specs.declared.Directory.{Directory}
use Rattle.form.specs.Form.{Headed, header_ok, top_of, level_of, fresh_of, mark_of, lists_from, spare_ok}
use Rattle.form.proofs.Sizes.{top_paged, lists_in}
use Rattle.layout.specs.declared.Layout.{Layout}
use Rattle.layout.proofs.Laws.{keys_before, marks_before, pays_before, places_before}

-- the tests of the header, one by one
pub header_is : (z : Layout) (ws : List ℕ) → (leb (live_at z ws) (key_limit_of z.geo) && (ltb (cursor_at z ws) z.geo.p && (leb (top_count_at z ws) (top_capacity_of z.geo) && (leb (count_at z ws 1) (room_of z.geo 1) && (leb (count_at z ws 2) (room_of z.geo 2) && leb (count_at z ws 3) (room_of z.geo 3)))))) ≡ header_ok z ws
unfolding header_ok live_fits cursor_inside top_fits counts_fit
header_is z ws = go (leb (live_at z ws) (key_limit_of z.geo)) (ltb (cursor_at z ws) z.geo.p) (leb (top_count_at z ws) (top_capacity_of z.geo)) (leb (count_at z ws 1) (room_of z.geo 1)) (leb (count_at z ws 2) (room_of z.geo 2)) (leb (count_at z ws 3) (room_of z.geo 3))
  where
    go : (a b c d e f : Bool) → (a && (b && (c && (d && (e && f))))) ≡ (a && (b && (c && (d && (e && (f && true))))))
    go a b c d e f = rw (and-true f)

-- One entry of a list.
module _ (ws : List ℕ) (p start n i : ℕ) (used : List Bool) (h : i < n) (q : ℕ) (b : q ≡ get_or (slice_range ws start (start + n)) i 0) where
  e : q ≡ word ws (start + i)
  e = b ∙ part_word ws start n i h

  pub fresh_high : p ≤ q → fresh_of ws p (start + i) (n - i) used ≡ false
  unfolding fresh_of
  fresh_high l = let r : n - i ≡ suc (n - (i + 1)) = omega arith in rw (r, ← e, le-ltb _ _ l)

  pub fresh_used : q < p → get_or used q false ≡ true → fresh_of ws p (start + i) (n - i) used ≡ false
  unfolding fresh_of
  fresh_used l u = let r : n - i ≡ suc (n - (i + 1)) = omega arith in rw (r, ← e, lt-ltb _ _ l, u)

  pub fresh_next : q < p → get_or used q false ≡ false → fresh_of ws p (start + i) (n - i) used ≡ fresh_of ws p (start + (i + 1)) (n - (i + 1)) (set used q true)
  unfolding fresh_of
  fresh_next l u =
      let r : n - i ≡ suc (n - (i + 1)) = omega arith in
      let k : start + (i + 1) ≡ suc (start + i) = omega arith in
      rw (r, k, ← e, lt-ltb _ _ l, u)

  pub mark_next : mark_of ws (start + i) (n - i) used ≡ mark_of ws (start + (i + 1)) (n - (i + 1)) (set used q true)
  unfolding mark_of
  mark_next =
      let r : n - i ≡ suc (n - (i + 1)) = omega arith in
      let k : start + (i + 1) ≡ suc (start + i) = omega arith in
      rw (r, k, e)

pub fresh_start : (ws : List ℕ) (p start n : ℕ) (used : List Bool) → fresh_of ws p (start + 0) (n - 0) used ≡ fresh_of ws p start n used
fresh_start ws p start n used = let r : start + 0 ≡ start = omega arith in let k : n - 0 ≡ n = omega arith in rw (r, k)

pub mark_start : (ws : List ℕ) (start n : ℕ) (used : List Bool) → mark_of ws (start + 0) (n - 0) used ≡ mark_of ws start n used
mark_start ws start n used = let r : start + 0 ≡ start = omega arith in let k : n - 0 ≡ n = omega arith in rw (r, k)

pub fresh_end : (ws : List ℕ) (p start n i : ℕ) (used : List Bool) → n ≤ i → fresh_of ws p (start + i) (n - i) used ≡ true
unfolding fresh_of
fresh_end ws p start n i used h = let r : n - i ≡ 0 = omega arith in rw r

pub mark_end : (ws : List ℕ) (start n i : ℕ) (used : List Bool) → n ≤ i → mark_of ws (start + i) (n - i) used ≡ used
unfolding mark_of
mark_end ws start n i used h = let r : n - i ≡ 0 = omega arith in rw r

-- the words behind the pages, by the directory d of level 0 with room for k pages, in n words
pub record Spare (d : Directory) (k n : ℕ) : Type 0 where
  pub few : d.chunks ≤ k
  pub past_high : d.chunks * d.width ≤ 4096
  pub left_high : (k - d.chunks) * d.width ≤ 4096
  pub marks : d.list + d.chunks + (k - d.chunks) ≤ n
  pub keys : d.base + d.chunks * d.width + (k - d.chunks) * d.width ≤ n
  pub payloads : d.pays + d.chunks * d.width + (k - d.chunks) * d.width ≤ n

spare_top : (z : Layout) (ws : List ℕ) → Headed z ws → Spare (top_of z ws) (capacity_of z.geo 0) (length ws)
unfolding top_of top_capacity_of
spare_top z ws y =
    let k = y.sized.proper.valid.ranged in
    let p = top_paged z ws y in
    let w = y.sized.words in
    let o = y.sized.proper in
    let i = places_before z o in
    let h : capacity_of z.geo 0 * z.geo.b ≤ 4096 = mul-le-mul (capacity_zero_high z.geo k) k.b_high in
    record {
      few = p.few;
      past_high = omega (arith, p.rest);
      left_high = omega (arith, p.rest);
      marks = omega (arith, p.few, marks_before z o);
      keys = omega (arith, p.rest, keys_before z o);
      payloads = omega (arith, p.rest, pays_before z o);
    }

pub spare_in : (z : Layout) (ws : List ℕ) → Headed z ws → (d : Directory) → d ≡ top_of z ws → (k : ℕ) → k ≡ capacity_of z.geo 0 → Spare d k (length ws)
spare_in z ws y d e k q = rw (e, q) (spare_top z ws y)

-- the words behind the pages, by the directory
pub spare_is : (z : Layout) (ws : List ℕ) (d : Directory) → d ≡ top_of z ws → (k : ℕ) → k ≡ capacity_of z.geo 0
    → (zeros_at ws (d.list + d.chunks) (k - d.chunks) && (zeros_at ws (d.base + d.chunks * d.width) ((k - d.chunks) * d.width) && zeros_at ws (d.pays + d.chunks * d.width) ((k - d.chunks) * d.width))) ≡ spare_ok z ws
unfolding spare_ok top_of
spare_is z ws d e k q = rw (e, q)

-- One list.
module _ (z : Layout) (ws : List ℕ) (i : ℕ) (l : 1 ≤ i) (d : Directory) (e : d ≡ level_of z ws i) where
  -- it lies in the store, and has room for its count
  pub list_room_lem : Headed z ws → i ≤ z.geo.h → (k : ℕ) → k ≡ capacity_of z.geo i → (d.list + k ≤ length ws) × (d.chunks ≤ k)
  unfolding level_of
  list_room_lem y h k q = let o = lists_in z ws y i l h in rw (e, q) (o.inside, o.fits)

  module _ (n : ℕ) (used : List Bool) (h : i ≤ n) where
    pub lists_unfresh : fresh_of ws z.geo.p d.list d.chunks used ≡ false → lists_from z ws i (n + 1 - i) used ≡ false
    unfolding lists_from level_of
    lists_unfresh f = let r : n + 1 - i ≡ suc (n + 1 - (i + 1)) = omega arith in rw (r, rw e at f)

    module _ (k : ℕ) (q : k ≡ capacity_of z.geo i) (f : fresh_of ws z.geo.p d.list d.chunks used ≡ true) where
      pub lists_unzero : zeros_at ws (d.list + d.chunks) (k - d.chunks) ≡ false → lists_from z ws i (n + 1 - i) used ≡ false
      unfolding lists_from level_of
      lists_unzero u = let r : n + 1 - i ≡ suc (n + 1 - (i + 1)) = omega arith in rw (r, rw e at f, rw (e, q) at u)

      pub lists_next : zeros_at ws (d.list + d.chunks) (k - d.chunks) ≡ true → lists_from z ws i (n + 1 - i) used ≡ lists_from z ws (i + 1) (n + 1 - (i + 1)) (mark_of ws d.list d.chunks used)
      unfolding lists_from level_of
      lists_next u =
          let r : n + 1 - i ≡ suc (n + 1 - (i + 1)) = omega arith in
          let t : i + 1 ≡ suc i = omega arith in
          rw (r, rw e at f, rw (e, q) at u, e, t)

pub lists_start : (z : Layout) (ws : List ℕ) (n : ℕ) (used : List Bool) → lists_from z ws 1 (n + 1 - 1) used ≡ lists_from z ws 1 n used
lists_start z ws n used = let r : n + 1 - 1 ≡ n = omega arith in rw r

pub lists_end : (z : Layout) (ws : List ℕ) (i n : ℕ) (used : List Bool) → n < i → lists_from z ws i (n + 1 - i) used ≡ true
unfolding lists_from
lists_end z ws i n used h = let r : n + 1 - i ≡ 0 = omega arith in rw r
