-- Bounds of places, one step of each loop, and the search for a free place.
use Prim.Native.Nat.{ℕ, zero, suc, ◌+◌, ◌-◌, ◌*◌, ◌≤◌, ◌<◌}
use mathlib.Core.Path.{◌≡◌, sym, ap, ◌∙◌, refl}
use mathlib.Core.Bool.{Bool, true, false, true≢false}
use mathlib.Core.List.{List}
use mathlib.Core.Logic.{dite}
use native.Mathlib.Decide.{dec_lt}
use native.Mathlib.Nat.{mul-le-mul}
use native.Mathlib.Numerals.{add-one}
use native.Mathlib.Omega.{arith}
use borrow.Author.Tests.{lt-ltb, le-ltb, le-leb, lt-leb}
use lib.Arith.{digits_lt}
use lib.ListN.{length, get_or, set}
use Rattle.geometry.specs.Geometry.{top_capacity_of, block_width}
use Rattle.layout.specs.declared.Layout.{Layout}
use Rattle.layout.specs.Layouts.{place_start, Fitted}
use Rattle.layout.proofs.Laws.{marks_before, keys_before, pays_before, places_before}
use Rattle.levels.specs.Place.{after}
use Rattle.levels.proofs.FirstFree.{after_inside}
use Rattle.blocks.specs.declared.Offsets.{Offsets}
use Rattle.blocks.specs.Blocks.{Sized, offsets_of, start_of, after_by, Free, SomeFree, free_mark, next_mark, marked}

-- a place starts where the layout says
pub start_place : (z : Layout) (q : ℕ) → start_of (offsets_of z) q ≡ place_start z q
unfolding start_of place_start block_width
start_place z q = refl

pub start_high : (b place : ℕ) → b ≤ 16 → place ≤ 8192 → place * (2 + 2 * b) ≤ 278528
start_high b place h l = mul-le-mul l (let z : 2 + 2 * b ≤ 34 = omega arith in z)

-- a word of a place lies in the store
pub in_store : (z : Offsets) (xs : List ℕ) → Sized z xs → (place j : ℕ) → place < z.p → j < 2 + 2 * z.b → start_of z place + j < length xs
unfolding start_of
in_store z xs k place j h l = let d = digits_lt h l in let e = k.words in omega arith

pub ends : (z : Offsets) (xs : List ℕ) → Sized z xs → (place : ℕ) → place < z.p → start_of z place + (2 + 2 * z.b) ≤ length xs
ends z xs k place h = let l = in_store z xs k place (1 + 2 * z.b) h (omega arith) in omega arith

pub marked_more : (used : List Bool) (list : List ℕ) (i : ℕ) → set (marked used list i) (get_or list i 0) true ≡ marked used list (i + 1)
unfolding marked
marked_more used list i = rw add-one

pub after_by_low : (p cursor k : ℕ) → cursor < p → k ≤ p → after_by p cursor k < p
unfolding after_by
after_by_low p cursor k h l =
    dite (dec_lt (cursor + k) p) (λ y. rw (lt-ltb _ _ y) y) (λ n. rw (le-ltb (cursor + k) p (omega arith)) (omega arith))

pub after_by_zero : (p cursor : ℕ) → cursor < p → after_by p cursor 0 ≡ cursor
unfolding after_by
after_by_zero p cursor h = let e : cursor + 0 ≡ cursor = omega arith in rw (e, lt-ltb cursor p h)

-- one step more
pub after_by_suc : (p cursor k : ℕ) → cursor < p → k < p → after p (after_by p cursor k) ≡ after_by p cursor (suc k)
unfolding after_by
after_by_suc p cursor k h l =
    dite (dec_lt (cursor + suc k) p)
    (λ y. rw (lt-ltb (cursor + suc k) p y, lt-ltb (cursor + k) p (omega arith), lt-leb p (suc (cursor + k)) (omega arith)) (omega arith))
    (λ n. rw (le-ltb (cursor + suc k) p (omega arith)) (dite (dec_lt (cursor + k) p)
    (λ y. rw (lt-ltb (cursor + k) p y, le-leb p (suc (cursor + k)) (omega arith)) (omega arith))
    (λ m. rw (le-ltb (cursor + k) p (omega arith), lt-leb p (suc (cursor + k - p)) (omega arith)) (omega arith))))

-- every place is some steps after the cursor
reach : (p cursor f : ℕ) → cursor < p → f < p → (j : ℕ) × (1 ≤ j) × (j ≤ p) × (after_by p cursor j ≡ f)
unfolding after_by
reach p cursor f h l =
    dite (dec_lt cursor f)
    (λ y. (f - cursor, omega arith, omega arith, rw (lt-ltb (cursor + (f - cursor)) p (omega arith)) (omega arith)))
    (λ n. (f + p - cursor, omega arith, omega arith, rw (le-ltb (cursor + (f + p - cursor)) p (omega arith)) (omega arith)))

module _ (used : List Bool) (p cursor : ℕ) (h : cursor < p) where
  -- the search one step on: the next place is free, or it is passed over
  pub free_here : (n k : ℕ) → k < p → get_or used (after_by p cursor (suc k)) false ≡ false → free_mark (suc n) p used (after_by p cursor k) ≡ after_by p cursor (suc k)
  unfolding free_mark
  free_here n k l e = let w = after_by_suc p cursor k h l in rw (w, e, free_mark) w

  pub free_on : (n k : ℕ) → k < p → get_or used (after_by p cursor (suc k)) false ≡ true → free_mark (suc n) p used (after_by p cursor k) ≡ free_mark n p used (after_by p cursor (suc k))
  unfolding free_mark
  free_on n k l e = let w = after_by_suc p cursor k h l in rw (w, e, free_mark) (ap (λ (q : ℕ). free_mark n p used q) w)

  free_among : (n k j : ℕ) → k < j → j ≤ k + n → j ≤ p → Free used (after_by p cursor j) → Free used (free_mark n p used (after_by p cursor k))
  free_among zero k j a b c f = absurd (omega arith)
  free_among (suc n) k j a b c f = go (get_or used (after_by p cursor (suc k)) false) refl (λ l. free_among n (suc k) j l (omega arith) c f)
    where
      go : (t : Bool) → get_or used (after_by p cursor (suc k)) false ≡ t → (suc k < j → Free used (free_mark n p used (after_by p cursor (suc k)))) → Free used (free_mark (suc n) p used (after_by p cursor k))
      go false e ih = rw (free_here n k (omega arith) e) e
      go true e ih =
          rw (free_on n k (omega arith) e) (ih (dite (dec_lt (suc k) j) (λ y. y) (λ m. let w : j ≡ suc k = omega arith in absurd (true≢false (sym e ∙ sym (ap (λ (i : ℕ). get_or used (after_by p cursor i) false) w) ∙ f)))))

  -- where a place is free, the first one after the cursor is
  pub free_found : SomeFree used p → Free used (next_mark p used cursor)
  free_found s =
      let r = reach p cursor s.at h s.low in
      let f = free_among p 0 r.0 r.1 (omega (arith, r.2)) r.2 (rw r.3 s.free) in
      rw (after_by_zero p cursor h) at f

  pub free_first : free_mark p p used (after_by p cursor 0) ≡ next_mark p used cursor
  free_first = rw (after_by_zero p cursor h)

  -- the search is not over before a free place is found
  pub free_left : SomeFree used p → (k : ℕ) → k < p → free_mark (p - k) p used (after_by p cursor k) ≡ next_mark p used cursor → get_or used (after_by p cursor (suc k)) false ≡ true → suc k < p
  unfolding free_mark
  free_left s k l e u = dite (dec_lt (suc k) p) (λ y. y) (λ n.
      let w : p - k ≡ suc zero = omega arith in
      let v : free_mark (p - k) p used (after_by p cursor k) ≡ after_by p cursor (suc k) = rw w (free_on zero k l u) in
      absurd (true≢false (sym u ∙ ap (λ (i : ℕ). get_or used i false) (sym v ∙ e) ∙ free_found s)))

-- before the k-th place after the cursor is looked at, the search from the one before it gives the answer
abbrev pub Searching : List Bool → ℕ → ℕ → ℕ → Type 0
Searching used p cursor k = free_mark (p - (k - 1)) p used (after_by p cursor (k - 1)) ≡ next_mark p used cursor

module _ (used : List Bool) (p cursor : ℕ) (h : cursor < p) where
  pub search_first : Searching used p cursor 1
  search_first = let a : 1 - 1 ≡ 0 = omega arith in let b : p - 0 ≡ p = omega arith in rw (a, b) (free_first used p cursor h)

  pub search_here : (k : ℕ) → 1 ≤ k → k ≤ p → Searching used p cursor k → get_or used (after_by p cursor k) false ≡ false → after_by p cursor k ≡ next_mark p used cursor
  search_here zero a b e f = absurd (omega arith)
  search_here (suc j) a b e f =
      let w : suc j - 1 ≡ j = omega arith in
      let v : p - j ≡ suc (p - suc j) = omega arith in
      sym (free_here used p cursor h (p - suc j) j (omega arith) f) ∙ (rw (w, v) at e)

  pub search_on : SomeFree used p → (k : ℕ) → 1 ≤ k → k ≤ p → Searching used p cursor k → get_or used (after_by p cursor k) false ≡ true → (k + 1 ≤ p) × Searching used p cursor (k + 1)
  search_on s zero a b e u = absurd (omega arith)
  search_on s (suc j) a b e u =
      let w : suc j - 1 ≡ j = omega arith in
      let v : p - j ≡ suc (p - suc j) = omega arith in
      let x : suc j + 1 - 1 ≡ suc j = omega arith in
      let f = rw w at e in
      let l = free_left used p cursor h s j (omega arith) f u in
      (omega arith, rw x (sym (free_on used p cursor h (p - suc j) j (omega arith) u) ∙ (rw v at f)))

pub free_low : (n p : ℕ) (used : List Bool) (q : ℕ) → q < p → free_mark n p used q < p
unfolding free_mark
free_low zero p used q h = h
free_low (suc n) p used q h = go (get_or used (after p q) false) refl (free_low n p used (after p q) (after_inside p q (omega arith)))
  where
    go : (t : Bool) → get_or used (after p q) false ≡ t → free_mark n p used (after p q) < p → free_mark (suc n) p used q < p
    go true e ih = rw (e, free_mark) ih
    go false e ih = rw (e, free_mark) (after_inside p q (omega arith))

-- words of a proper layout's length have its offsets
pub sized_of : (z : Layout) (xs : List ℕ) → Fitted z xs → Sized (offsets_of z) xs
unfolding block_width top_capacity_of
sized_of z xs f =
    let k = f.proper in
    let r = k.valid.ranged in
    record {
      b_low = r.b_low;
      b_high = r.b_high;
      places = k.valid.places_high;
      base_high = omega (arith, places_before z k, k.short);
      marks_end = marks_before z k;
      keys_end = keys_before z k;
      pays_end = pays_before z k;
      words = f.words ∙ k.long;
    }
