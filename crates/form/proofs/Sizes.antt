-- What the size words and the place lists say: the words that the levels name are there.
use Prim.Native.Nat.{ℕ, ◌+◌, ◌-◌, ◌*◌, ◌/◌, ◌≤◌, ◌<◌}
use mathlib.Core.Path.{◌≡◌, sym, ap, ◌∙◌}
use mathlib.Core.Bool.{Bool, true, ◌&&◌, and-eq-true_iff, true≢false}
use mathlib.Core.Logic.{dite}
use mathlib.Core.List.{List}
use native.Mathlib.Decide.{dec_lt}
use native.Mathlib.Nat.{add-mul, div-lt_iff_lt-mul, div-mul-le_self, lt-div-mul-add}
use native.Mathlib.Omega.{arith}
use borrow.Author.Tests.{leb-true, ltb-true}
use lib.Dec.{ltb}
use lib.ListN.{length}
use Rattle.geometry.specs.Geometry.{capacity_of, top_capacity_of, block_width}
use Rattle.geometry.proofs.Laws.{level_high}
use Rattle.geometry.proofs.Bounds.{capacity_zero_high}
use Rattle.levels.specs.Basics.{all, ceil_div}
use Rattle.words.specs.Stores.{word, top_count_at, count_at, listed_at}
use Rattle.words.specs.Form.{live_fits, cursor_inside, top_fits, counts_fit, places_inside, places_once, lists_unused_zero}
use Rattle.levels.proofs.Each.{all_each_at}
use Rattle.words.proofs.Form.{count_low, count_empty}
use Rattle.layout.specs.Layouts.{Fitted, list_start, place_start}
use Rattle.directory.specs.Directory.{Within}
use Rattle.form.specs.Form.{top_of, level_of, header_ok, lists_ok, Headed}
use Rattle.form.proofs.Tests.{all_at}
use Rattle.form.proofs.Parts.{Listed, listed_words, listed_each}
use Rattle.form.proofs.Places.{lists_rules}
use Rattle.layout.proofs.Laws.{keys_before, list_inside, marks_before, pays_before, place_inside, places_before}
use Rattle.layout.specs.declared.Layout.{Layout}

-- c records in pages of b: n pages, of k
pub record Paged (c b k n : ℕ) : Type 0 where
  pub few : n ≤ k
  pub none_empty : n * b < c + b
  pub enough : c ≤ n * b
  pub rest : n * b + (k - n) * b ≡ k * b

paged : (c b k : ℕ) → 1 ≤ b → c ≤ k * b → Paged c b k (ceil_div c b)
paged c b k h l =
    let f : (c + (b - 1)) / b < k + 1 = (div-lt_iff_lt-mul h).1 (let e = add-mul k 1 b in omega arith) in
    let a = div-mul-le_self (c + (b - 1)) b in
    let m : c + (b - 1) < (c + (b - 1)) / b * b + b = lt-div-mul-add h in
    let n = (c + (b - 1)) / b in
    let p : k ≡ n + (k - n) = omega arith in
    record { few = omega arith; none_empty = omega arith; enough = omega arith; rest = sym (ap (λ (t : ℕ). t * b) p ∙ add-mul n (k - n) b) }

-- the places end the store, and all else lies before them
places_in_lem : (z : Layout) (ws : List ℕ) → Fitted z ws → z.places ≤ length ws
places_in_lem z ws s = omega (arith, s.words, places_before z s.proper)

module _ (z : Layout) (ws : List ℕ) (x : Headed z ws) where
  pub header_tests : (live_fits z ws ≡ true) × ((cursor_inside z ws ≡ true) × ((top_fits z ws ≡ true) × (counts_fit z ws ≡ true)))
  unfolding header_ok
  header_tests = simp and-eq-true_iff at x.header

  -- "c is at most K(0)×B"
  pub top_fits_lem : top_count_at z ws ≤ top_capacity_of z.geo
  unfolding top_fits
  top_fits_lem = leb-true _ _ header_tests.1.1.0

  -- "each block count is at most K(i) (zero above h)"
  pub count_fits : (i : ℕ) → 1 ≤ i → i ≤ z.geo.h → count_at z ws i ≤ capacity_of z.geo i
  count_fits i a b = count_low z ws header_tests.1.1.1 i a (let r = x.sized.proper.valid.ranged.h_high in omega arith) b

  pub count_none : (i : ℕ) → 1 ≤ i → i ≤ 3 → z.geo.h < i → count_at z ws i ≡ 0
  count_none i a b c = count_empty z ws header_tests.1.1.1 i a b c

  pub lists_in : (i : ℕ) → 1 ≤ i → i ≤ z.geo.h → Listed z ws i
  lists_in i a b = record { inside = let p = places_in_lem z ws x.sized in let q = list_inside z x.sized.proper a b in omega arith; fits = count_fits i a b }

  -- the pages of level 0
  pub top_paged : Paged (top_count_at z ws) z.geo.b (capacity_of z.geo 0) (top_of z ws).chunks
  unfolding top_of top_capacity_of
  top_paged = let b = x.sized.proper.valid.ranged.b_low in paged (top_count_at z ws) z.geo.b (capacity_of z.geo 0) (omega arith) top_fits_lem

  pub within_top : Within (top_of z ws) ws
  unfolding top_of top_capacity_of
  within_top =
      let s = x.sized in
      let k = s.proper.valid.ranged in
      let p = top_paged in
      let few = p.few in
      let rest = p.rest in
      let c = capacity_zero_high z.geo k in
      let m = marks_before z s.proper in
      let e = keys_before z s.proper in
      let v = pays_before z s.proper in
      let q = places_in_lem z ws s in
      record {
        width_low = k.b_low;
        width_high = k.b_high;
        chunks_high = omega arith;
        short = omega (arith, s.words, s.proper.short);
        list = λ i h. omega arith;
        page_keys = λ t. omega arith;
        page_pays = λ t. omega arith;
        page_records = λ t. p.none_empty;
        blocks = λ t. absurd (true≢false t);
      }

  -- the code's marks against the clauses for the place lists
  pub lists_is : lists_ok z ws ≡ ((places_inside z ws && places_once z ws) && lists_unused_zero z ws)
  lists_is = lists_rules z ws x.sized.proper.valid.places_high lists_in

  -- a listed place is below P
  pub place_below : lists_ok z ws ≡ true → (i : ℕ) → 1 ≤ i → i ≤ z.geo.h → (j : ℕ) → j < count_at z ws i → word ws (list_start z i + j) < z.geo.p
  unfolding places_inside
  place_below e i a b j h =
      let k = simp and-eq-true_iff at (sym lists_is ∙ e) in
      let t : ℕ → Bool = λ (p : ℕ). ltb p z.geo.p in
      let l = all_at (λ (m : ℕ). all t (listed_at z ws m)) 1 z.geo.h (sym (listed_each t z ws 1 z.geo.h) ∙ k.0.0) i a (omega arith) in
      ltb-true _ _ (all_each_at t (word ws) (list_start z i) (count_at z ws i) (sym (ap (all t) (listed_words z ws i (lists_in i a b))) ∙ l) j h)

  block_in : (p : ℕ) → p < z.geo.p → z.places + p * (2 + 2 * z.geo.b) + (2 + 2 * z.geo.b) ≤ length ws
  unfolding place_start block_width
  block_in p h = rw x.sized.words (place_inside z x.sized.proper h)

  -- a level whose list entries are there, and name places below P
  level_words : (i : ℕ) → count_at z ws i ≤ 1024 → ((j : ℕ) → j < count_at z ws i → (list_start z i + j < length ws) × (word ws (list_start z i + j) < z.geo.p)) → Within (level_of z ws i) ws
  unfolding level_of
  level_words i n f =
      let s = x.sized in
      let k = s.proper.valid.ranged in
      record {
        width_low = k.b_low;
        width_high = k.b_high;
        chunks_high = n;
        short = omega (arith, s.words, s.proper.short);
        list = λ j h. (f j h).0;
        page_keys = λ t. absurd (true≢false (sym t));
        page_pays = λ t. absurd (true≢false (sym t));
        page_records = λ t. absurd (true≢false (sym t));
        blocks = λ t j h. block_in (word ws (list_start z i + j)) (f j h).1;
      }

  -- levels 1 to h, and those above, which list nothing
  pub within_level : lists_ok z ws ≡ true → (i : ℕ) → 1 ≤ i → i ≤ 3 → Within (level_of z ws i) ws
  within_level e i a b =
      dite (dec_lt z.geo.h i)
      (λ y. let n = count_none i a b y in level_words i (omega arith) (λ j h. absurd (omega arith)))
      (λ m.
      let h : i ≤ z.geo.h = omega arith in
      let l = lists_in i a h in
      let n = l.inside in
      let f = l.fits in
      let c = level_high z.geo x.sized.proper.valid h in
      level_words i (omega arith) (λ j q. (omega arith, place_below e i a h j q)))
