-- Level 0: its pages as the code goes over them are document 01's slots, in use and unused.
use Prim.Native.Nat.{ℕ, zero, suc, ◌+◌, ◌-◌, ◌*◌, ◌/◌, ◌^◌, ◌≤◌, ◌<◌}
use mathlib.Core.Path.{◌≡◌, sym, ap, ◌∙◌, refl}
use mathlib.Core.Bool.{Bool, true, not, ◌&&◌, ◌||◌, and-true, and-eq-true_iff}
use mathlib.Core.Logic.{dite}
use mathlib.Core.List.{List, [], ◌∷◌, ◌++◌}
use native.Mathlib.Decide.{dec_lt}
use native.Mathlib.Omega.{arith}
use borrow.Author.Tests.{le-leb, lt-ltb, le-ltb}
use lib.Dec.{ltb, eqb}
use lib.ListN.{length, take, drop, drop_of_length-le}
use lib.Seq.{take_all, take-nil, drop-nil}
use Rattle.geometry.specs.Geometry.{capacity_of}
use Rattle.levels.specs.Basics.{if◌then◌otherwise◌, all}
use Rattle.levels.specs.Record.{Rec, rising, clean_tombstones}
use Rattle.levels.proofs.Every.{all_joined}
use Rattle.words.specs.Stores.{word, slots_at, page_slots, top_slots, top_recs, top_count_at}
use Rattle.words.specs.Form.{blank, top_unused_zero}
use Rattle.chunks.specs.Chunks.{zeros_at, chunk_recs}
use Rattle.levels.proofs.Each.{each_add}
use Rattle.words.proofs.Slots.{slots_length, slots_take}
use Rattle.directory.specs.Directory.{chunk_at, records_from, records_of, kept_of, lean_level, level_formed}
use Rattle.directory.proofs.Laws.{tidy_chunk, tidy_from, formed_is}
use Rattle.form.specs.Form.{top_of, spare_ok, Headed}
use Rattle.form.proofs.Tests.{test_same, and_swap, range}
use Rattle.form.proofs.Parts.{zeros_split}
use Rattle.form.proofs.Unused.{unused_is}
use Rattle.form.proofs.Sizes.{top_paged}
use Rattle.layout.specs.declared.Layout.{Layout}

-- the smaller of two numbers
abbrev pub least : ℕ → ℕ → ℕ
least r b = if ltb r b then r otherwise b

least_is : (P : ℕ → Type 0) (r b : ℕ) → (r < b → P r) → (b ≤ r → P b) → P (least r b)
least_is P r b f k = dite (dec_lt r b) (λ y. rw (lt-ltb r b y) (f y)) (λ n. let l : b ≤ r = omega arith in rw (le-ltb r b l) (k l))

take_append : {A : Type 0} (r : ℕ) (xs ys : List A) → take r (xs ++ ys) ≡ take r xs ++ take (r - length xs) ys
take_append r [] ys = let e : r - 0 ≡ r = omega arith in rw (take-nil r, e)
take_append zero (x ∷ xs) ys = let e : 0 - suc (length xs) ≡ 0 = omega arith in rw e
take_append (suc r) (x ∷ xs) ys = let e : suc r - suc (length xs) ≡ r - length xs = omega arith in rw (e, take_append r xs ys)

drop_append : {A : Type 0} (r : ℕ) (xs ys : List A) → drop r (xs ++ ys) ≡ drop r xs ++ drop (r - length xs) ys
drop_append r [] ys = let e : r - 0 ≡ r = omega arith in rw (drop-nil r, e)
drop_append zero (x ∷ xs) ys = let e : 0 - suc (length xs) ≡ 0 = omega arith in rw e
drop_append (suc r) (x ∷ xs) ys = let e : suc r - suc (length xs) ≡ r - length xs = omega arith in rw (e, drop_append r xs ys)

-- r of b slots in a row
slots_least : (ws : List ℕ) (m k v r b : ℕ) → take r (slots_at ws m k v b) ≡ slots_at ws m k v (least r b)
slots_least ws m k v r b =
    least_is (λ n. take r (slots_at ws m k v b) ≡ slots_at ws m k v n) r b
    (λ y. slots_take ws m k v r b (omega arith))
    (λ n. take_all r (slots_at ws m k v b) (rw (slots_length ws m k v b) n))

drop_least : (ws : List ℕ) (m k v r b : ℕ) → drop r (slots_at ws m k v b) ≡ drop (least r b) (slots_at ws m k v b)
drop_least ws m k v r b =
    let l = slots_length ws m k v b in
    least_is (λ n. drop r (slots_at ws m k v b) ≡ drop n (slots_at ws m k v b)) r b
    (λ y. refl)
    (λ n. drop_of_length-le (slots_at ws m k v b) {i = r} (omega arith) ∙ sym (drop_of_length-le (slots_at ws m k v b) {i = b} (omega arith)))

-- the records of page i, and its slots
abbrev pub page_count : Layout → List ℕ → ℕ → ℕ
page_count z ws i = least (top_count_at z ws - i * z.geo.b) z.geo.b

abbrev pub page_at : Layout → List ℕ → ℕ → ℕ → List Rec
page_at z ws i n = slots_at ws (word ws (z.marks + i)) (z.keys + i * z.geo.b) (z.pays + i * z.geo.b) n

-- the unused slots and mark bits of page i are 0
unfoldable pub page_unused : Layout → List ℕ → ℕ → Bool
page_unused z ws i =
    zeros_at ws (z.keys + i * z.geo.b + page_count z ws i) (z.geo.b - page_count z ws i)
    && (zeros_at ws (z.pays + i * z.geo.b + page_count z ws i) (z.geo.b - page_count z ws i) && eqb (word ws (z.marks + i) / 2 ^ page_count z ws i) 0)

count_high : (r b : ℕ) → least r b ≤ b
count_high r b = least_is (λ n. n ≤ b) r b (λ y. omega arith) (λ n. omega arith)

module _ (z : Layout) (ws : List ℕ) where
  page_chunk_lem : (i : ℕ) → chunk_recs ws (chunk_at ws (top_of z ws) i) ≡ page_at z ws i (page_count z ws i)
  unfolding chunk_at top_of
  page_chunk_lem i = refl

  -- the slots of page i and of those after it
  page_left : (i : ℕ) → top_count_at z ws - i * z.geo.b - z.geo.b ≡ top_count_at z ws - suc i * z.geo.b
  page_left i = omega arith

  pages_recs : (i n m : ℕ) → n ≤ m → n * z.geo.b < top_count_at z ws - i * z.geo.b + z.geo.b → top_count_at z ws - i * z.geo.b ≤ n * z.geo.b
      → records_from ws (top_of z ws) i n ≡ take (top_count_at z ws - i * z.geo.b) (page_slots z ws i m)
  unfolding records_from page_slots
  pages_recs i zero m h a b = let e : top_count_at z ws - i * z.geo.b ≡ 0 = omega arith in rw e
  pages_recs i (suc n) zero h a b = absurd (omega arith)
  pages_recs i (suc n) (suc m) h a b =
      let r = top_count_at z ws - i * z.geo.b in
      let e = page_left i in
      rw (
        page_chunk_lem i,
        pages_recs (suc i) n m (omega arith) (omega arith) (omega arith),
        take_append r (page_at z ws i z.geo.b) (page_slots z ws (suc i) m),
        slots_length ws (word ws (z.marks + i)) (z.keys + i * z.geo.b) (z.pays + i * z.geo.b) z.geo.b,
        slots_least ws (word ws (z.marks + i)) (z.keys + i * z.geo.b) (z.pays + i * z.geo.b) r z.geo.b,
        e,
      )

  pages_unused : (i n : ℕ)
      → (all blank (drop (top_count_at z ws - i * z.geo.b) (page_slots z ws i n)) && all (λ (j : ℕ). ltb (word ws (z.marks + j)) (2 ^ z.geo.b)) (range i n)) ≡ all (page_unused z ws) (range i n)
  unfolding page_slots page_unused
  pages_unused i zero = rw (drop-nil (top_count_at z ws - i * z.geo.b))
  pages_unused i (suc n) =
      let r = top_count_at z ws - i * z.geo.b in
      let m = word ws (z.marks + i) in
      let k = z.keys + i * z.geo.b in
      let v = z.pays + i * z.geo.b in
      rw (
        drop_append r (page_at z ws i z.geo.b) (page_slots z ws (suc i) n),
        slots_length ws m k v z.geo.b,
        drop_least ws m k v r z.geo.b,
        page_left i,
        all_joined blank (drop (page_count z ws i) (page_at z ws i z.geo.b)) (drop (top_count_at z ws - suc i * z.geo.b) (page_slots z ws (suc i) n)),
        and_swap (all blank (drop (page_count z ws i) (page_at z ws i z.geo.b))) (all blank (drop (top_count_at z ws - suc i * z.geo.b) (page_slots z ws (suc i) n))) (ltb m (2 ^ z.geo.b)) (all (λ (j : ℕ). ltb (word ws (z.marks + j)) (2 ^ z.geo.b)) (range (suc i) n)),
        unused_is ws m k v (page_count z ws i) z.geo.b (count_high r z.geo.b),
        pages_unused (suc i) n,
      )

  -- page i has none in use
  spare_page : (i : ℕ) → 2 ≤ z.geo.b → top_count_at z ws ≤ i * z.geo.b
      → page_unused z ws i ≡ (zeros_at ws (z.keys + i * z.geo.b) z.geo.b && (zeros_at ws (z.pays + i * z.geo.b) z.geo.b && eqb (word ws (z.marks + i)) 0))
  unfolding page_unused
  spare_page i b h =
      let e : top_count_at z ws - i * z.geo.b ≡ 0 = omega arith in
      let c : page_count z ws i ≡ 0 = rw (e, lt-ltb 0 z.geo.b (omega arith)) in
      let k : z.keys + i * z.geo.b + 0 ≡ z.keys + i * z.geo.b = omega arith in
      let v : z.pays + i * z.geo.b + 0 ≡ z.pays + i * z.geo.b = omega arith in
      let n : z.geo.b - 0 ≡ z.geo.b = omega arith in
      let m : word ws (z.marks + i) / 2 ^ 0 ≡ word ws (z.marks + i) = omega arith in
      rw (c, k, v, n, m)

  -- pages that have none in use, page by page or all at once
  spare_pages : (i n : ℕ) → 2 ≤ z.geo.b → top_count_at z ws ≤ i * z.geo.b
      → all (page_unused z ws) (range i n) ≡ (zeros_at ws (z.marks + i) n && (zeros_at ws (z.keys + i * z.geo.b) (n * z.geo.b) && zeros_at ws (z.pays + i * z.geo.b) (n * z.geo.b)))
  unfolding zeros_at
  spare_pages i zero b h = let e : 0 * z.geo.b ≡ 0 = omega arith in rw e
  spare_pages i (suc n) b h =
      let m : z.marks + suc i ≡ suc (z.marks + i) = omega arith in
      let k : z.keys + suc i * z.geo.b ≡ z.keys + i * z.geo.b + z.geo.b = omega arith in
      let v : z.pays + suc i * z.geo.b ≡ z.pays + i * z.geo.b + z.geo.b = omega arith in
      let s : suc n * z.geo.b ≡ z.geo.b + n * z.geo.b = omega arith in
      rw (
        spare_page i b h,
        spare_pages (suc i) n b (omega arith),
        m,
        k,
        v,
        s,
        zeros_split ws (z.keys + i * z.geo.b) z.geo.b (n * z.geo.b),
        zeros_split ws (z.pays + i * z.geo.b) z.geo.b (n * z.geo.b),
      )
      (shuffle
      (zeros_at ws (z.keys + i * z.geo.b) z.geo.b) (zeros_at ws (z.pays + i * z.geo.b) z.geo.b) (eqb (word ws (z.marks + i)) 0)
      (zeros_at ws (suc (z.marks + i)) n) (zeros_at ws (z.keys + i * z.geo.b + z.geo.b) (n * z.geo.b)) (zeros_at ws (z.pays + i * z.geo.b + z.geo.b) (n * z.geo.b)))
    where
      shuffle : (a b c x y q : Bool) → ((a && (b && c)) && (x && (y && q))) ≡ ((c && x) && ((a && y) && (b && q)))
      shuffle a b c x y q = test_same ((a && (b && c)) && (x && (y && q))) ((c && x) && ((a && y) && (b && q)))
          (λ e. let k = simp and-eq-true_iff at e in simp and-eq-true_iff ((k.0.1.1, k.1.0), ((k.0.0, k.1.1.0), (k.0.1.0, k.1.1.1))))
          (λ e. let k = simp and-eq-true_iff at e in simp and-eq-true_iff ((k.1.0.0, (k.1.1.0, k.0.0)), (k.0.1, (k.1.0.1, k.1.1.1))))

  -- a page that has some in use
  page_tidy : (i before : ℕ) → 2 ≤ z.geo.b → 1 ≤ top_count_at z ws - i * z.geo.b
      → tidy_chunk ws (top_of z ws) (chunk_at ws (top_of z ws) i) before ≡ (page_unused z ws i && clean_tombstones (page_at z ws i (page_count z ws i)))
  unfolding kept_of chunk_at top_of page_unused
  page_tidy i before b h =
      let l : 1 ≤ page_count z ws i = least_is (λ n. 1 ≤ n) (top_count_at z ws - i * z.geo.b) z.geo.b (λ y. h) (λ n. omega arith) in
      rw (le-leb 1 (page_count z ws i) l, le-leb (page_count z ws i) z.geo.b (count_high (top_count_at z ws - i * z.geo.b) z.geo.b)) (shuffle
      (zeros_at ws (z.keys + i * z.geo.b + page_count z ws i) (z.geo.b - page_count z ws i)) (zeros_at ws (z.pays + i * z.geo.b + page_count z ws i) (z.geo.b - page_count z ws i))
      (clean_tombstones (page_at z ws i (page_count z ws i))) (eqb (word ws (z.marks + i) / 2 ^ page_count z ws i) 0))
    where
      shuffle : (a b c d : Bool) → ((a && b) && (c && d)) ≡ ((a && (b && d)) && c)
      shuffle a b c d = test_same ((a && b) && (c && d)) ((a && (b && d)) && c)
          (λ e. let k = simp and-eq-true_iff at e in simp and-eq-true_iff ((k.0.0, (k.0.1, k.1.1)), k.1.0))
          (λ e. let k = simp and-eq-true_iff at e in simp and-eq-true_iff ((k.0.0, k.0.1.0), (k.1, k.0.1.1)))

  pages_tidy : (i n before : ℕ) → 2 ≤ z.geo.b → (i + n) * z.geo.b < top_count_at z ws + z.geo.b
      → tidy_from ws (top_of z ws) i n before ≡ (all (page_unused z ws) (range i n) && clean_tombstones (records_from ws (top_of z ws) i n))
  unfolding tidy_from records_from
  pages_tidy i zero before b h = refl
  pages_tidy i (suc n) before b h =
      let e : (i + suc n) * z.geo.b ≡ i * z.geo.b + (z.geo.b + n * z.geo.b) = omega arith in
      let f : (suc i + n) * z.geo.b ≡ i * z.geo.b + (z.geo.b + n * z.geo.b) = omega arith in
      rw (
        page_tidy i before b (omega arith),
        pages_tidy (suc i) n (chunk_at ws (top_of z ws) i).count b (omega arith),
        page_chunk_lem i,
        all_joined (λ (r : Rec). not r.tombstone || eqb r.pay 0) (page_at z ws i (page_count z ws i)) (records_from ws (top_of z ws) (suc i) n),
      )
      (and_swap (page_unused z ws i) (clean_tombstones (page_at z ws i (page_count z ws i))) (all (page_unused z ws) (range (suc i) n)) (clean_tombstones (records_from ws (top_of z ws) (suc i) n)))

  -- level 0 keeps no level rule
  top_lean : (n : ℕ) → lean_level (top_of z ws) n ≡ true
  unfolding top_of
  top_lean n = refl

module _ (z : Layout) (ws : List ℕ) (q : Headed z ws) where
  -- the records of level 0
  pub top_recs_lem : records_of ws (top_of z ws) ≡ top_recs z ws
  unfolding top_recs top_slots
  top_recs_lem =
      let p = top_paged z ws q in
      let e : top_count_at z ws - 0 * z.geo.b ≡ top_count_at z ws = omega arith in
      rw e at (pages_recs z ws 0 (top_of z ws).chunks (capacity_of z.geo 0) p.few (let n = p.none_empty in omega arith) (let n = p.enough in omega arith))

  -- "Unused slots, bits" of level 0: those of the pages in use, and all words of the others
  pub top_unused : top_unused_zero z ws ≡ (all (page_unused z ws) (range 0 (top_of z ws).chunks) && spare_ok z ws)
  unfolding top_unused_zero top_slots spare_ok
  top_unused =
      let p = top_paged z ws q in
      let n = (top_of z ws).chunks in
      let b = q.sized.proper.valid.ranged.b_low in
      let e : top_count_at z ws - 0 * z.geo.b ≡ top_count_at z ws = omega arith in
      let k : capacity_of z.geo 0 ≡ n + (capacity_of z.geo 0 - n) = let f = p.few in omega arith in
      let o : 0 + n ≡ n = omega arith in
      rw e at (pages_unused z ws 0 (capacity_of z.geo 0))
      ∙ ap (λ (m : ℕ). all (page_unused z ws) (range 0 m)) k
      ∙ rw (each_add (λ (j : ℕ). j) 0 n (capacity_of z.geo 0 - n), all_joined (page_unused z ws) (range 0 n) (range (0 + n) (capacity_of z.geo 0 - n)), o, spare_pages z ws n (capacity_of z.geo 0 - n) b p.enough)

  -- the code's pass over level 0
  pub top_formed : level_formed ws (top_of z ws) ≡ ((all (page_unused z ws) (range 0 (top_of z ws).chunks) && clean_tombstones (top_recs z ws)) && rising 0 (top_recs z ws))
  top_formed =
      let p = top_paged z ws q in
      let n = (top_of z ws).chunks in
      let b = q.sized.proper.valid.ranged.b_low in
      formed_is ws (top_of z ws)
      ∙ rw (pages_tidy z ws 0 n (top_of z ws).width b (let k = p.none_empty in let o : (0 + n) * z.geo.b ≡ n * z.geo.b = omega arith in omega arith), top_recs_lem, top_lean z ws (length (top_recs z ws)), and-true (rising 0 (top_recs z ws)))
