-- Laws of chunks and of the pass over a level.
use Prim.Native.Nat.{ℕ, zero, suc, ◌+◌, ◌-◌, ◌*◌, ◌/◌, ◌^◌, ◌≤◌, ◌<◌}
use mathlib.Core.Path.{◌≡◌, sym, ap, ◌∙◌, refl}
use mathlib.Core.Bool.{Bool, true, false, not, ◌&&◌, and-eq-true_iff, and-false}
use mathlib.Core.Logic.{dite}
use mathlib.Core.List.{List, ◌++◌}
use native.Mathlib.Decide.{dec_lt}
use native.Mathlib.Nat.{mul-le-mul_right}
use native.Mathlib.Numerals.{add-one}
use native.Mathlib.Omega.{arith}
use Rattle.std.specs.Prelude.{Option, Some, None}
use borrow.Author.Tests.{leb-true}
use lib.Dec.{eqb}
use lib.ListN.{length, length-append}
use Rattle.levels.specs.Basics.{if◌then◌otherwise◌}
use Rattle.levels.specs.Record.{rising, clean_tombstones}
use Rattle.levels.specs.Waste.{wasteful}
use Rattle.words.specs.Stores.{word}
use Rattle.chunks.specs.declared.Chunk.{Chunk}
use Rattle.chunks.specs.Chunks.{chunk_recs, rise_of}
use Rattle.levels.proofs.Rising.{test_rising}
use Rattle.words.proofs.Slots.{slots_length}
use Rattle.chunks.proofs.Slots.{next_low, rise_is, rising_append}
use Rattle.directory.specs.declared.Directory.{Directory}
use Rattle.directory.specs.Directory.{page_of, block_of, start_of, chunk_at, records_from, records_of, Within, kept_of, lean_level, on_rise, pass_of, level_formed, Formed}

-- a page ends where the next one starts
pub page_end : (width i n : ℕ) → i < n → i * width + width ≤ n * width
page_end width i n h = let e = mul-le-mul_right width h in omega arith

module _ (d : Directory) (ws : List ℕ) (w : Within d ws) (i : ℕ) (h : i < d.chunks) where
  pub page_in : d.top ≡ true → (d.base + i * d.width ≤ 400000) × ((d.pays + i * d.width ≤ 400000) × (i * d.width ≤ d.records))
  page_in t =
      let p = page_end d.width i d.chunks h in
      let a = w.page_keys t in
      let b = w.page_pays t in
      let e = w.page_records t in
      let q = w.short in
      (omega arith, (omega arith, omega arith))

  -- a chunk has room for `width` keys and `width` payloads
  pub chunk_room : ((chunk_at ws d i).keys + d.width ≤ length ws) × ((chunk_at ws d i).pays + d.width ≤ length ws)
  unfolding chunk_at
  chunk_room = go d.top refl
    where
      go : (t : Bool) → d.top ≡ t → ((if t then page_of (word ws (d.list + i)) d i otherwise block_of ws d.width (start_of ws d i)).keys + d.width ≤ length ws) × ((if t then page_of (word ws (d.list + i)) d i otherwise block_of ws d.width (start_of ws d i)).pays + d.width ≤ length ws)
      go true t = let p = page_end d.width i d.chunks h in (omega (arith, w.page_keys t), omega (arith, w.page_pays t))
      go false t = let p = w.blocks t i h in (omega arith, omega arith)

pub kept_count : (ws : List ℕ) (d : Directory) (c : Chunk) (before : ℕ) → kept_of ws d c before ≡ true → (1 ≤ c.count) × (c.count ≤ d.width)
unfolding kept_of
kept_count ws d c before e = let k = simp and-eq-true_iff at e in (leb-true _ _ k.0, leb-true _ _ k.1.0)

-- one chunk of the pass
module _ (ws : List ℕ) (d : Directory) (n i low before total : ℕ) (h : i < n) (c : Chunk) (e : c ≡ chunk_at ws d i) where
  pub pass_unkept : kept_of ws d c before ≡ false → pass_of ws d i (n - i) low before total ≡ false
  unfolding pass_of
  pass_unkept k = let p : n - i ≡ suc (n - (i + 1)) = omega arith in rw (p, ← e, k)

  pub pass_broken : kept_of ws d c before ≡ true → rise_of ws c.marks c.keys c.pays c.count low ≡ None → pass_of ws d i (n - i) low before total ≡ false
  unfolding pass_of
  pass_broken k q = let p : n - i ≡ suc (n - (i + 1)) = omega arith in rw (p, ← e, k, q)

  pub pass_next : (next : ℕ) → kept_of ws d c before ≡ true → rise_of ws c.marks c.keys c.pays c.count low ≡ Some next → pass_of ws d i (n - i) low before total ≡ pass_of ws d (i + 1) (n - (i + 1)) next c.count (total + c.count)
  unfolding pass_of
  pass_next next k q = let p : n - i ≡ suc (n - (i + 1)) = omega arith in rw (p, ← e, k, q, add-one i)

module _ (ws : List ℕ) (d : Directory) (n i low before total : ℕ) (h : n ≤ i) where
  pub pass_end_top : d.top ≡ true → pass_of ws d i (n - i) low before total ≡ true
  unfolding pass_of
  pass_end_top t = let p : n - i ≡ 0 = omega arith in rw (p, t)

  pub pass_end_listed : d.top ≡ false → pass_of ws d i (n - i) low before total ≡ not (wasteful d.width d.chunks total)
  unfolding pass_of
  pass_end_listed t = let p : n - i ≡ 0 = omega arith in rw (p, t)

-- The pass of the code, rule by rule. A chunk after one of `before` records: its size, its slots, its mark word.
abbrev pub tidy_chunk : List ℕ → Directory → Chunk → ℕ → Bool
tidy_chunk ws d c before = kept_of ws d c before && (clean_tombstones (chunk_recs ws c) && eqb (c.marks / 2 ^ c.count) 0)

unfoldable pub tidy_from : List ℕ → Directory → ℕ → ℕ → ℕ → Bool
tidy_from ws d i zero before = true
tidy_from ws d i (suc n) before = tidy_chunk ws d (chunk_at ws d i) before && tidy_from ws d (suc i) n (chunk_at ws d i).count

-- every chunk tidy, keys rising strictly through the level, and the level rule
abbrev pub level_rules : List ℕ → Directory → Bool
level_rules ws d = tidy_from ws d 0 d.chunks d.width && (rising 0 (records_of ws d) && lean_level d (length (records_of ws d)))

pub pass_start : (ws : List ℕ) (d : Directory) (n : ℕ) → pass_of ws d 0 (n - 0) 0 d.width 0 ≡ pass_of ws d 0 n 0 d.width 0
pass_start ws d n = let p : n - 0 ≡ n = omega arith in rw p

-- seven tests, taken chunk by chunk or rule by rule
shuffle : (k r c z t q y : Bool) → (k && (r && (c && z) && (t && (q && y)))) ≡ ((k && (c && z)) && t && ((r && q) && y))
shuffle false r c z t q y = refl
shuffle true false c z t q y = sym (and-false (c && z && t))
shuffle true true false z t q y = refl
shuffle true true true false t q y = refl
shuffle true true true true t q y = refl

on_pick : (b : Bool) (x : ℕ) (f : ℕ → Bool) → on_rise (if b then Some x otherwise None) f ≡ (b && f x)
on_pick true x f = refl
on_pick false x f = refl

-- the pass says what the rules say
pub pass_is : (ws : List ℕ) (d : Directory) (i n low before total : ℕ) → pass_of ws d i n low before total ≡ (tidy_from ws d i n before && (rising low (records_from ws d i n) && lean_level d (total + length (records_from ws d i n))))
unfolding pass_of tidy_from records_from
pass_is ws d i zero low before total = let e : total + 0 ≡ total = omega arith in rw e
pass_is ws d i (suc n) low before total = go (chunk_at ws d i) (λ t u v. pass_is ws d (suc i) n t u v)
  where
    go : (r : Chunk) → ((t u v : ℕ) → pass_of ws d (suc i) n t u v ≡ (tidy_from ws d (suc i) n u && (rising t (records_from ws d (suc i) n) && lean_level d (v + length (records_from ws d (suc i) n)))))
        → (kept_of ws d r before && on_rise (rise_of ws r.marks r.keys r.pays r.count low) (λ next. pass_of ws d (suc i) n next r.count (total + r.count)))
        ≡ (tidy_chunk ws d r before && tidy_from ws d (suc i) n r.count && (rising low (chunk_recs ws r ++ records_from ws d (suc i) n) && lean_level d (total + length (chunk_recs ws r ++ records_from ws d (suc i) n))))
    go r ih =
        let rs = chunk_recs ws r in
        let ss = records_from ws d (suc i) n in
        let b : Bool = rising low rs && (clean_tombstones rs && eqb (r.marks / 2 ^ r.count) 0) in
        let f : ℕ → Bool = λ next. pass_of ws d (suc i) n next r.count (total + r.count) in
        let k : total + length (rs ++ ss) ≡ total + r.count + length ss = omega (arith, length-append rs ss, slots_length ws r.marks r.keys r.pays r.count) in
        ap (λ (t : Option ℕ). kept_of ws d r before && on_rise t f) (rise_is ws r.marks r.keys r.pays r.count low)
        ∙ ap (λ (t : Bool). kept_of ws d r before && t) (on_pick b (next_low low rs) f)
        ∙ rw (ih (next_low low rs) r.count (total + r.count), rising_append low rs ss, k) (shuffle (kept_of ws d r before) (rising low rs) (clean_tombstones rs) (eqb (r.marks / 2 ^ r.count) 0) _ _ _)

-- the code's pass over a level is its rules
pub formed_is : (ws : List ℕ) (d : Directory) → level_formed ws d ≡ level_rules ws d
unfolding level_formed
formed_is ws d = let e : 0 + length (records_of ws d) ≡ length (records_of ws d) = omega arith in rw e at (pass_is ws d 0 d.chunks 0 d.width 0)

tidy_counts : (ws : List ℕ) (d : Directory) (i n before : ℕ) → tidy_from ws d i n before ≡ true → (j : ℕ) → i ≤ j → j < i + n → (1 ≤ (chunk_at ws d j).count) × ((chunk_at ws d j).count ≤ d.width)
unfolding tidy_from
tidy_counts ws d i zero before e j a b = absurd (omega arith)
tidy_counts ws d i (suc n) before e j a b =
    let k = simp and-eq-true_iff at e in
    dite (dec_lt i j)
    (λ y. tidy_counts ws d (suc i) n (chunk_at ws d i).count k.1 j y (omega arith))
    (λ m. let q : j ≡ i = omega arith in rw q (kept_count ws d (chunk_at ws d i) before k.0.0))

-- a level that keeps its rules is one that the walk and the search can read
pub formed_all : (ws : List ℕ) (d : Directory) → Within d ws → level_formed ws d ≡ true → Formed d ws
formed_all ws d w e =
    let k = simp and-eq-true_iff at (sym (formed_is ws d) ∙ e) in
    record {
      within = w;
      counts = λ i h. tidy_counts ws d 0 d.chunks d.width k.0 i (omega arith) (omega arith);
      rises = test_rising 0 (records_of ws d) k.1.0;
    }
