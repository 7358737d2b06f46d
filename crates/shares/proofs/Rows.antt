-- The records of a level as the words `gone` show them, chunk by chunk.
use Prim.Native.Nat.{ℕ, zero, suc, ◌+◌, ◌-◌, ◌*◌, ◌/◌, ◌%◌, ◌^◌, ◌≤◌, ◌<◌}
use mathlib.Core.Path.{◌≡◌, refl, sym, ap, ap₂, ◌∙◌}
use mathlib.Core.Bool.{Bool, true, false}
use mathlib.Core.Logic.{dite}
use mathlib.Core.List.{List, ◌++◌, append_assoc, append-nil}
use native.Mathlib.Decide.{dec_lt}
use native.Mathlib.Nat.{mod-one}
use native.Mathlib.Numerals.{add-one}
use native.Mathlib.Omega.{arith}
use lib.Count.{ones, ones_step}
use lib.Dec.{eqb}
use lib.ListN.{length, get_or, set}
use lib.Pow.{pow_pos, mod-pow-add, shl_exact}
use lib.Seq.{get_or-set_same, get_or-set_other}
use borrow.Author.Tests.{eqb-true, eqb-false}
use Rattle.levels.specs.Record.{Rec}
use Rattle.levels.specs.Map.{unmarked}
use Rattle.words.specs.Stores.{slots_at}
use Rattle.chunks.specs.declared.Chunk.{Chunk}
use Rattle.chunks.specs.Chunks.{chunk_recs}
use Rattle.chunks.specs.Peel.{live_bit}
use Rattle.chunks.proofs.Overlay.{live_cons}
use Rattle.directory.specs.declared.Directory.{Directory}
use Rattle.directory.specs.Directory.{Formed, chunk_at, records_from}
use Rattle.walk.proofs.Between.{live_append}
use Rattle.shares.specs.Shadow.{shadow_from}

-- the chunks in two parts
pub shadow_split : (ws : List ℕ) (d : Directory) (gone : List ℕ) (i m n : ℕ) → shadow_from ws d gone i (m + n) ≡ shadow_from ws d gone i m ++ shadow_from ws d gone (i + m) n
unfolding shadow_from
shadow_split ws d gone i zero n = let a : 0 + n ≡ n = omega arith in let b : i + 0 ≡ i = omega arith in rw (a, b)
shadow_split ws d gone i (suc m) n =
    let a : suc m + n ≡ suc (m + n) = omega arith in
    let b : i + suc m ≡ suc i + m = omega arith in
    rw (a, b, shadow_split ws d gone (suc i) m n, append_assoc)

-- the records of one chunk, so
abbrev pub row_of : List ℕ → Directory → List ℕ → ℕ → List Rec
row_of ws d gone i = slots_at ws (get_or gone i 0 / 2) (chunk_at ws d i).keys (chunk_at ws d i).pays (chunk_at ws d i).count

-- one chunk more
pub shadow_more : (ws : List ℕ) (d : Directory) (gone : List ℕ) (i : ℕ) → shadow_from ws d gone 0 (i + 1) ≡ shadow_from ws d gone 0 i ++ row_of ws d gone i
unfolding shadow_from
shadow_more ws d gone i =
    let a : 0 + i ≡ i = omega arith in
    shadow_split ws d gone 0 i 1 ∙ rw (a, append-nil (row_of ws d gone i))

-- words that show each chunk alike show the level alike
pub shadow_agree : (ws : List ℕ) (d : Directory) (gone left : List ℕ) (i n : ℕ) → ((j : ℕ) → i ≤ j → j < i + n → row_of ws d gone j ≡ row_of ws d left j) → shadow_from ws d gone i n ≡ shadow_from ws d left i n
unfolding shadow_from
shadow_agree ws d gone left i zero f = refl
shadow_agree ws d gone left i (suc n) f =
    ap₂ (λ (rs ss : List Rec). rs ++ ss) (f i (omega arith) (omega arith)) (shadow_agree ws d gone left (suc i) n (λ j l h. f j (omega arith) (omega arith)))

-- and words that show each chunk's records show the level's
pub shadow_records : (ws : List ℕ) (d : Directory) (gone : List ℕ) (i n : ℕ) → ((j : ℕ) → i ≤ j → j < i + n → row_of ws d gone j ≡ chunk_recs ws (chunk_at ws d j)) → shadow_from ws d gone i n ≡ records_from ws d i n
unfolding shadow_from records_from
shadow_records ws d gone i zero f = refl
shadow_records ws d gone i (suc n) f =
    ap₂ (λ (rs ss : List Rec). rs ++ ss) (f i (omega arith) (omega arith)) (shadow_records ws d gone (suc i) n (λ j l h. f j (omega arith) (omega arith)))

-- the lowest bit of the lowest w, and the others
module _ (m w : ℕ) where
  mod_parts : m % 2 ^ suc w ≡ (m / 2 % 2 ^ w) * 2 + m % 2
  mod_parts = ap (λ (x : ℕ). m % 2 ^ x) (sym (add-one w)) ∙ mod-pow-add m w 1

  mod_low : m % 2 ^ suc w % 2 ≡ m % 2
  mod_low = rw mod_parts (omega arith)

  mod_high : m % 2 ^ suc w / 2 ≡ m / 2 % 2 ^ w
  mod_high = rw mod_parts (omega arith)

-- n slots are read from the n lowest bits
pub slots_mod : (ws : List ℕ) (m k v n w : ℕ) → n ≤ w → slots_at ws (m % 2 ^ w) k v n ≡ slots_at ws m k v n
unfolding slots_at
slots_mod ws m k v zero w h = refl
slots_mod ws m k v (suc n) zero h = absurd (omega arith)
slots_mod ws m k v (suc n) (suc w) h = rw (mod_low m w, mod_high m w, slots_mod ws (m / 2) (suc k) (suc v) n w (omega arith))

-- a slot shows or its bit is set
pub slots_ones : (ws : List ℕ) (m k v n : ℕ) → length (unmarked (slots_at ws m k v n)) + ones (m % 2 ^ n) ≡ n
unfolding slots_at unmarked ones
slots_ones ws m k v zero = rw (mod-one m)
slots_ones ws m k v (suc n) =
    let rs = slots_at ws (m / 2) (suc k) (suc v) n in
    let e : ones (m % 2 ^ suc n) ≡ m % 2 + ones (m / 2 % 2 ^ n) = ones_step (m % 2 ^ suc n) ∙ rw (mod_low m n, mod_high m n) in
    ap₂ (λ (x y : ℕ). x + y) (live_cons (record { key = get_or ws k 0; tombstone = eqb (m % 2) 1; pay = get_or ws v 0 }) rs) e
    ∙ omega (arith, go (eqb (m % 2) 1) refl, slots_ones ws (m / 2) (suc k) (suc v) n)
  where
    go : (t : Bool) → eqb (m % 2) 1 ≡ t → live_bit t + m % 2 ≡ 1
    go true e = omega (arith, eqb-true (m % 2) 1 e)
    go false e = omega (arith, eqb-false (m % 2) 1 e)

-- how many records of a chunk show no longer, as the code tells it
abbrev pub hidden_in : List ℕ → ℕ → Chunk → ℕ
hidden_in gone i c = ones (get_or gone i 0 / 2 % (1 * 2 ^ c.count % 4294967296))

-- one chunk more counts as many as its word leaves
pub record Counts (ws : List ℕ) (d : Directory) (gone : List ℕ) (i : ℕ) (c : Chunk) : Type 0 where
  pub few : c.count ≤ 16
  pub used : 0 < 1 * 2 ^ c.count % 4294967296
  pub hidden_few : hidden_in gone i c ≤ c.count
  pub more : (total : ℕ) → total ≡ length (unmarked (shadow_from ws d gone 0 i)) → total + (c.count - hidden_in gone i c) ≡ length (unmarked (shadow_from ws d gone 0 (i + 1)))

pub counts_of_lem : (ws : List ℕ) (d : Directory) (gone : List ℕ) (i : ℕ) → Formed d ws → i < d.chunks → (c : Chunk) → c ≡ chunk_at ws d i → Counts ws d gone i c
counts_of_lem ws d gone i f h c e =
    let n : c.count ≤ 16 = rw e (omega (arith, (f.counts i h).1, f.within.width_high)) in
    let u : 1 * 2 ^ c.count % 4294967296 ≡ 2 ^ c.count = shl_exact {a = 1} 1 c.count 32 (omega arith) (omega arith) ∙ omega arith in
    let t : length (unmarked (row_of ws d gone i)) + hidden_in gone i c ≡ c.count = rw (u, e) (slots_ones ws (get_or gone i 0 / 2) (chunk_at ws d i).keys (chunk_at ws d i).pays (chunk_at ws d i).count) in
    record {
      few = n;
      used = rw u (pow_pos c.count);
      hidden_few = omega arith;
      more = λ total q. rw (shadow_more ws d gone i, live_append (shadow_from ws d gone 0 i) (row_of ws d gone i)) (omega arith);
    }

-- words written one after the other: what each is to be, it is
pub filled_set : (f : ℕ → ℕ) (xs : List ℕ) (i x : ℕ) → i < length xs → x ≡ f i → ((j : ℕ) → j < i → get_or xs j 0 ≡ f j) → (j : ℕ) → j < i + 1 → get_or (set xs i x) j 0 ≡ f j
filled_set f xs i x h e g j p =
    dite (dec_lt j i)
    (λ y. get_or-set_other xs i j x 0 (λ q. omega arith) ∙ g j y)
    (λ n. let q : j ≡ i = omega arith in rw (q, get_or-set_same xs i x 0 h) e)

-- the code's words of chunks whose tombstones alone do not show
pub marks_show : (ws : List ℕ) (d : Directory) (gone : List ℕ) → Formed d ws → ((j : ℕ) → j < d.chunks → get_or gone j 0 ≡ (chunk_at ws d j).marks % 65536 * 2) → shadow_from ws d gone 0 d.chunks ≡ records_from ws d 0 d.chunks
marks_show ws d gone f g = shadow_records ws d gone 0 d.chunks row
  where
    row : (j : ℕ) → 0 ≤ j → j < 0 + d.chunks → row_of ws d gone j ≡ chunk_recs ws (chunk_at ws d j)
    row j l h =
        let c = chunk_at ws d j in
        let e : get_or gone j 0 / 2 ≡ c.marks % 65536 = omega (arith, g j (omega arith)) in
        ap (λ (m : ℕ). slots_at ws m c.keys c.pays c.count) e
        ∙ slots_mod ws c.marks c.keys c.pays c.count 16 (omega (arith, (f.counts j (omega arith)).1, f.within.width_high))
