-- Steps of the passes over a chunk, and what they say of its records.
use Prim.Native.Nat.{ℕ, zero, suc, ◌+◌, ◌-◌, ◌/◌, ◌%◌, ◌^◌, ◌≤◌, ◌<◌}
use mathlib.Core.Path.{◌≡◌, sym, ◌∙◌, refl}
use mathlib.Core.Bool.{Bool, true, false, not, ◌&&◌, ◌||◌, and_assoc}
use mathlib.Core.List.{List, [], ◌∷◌, ◌++◌}
use native.Mathlib.Numerals.{add-one}
use native.Mathlib.Omega.{arith}
use Rattle.std.specs.Prelude.{Option, Some, None, length, get_or, take, drop}
use Rattle.std.specs.Option.{option_to_list}
use Rattle.std.specs.List.{slice_range, slice_get, list_all}
use Rattle.std.proofs.Math.Seq.{drop-cons}
use Rattle.std.proofs.lemmas.List.{drop_at, length-append, get_or-take, get_or-drop}
use borrow.Author.Tests.{le-leb, lt-leb}
use lib.Dec.{leb, eqb}
use Rattle.levels.specs.Basics.{if◌then◌otherwise◌}
use Rattle.levels.specs.Record.{Rec, rising, clean_tombstones}
use Rattle.words.specs.Stores.{word, slots_at}
use Rattle.words.proofs.Slots.{shift_suc}
use Rattle.chunks.specs.Chunks.{zeros_at, rise_of, clean_of}

-- `zeros` looks at each word of a part
pub zeros_all : (ws : List ℕ) (start n : ℕ) → start + n ≤ length ws → list_all (λ x. eqb x 0) (slice_range ws start (start + n)) ≡ zeros_at ws start n
unfolding zeros_at
zeros_all ws start zero h = let p : start + 0 - start ≡ 0 = omega arith in rw p
zeros_all ws start (suc n) h =
    let p : start + suc n - start ≡ suc n = omega arith in
    let q : suc start + n ≡ start + suc n = omega arith in
    let r : start + suc n - suc start ≡ n = omega arith in
    let ih : list_all (λ x. eqb x 0) (take (start + suc n - suc start) (drop (suc start) ws)) ≡ zeros_at ws (suc start) n = rw q at (zeros_all ws (suc start) n (omega arith)) in
    rw (p, drop-cons ws start 0 (omega arith), ← ih, r)

-- keys in a row, rising strictly from `low` on: the least number that the next key may be
unfoldable pub keys_rise : List ℕ → ℕ → Option ℕ
keys_rise [] low = Some low
keys_rise (x ∷ xs) low = if leb low x then keys_rise xs (x + 1) otherwise None

-- where no mark bit is set, the pass over records is one over their keys
pub rise_keys : (ws : List ℕ) (k v n low : ℕ) → k + n ≤ length ws → keys_rise (slice_range ws k (k + n)) low ≡ rise_of ws 0 k v n low
unfolding rise_of keys_rise
rise_keys ws k v zero low h = let p : k + 0 - k ≡ 0 = omega arith in rw p
rise_keys ws k v (suc n) low h =
    let p : k + suc n - k ≡ suc n = omega arith in
    let q : suc k + n - suc k ≡ n = omega arith in
    let ih = rw q at (rise_keys ws (suc k) (suc v) n (suc (word ws k)) (omega arith)) in
    rw (p, drop-cons ws k 0 (omega arith), add-one (word ws k), ← ih) (go (leb low (word ws k)) (keys_rise (take n (drop (suc k) ws)) (suc (word ws k))))
  where
    go : (a : Bool) (x : Option ℕ) → (if a then x otherwise None) ≡ (if a && true then x otherwise None)
    go true x = refl
    go false x = refl

-- what two keys say
pub pair_low : (p xs : List ℕ) (low : ℕ) → length p ≡ 2 → get_or p 0 0 < low → keys_rise (p ++ xs) low ≡ None
unfolding keys_rise
pair_low [] xs low e h = absurd (omega arith)
pair_low (a ∷ p) xs low e h = rw (lt-leb low a h)

pub pair_second : (p xs : List ℕ) (low : ℕ) → length p ≡ 2 → low ≤ get_or p 0 0 → get_or p 1 0 ≤ get_or p 0 0 → keys_rise (p ++ xs) low ≡ None
unfolding keys_rise
pair_second [] xs low e h g = absurd (omega arith)
pair_second (a ∷ []) xs low e h g = absurd (omega arith)
pair_second (a ∷ b ∷ p) xs low e h g = rw (le-leb low a h, lt-leb (a + 1) b (omega arith))

pub pair_on : (p xs : List ℕ) (low : ℕ) → length p ≡ 2 → low ≤ get_or p 0 0 → get_or p 0 0 < get_or p 1 0 → keys_rise (p ++ xs) low ≡ keys_rise xs (get_or p 1 0 + 1)
unfolding keys_rise
pair_on [] xs low e h g = absurd (omega arith)
pair_on (a ∷ []) xs low e h g = absurd (omega arith)
pair_on (a ∷ b ∷ []) xs low e h g = rw (le-leb low a h, le-leb (a + 1) b (omega arith))
pair_on (a ∷ b ∷ c ∷ p) xs low e h g = absurd (omega arith)

-- the first of what `chunks_exact` leaves over is all that pairs leave
pub pairs_left : (p xs keys rest : List ℕ) (o : Option ℕ) → p ++ xs ≡ keys → length p % 2 ≡ 0 → length xs < 2 → rest ≡ drop (length keys - length keys % 2) keys → o ≡ slice_get rest 0 → xs ≡ option_to_list o
pairs_left p xs keys rest o f e h d v =
    let g : rest ≡ drop (length (p ++ xs) - length (p ++ xs) % 2) (p ++ xs) = rw f d in
    let x : rest ≡ xs = g ∙ drop_at p xs _ (omega (arith, length-append p xs)) in
    let w : o ≡ slice_get xs 0 = rw x at v in
    rw w (go xs h)
  where
    go : (ys : List ℕ) → length ys < 2 → ys ≡ option_to_list (slice_get ys 0)
    go [] h = refl
    go (y ∷ []) h = refl
    go (y ∷ z ∷ ys) h = absurd (omega arith)

-- what that one, if it is there, says
module _ (xs : List ℕ) (low : ℕ) where
  pub tail_none : xs ≡ option_to_list {X = ℕ} None → keys_rise xs low ≡ Some low
  unfolding keys_rise
  tail_none e = rw e

  module _ (x : ℕ) (e : xs ≡ option_to_list (Some x)) where
    pub tail_low : x < low → keys_rise xs low ≡ None
    unfolding keys_rise
    tail_low h = rw (e, lt-leb low x h)

    pub tail_on : low ≤ x → keys_rise xs low ≡ Some (x + 1)
    unfolding keys_rise
    tail_on h = rw (e, le-leb low x h)

-- word i of a part
pub part_word : (ws : List ℕ) (start n i : ℕ) → i < n → get_or (slice_range ws start (start + n)) i 0 ≡ word ws (start + i)
part_word ws start n i l = get_or-take (start + n - start) (drop start ws) i 0 (omega arith) ∙ get_or-drop start ws i 0

-- one record of `clean`, with what the records before it said
module _ (ws : List ℕ) (ok : Bool) (m v n j : ℕ) where
  pub clean_next : j < n → (ok && clean_of ws m (v + j) (n - j)) ≡ ((ok && not (eqb (m % 2) 1 && not (eqb (get_or (slice_range ws v (v + n)) j 0) 0))) && clean_of ws (m / 2) (v + (j + 1)) (n - (j + 1)))
  unfolding clean_of
  clean_next l =
      let p : n - j ≡ suc (n - (j + 1)) = omega arith in
      let q : v + (j + 1) ≡ suc (v + j) = omega arith in
      rw (part_word ws v n j l, p, q) (sym (and_assoc ok (not (eqb (m % 2) 1 && not (eqb (word ws (v + j)) 0))) (clean_of ws (m / 2) (suc (v + j)) (n - (j + 1)))))

  pub clean_end : n ≤ j → (ok && clean_of ws m (v + j) (n - j)) ≡ (ok && eqb m 0)
  unfolding clean_of
  clean_end h = let p : n - j ≡ 0 = omega arith in rw p

pub clean_start : (ws : List ℕ) (m v n : ℕ) → (true && clean_of ws m (v + 0) (n - 0)) ≡ clean_of ws m v n
clean_start ws m v n = let p : v + 0 ≡ v = omega arith in let q : n - 0 ≡ n = omega arith in rw (p, q)

-- mark word 0 is clean
pub clean_zero : (ws : List ℕ) (v n : ℕ) → clean_of ws 0 v n ≡ true
unfolding clean_of
clean_zero ws v zero = refl
clean_zero ws v (suc n) = clean_zero ws (suc v) n

-- the pass is one over the payloads and mark bits, and then one over the keys
pub rise_clean : (ws : List ℕ) (m k v n low : ℕ) → rise_of ws m k v n low ≡ (if clean_of ws m v n then rise_of ws 0 k v n low otherwise None)
unfolding rise_of clean_of
rise_clean ws m k v zero low = refl
rise_clean ws m k v (suc n) low =
    rw (rise_clean ws (m / 2) (suc k) (suc v) n (suc (word ws k))) (go (leb low (word ws k)) (eqb (m % 2) 1 && not (eqb (word ws v) 0)) (clean_of ws (m / 2) (suc v) n) (rise_of ws 0 (suc k) (suc v) n (suc (word ws k))))
  where
    go : (a d c : Bool) (x : Option ℕ) → (if a && not d then (if c then x otherwise None) otherwise None) ≡ (if not d && c then (if a && true then x otherwise None) otherwise None)
    go true true c x = refl
    go false true c x = refl
    go true false c x = refl
    go false false true x = refl
    go false false false x = refl

-- the least key that may follow records that rise from `low` on
unfoldable pub next_low : ℕ → List Rec → ℕ
next_low low [] = low
next_low low (r ∷ rs) = next_low (suc r.key) rs

-- the pass says: keys rise strictly, payloads of tombstones are 0, and no bit is set past the count
pub rise_is : (ws : List ℕ) (m k v n low : ℕ) → rise_of ws m k v n low ≡ (if rising low (slots_at ws m k v n) && (clean_tombstones (slots_at ws m k v n) && eqb (m / 2 ^ n) 0) then Some (next_low low (slots_at ws m k v n)) otherwise None)
unfolding rise_of slots_at next_low
rise_is ws m k v zero low = let e : m / 2 ^ 0 ≡ m = omega arith in rw e
rise_is ws m k v (suc n) low =
    rw (shift_suc m n, rise_is ws (m / 2) (suc k) (suc v) n (suc (word ws k))) (go (leb low (word ws k)) (eqb (m % 2) 1) (eqb (word ws v) 0) _ _ _ _)
  where
    go : (a t z c d e : Bool) (x : Option ℕ) → (if a && not (t && not z) then (if c && (d && e) then x otherwise None) otherwise None) ≡ (if (a && c) && (((not t || z) && d) && e) then x otherwise None)
    go false t z c d e x = refl
    go true false z c d e x = refl
    go true true true c d e x = refl
    go true true false true d e x = refl
    go true true false false d e x = refl

-- the first of n slots, and those after it
pub slots_first : (ws : List ℕ) (m k v n : ℕ) → 1 ≤ n → slots_at ws m k v n ≡ record { key = word ws k; tombstone = eqb (m % 2) 1; pay = word ws v } ∷ slots_at ws (m / 2) (k + 1) (v + 1) (n - 1)
unfolding slots_at
slots_first ws m k v zero h = absurd (omega arith)
slots_first ws m k v (suc n) h = let p : suc n - 1 ≡ n = omega arith in rw (p, add-one k, add-one v)

-- two lists in a row rise if the first does and the second goes on from there
pub rising_append : (low : ℕ) (rs ss : List Rec) → rising low (rs ++ ss) ≡ (rising low rs && rising (next_low low rs) ss)
unfolding next_low
rising_append low [] ss = refl
rising_append low (r ∷ rs) ss = rw (rising_append (suc r.key) rs ss) (sym (and_assoc (leb low r.key) (rising (suc r.key) rs) (rising (next_low (suc r.key) rs) ss)))
