-- Bits of the words that say which records show no longer.
use Prim.Native.Nat.{ℕ, zero, suc, ◌+◌, ◌*◌, ◌/◌, ◌%◌, ◌^◌, ◌≤◌, ◌<◌}
use mathlib.Core.Path.{◌≡◌, refl, sym, ap, ap₂, ◌∙◌}
use mathlib.Core.Bool.{Bool, true, false, ◌||◌, or-false}
use mathlib.Core.List.{List, [], ◌∷◌, ◌++◌}
use native.Mathlib.Nat.{pow-succ', pow-suc}
use native.Mathlib.Numerals.{add-one}
use native.Mathlib.Omega.{arith}
use lib.Arith.{mod-mul}
use lib.Bits.{bit_or, or_shr, or_mod, or_zero_r, or_shifted_r}
use lib.Dec.{eqb, ltb}
use lib.ListN.{length, take, drop, get_or, length-drop}
use lib.Pow.{pow_pos, shl_exact}
use lib.Seq.{take-suc, length-take-le, get_or-drop}
use borrow.Author.Tests.{eqb-true, eqb-false, eq-eqb, ne_eqb, lt-ltb}
use Rattle.slices.specs.Ranks.{among}
use Rattle.levels.specs.Record.{Rec}
use Rattle.words.specs.Stores.{bit, slots_at, part}
use Rattle.words.proofs.Parts.{part_cons}
use Rattle.words.proofs.Slots.{bits_high, bit_small}
use Rattle.shares.specs.Shares.{under, hide}
use Rattle.shares.specs.Shadow.{bit_if, known_in, number}

-- one bit up, and down again
pub half_or : (g b : ℕ) → bit_or g (2 * b) / 2 ≡ bit_or (g / 2) b
half_or g b = let e : 2 * b / 2 ≡ b = omega arith in or_shr g (2 * b) 1 ∙ ap (bit_or (g / 2)) e

-- the bits above the lowest
or_high : (m : ℕ) (b : Bool) (n : ℕ) → bit_or m (bit b + 2 * n) / 2 ≡ bit_or (m / 2) n
or_high m b n = or_shr m (bit b + 2 * n) 1 ∙ ap (bit_or (m / 2)) (bits_high b n)

-- the lowest bit
or_low : (m : ℕ) (b : Bool) (n : ℕ) → eqb (bit_or m (bit b + 2 * n) % 2) 1 ≡ (eqb (m % 2) 1 || b)
or_low m b n = ap (λ (x : ℕ). eqb x 1) (or_mod m (bit b + 2 * n) 1 ∙ ap (bit_or (m % 2)) (low b)) ∙ go (m % 2) b (omega arith)
  where
    low : (b : Bool) → (bit b + 2 * n) % 2 ≡ bit b
    low true = omega arith
    low false = omega arith

    go : (x : ℕ) (b : Bool) → x < 2 → eqb (bit_or x (bit b)) 1 ≡ (eqb x 1 || b)
    go zero true h = refl
    go zero false h = refl
    go (suc zero) true h = refl
    go (suc zero) false h = refl
    go (suc (suc x)) b h = absurd (omega arith)

-- the bits of the keys that are known hide their records
pub slots_or : (ws xs : List ℕ) (m k v n w : ℕ) → n ≤ w → k + w ≤ length ws → slots_at ws (bit_or m (number (known_in xs (take w (drop k ws))))) k v n ≡ hide xs (slots_at ws m k v n)
unfolding slots_at hide known_in number part
slots_or ws xs m k v zero w h l = refl
slots_or ws xs m k v (suc n) zero h l = absurd (omega arith)
slots_or ws xs m k v (suc n) (suc w) h l =
    let y = get_or ws k 0 in
    let t = take w (drop (suc k) ws) in
    let e : take (suc w) (drop k ws) ≡ y ∷ t = part_cons ws k w (omega arith) in
    let b = among y xs in
    let z = number (known_in xs t) in
    ap (λ (ks : List ℕ). slots_at ws (bit_or m (number (known_in xs ks))) k v (suc n)) e
    ∙ ap (λ (q : Bool). record { key = y; tombstone = q; pay = get_or ws v 0 } ∷ slots_at ws (bit_or m (bit b + 2 * z) / 2) (suc k) (suc v) n) (or_low m b z)
    ∙ ap (λ (q : ℕ). under xs (record { key = y; tombstone = eqb (m % 2) 1; pay = get_or ws v 0 }) ∷ slots_at ws q (suc k) (suc v) n) (or_high m b z)
    ∙ ap (λ (rs : List Rec). under xs (record { key = y; tombstone = eqb (m % 2) 1; pay = get_or ws v 0 }) ∷ rs) (slots_or ws xs (m / 2) (suc k) (suc v) n w (omega arith) (omega arith))

-- so many bits make no larger number
pub number_low : (bs : List Bool) → number bs < 2 ^ length bs
unfolding number
number_low [] = omega arith
number_low (b ∷ bs) = rw pow-succ' (omega (arith, number_low bs, bit_small b))

-- a bit for each key
pub known_length : (xs ks : List ℕ) → length (known_in xs ks) ≡ length ks
unfolding known_in
known_length xs [] = refl
known_length xs (k ∷ ks) = ap suc (known_length xs ks)

-- the lowest c bits are those of the first c keys
number_part : (xs l : List ℕ) (c w : ℕ) → c ≤ w → w ≤ length l → number (known_in xs (take w l)) % 2 ^ c ≡ number (known_in xs (take c l))
unfolding known_in number
number_part xs l zero w h p = omega arith
number_part xs l (suc c) zero h p = absurd (omega arith)
number_part xs [] (suc c) (suc w) h p = absurd (omega arith)
number_part xs (x ∷ l) (suc c) (suc w) h p =
    let b = among x xs in
    let z = number (known_in xs (take w l)) in
    let e : (bit b + 2 * z) / 2 ≡ z = bits_high b z in
    let q = bit_small b in
    let o : (bit b + 2 * z) % 2 ≡ bit b = omega arith in
    ap (λ (x : ℕ). (bit b + 2 * z) % x) (pow-suc 2 c) ∙ mod-mul (bit b + 2 * z) (pow_pos c) (omega arith) ∙ rw (e, o, number_part xs l c w (omega arith) (omega arith)) (omega arith)

-- the same one bit up
pub number_cut : (xs l : List ℕ) (c w : ℕ) → c ≤ w → w ≤ length l → 2 * number (known_in xs (take w l)) % (2 * 2 ^ c) ≡ 2 * number (known_in xs (take c l))
number_cut xs l c w h p =
    let z = number (known_in xs (take w l)) in
    let e : 2 * 2 ^ c ≡ 2 ^ c * 2 = omega arith in
    let a : 2 * z / 2 ≡ z = omega arith in
    let o : 2 * z % 2 ≡ 0 = omega arith in
    ap (λ (x : ℕ). 2 * z % x) e ∙ mod-mul (2 * z) (pow_pos c) (omega arith) ∙ rw (a, o, number_part xs l c w h p) (omega arith)

-- some bit is set if the key is one of those compared with it
pub number_some : (x : ℕ) (ks : List ℕ) → ltb 0 (2 * number (known_in (x ∷ []) ks)) ≡ among x ks
unfolding known_in number among
number_some x [] = refl
number_some x (k ∷ ks) = go (eqb k x) refl (number_some x ks)
  where
    twice : (z : ℕ) → ltb 0 (2 * (0 + 2 * z)) ≡ ltb 0 (2 * z)
    twice zero = refl
    twice (suc z) = lt-ltb 0 (2 * (0 + 2 * suc z)) (omega arith) ∙ sym (lt-ltb 0 (2 * suc z) (omega arith))

    go : (t : Bool) → eqb k x ≡ t → ltb 0 (2 * number (known_in (x ∷ []) ks)) ≡ among x ks → ltb 0 (2 * (bit (eqb x k || false) + 2 * number (known_in (x ∷ []) ks))) ≡ (t || among x ks)
    go true e ih = rw (eq-eqb x k (sym (eqb-true k x e))) (lt-ltb 0 (2 * (1 + 2 * number (known_in (x ∷ []) ks))) (omega arith))
    go false e ih = rw (ne_eqb x k (λ q. eqb-false k x e (sym q))) (twice (number (known_in (x ∷ []) ks)) ∙ ih)

-- one of a single key
among_one : (x y : ℕ) → among y (x ∷ []) ≡ eqb x y
unfolding among
among_one x y = or-false (eqb x y)

-- one key more is one bit more
pub known_more : (xs ks : List ℕ) (y : ℕ) → known_in xs (ks ++ (y ∷ [])) ≡ known_in xs ks ++ (among y xs ∷ [])
unfolding known_in
known_more xs [] y = refl
known_more xs (k ∷ ks) y = ap (λ (bs : List Bool). among k xs ∷ bs) (known_more xs ks y)

number_more : (bs : List Bool) (b : Bool) → number (bs ++ (b ∷ [])) ≡ number bs + bit_if b (2 ^ length bs)
unfolding number
number_more [] true = refl
number_more [] false = refl
number_more (c ∷ bs) true = rw (number_more bs true, pow-succ') (omega arith)
number_more (c ∷ bs) false = rw (number_more bs false) (omega arith)

-- and it is set above the others
pub bit_more : (bs : List Bool) (b : Bool) (k : ℕ) → length bs ≡ k → bit_or (2 * number bs) (bit_if b (2 * 2 ^ k)) ≡ 2 * number (bs ++ (b ∷ []))
bit_more bs false k e = or_zero_r (2 * number bs) ∙ rw (number_more bs false) (omega arith)
bit_more bs true k e =
    let p : 2 * 2 ^ k ≡ 1 * 2 ^ suc k = omega (arith, pow-succ' 2 k) in
    let q : number bs < 2 ^ k = rw e at (number_low bs) in
    ap (bit_or (2 * number bs)) p ∙ or_shifted_r 1 (suc k) (2 * number bs) (omega (arith, pow-succ' 2 k)) ∙ rw (number_more bs true, e) (omega arith)

-- a row with one word more
pub row_more : (l : List ℕ) (i : ℕ) → i < length l → take (i + 1) l ≡ take i l ++ (get_or l i 0 ∷ [])
row_more l i h = rw (add-one i) (take-suc l i 0 h)

-- the code's shift loses nothing
pub shift_exact : (k : ℕ) → k ≤ 16 → 2 * 2 ^ k % 2 ^ 32 ≡ 2 * 2 ^ k
shift_exact k h = shl_exact 2 k 32 (omega arith) (omega arith)

-- one turn of a loop that gathers bits
pub gather_more : (xs l : List ℕ) (k : ℕ) → k < length l → bit_or (2 * number (known_in xs (take k l))) (bit_if (among (get_or l k 0) xs) (2 * 2 ^ k)) ≡ 2 * number (known_in xs (take (k + 1) l))
gather_more xs l k h =
    bit_more (known_in xs (take k l)) (among (get_or l k 0) xs) k (known_length xs (take k l) ∙ length-take-le k l (omega arith))
    ∙ ap (λ (bs : List Bool). 2 * number bs) (sym (known_more xs (take k l) (get_or l k 0)) ∙ ap (known_in xs) (sym (row_more l k h)))

-- and of the one that compares words with a key
pub compare_more : (s : List ℕ) (at n x k bits r : ℕ) → at + n ≤ length s → n ≤ 16 → k < n → bits ≡ 2 * number (known_in (x ∷ []) (take k (drop at s))) → r ≡ bit_if (eqb x (get_or s (at + k) 0)) (2 * 2 ^ k % 2 ^ 32) → bit_or bits r ≡ 2 * number (known_in (x ∷ []) (take (k + 1) (drop at s)))
compare_more s at n x k bits r h w l e f =
    ap₂ bit_or e (f ∙ ap₂ bit_if (ap (eqb x) (sym (get_or-drop at s k 0)) ∙ sym (among_one x (get_or (drop at s) k 0))) (shift_exact k (omega arith)))
    ∙ gather_more (x ∷ []) (drop at s) k (rw length-drop (omega arith))
