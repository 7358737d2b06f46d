-- Unused slots and mark bits: what the code finds in the words is what the clauses say of slots.
use Prim.Native.Nat.{ℕ, zero, suc, ◌+◌, ◌-◌, ◌*◌, ◌/◌, ◌%◌, ◌^◌, ◌≤◌}
use mathlib.Core.Path.{◌≡◌, sym, ap, ◌∙◌, refl}
use mathlib.Core.Bool.{Bool, true, false, not, ◌&&◌, ◌||◌}
use mathlib.Core.List.{List}
use native.Mathlib.Decide.{ℕ_discrete}
use native.Mathlib.Nat.{div-lt_iff_lt-mul}
use native.Mathlib.Omega.{arith}
use borrow.Author.Tests.{eq-eqb, ne_eqb, ltb-true, lt-ltb, le-ltb}
use lib.Dec.{ltb, eqb}
use lib.ListN.{drop}
use lib.Pow.{pow-add, pow_pos}
use Rattle.levels.specs.Basics.{all}
use Rattle.levels.specs.Record.{has_tombstone}
use Rattle.words.specs.Stores.{word, slots_at}
use Rattle.words.specs.Form.{blank}
use Rattle.chunks.specs.Chunks.{zeros_at}
use Rattle.words.proofs.Slots.{slots_drop, shift_suc}
use Rattle.form.proofs.Tests.{test_same}

-- a word below 2^(n + j) is one whose bits from n on are below 2^j
shift_below : (m n j : ℕ) → ltb m (2 ^ (n + j)) ≡ ltb (m / 2 ^ n) (2 ^ j)
shift_below m n j = test_same (ltb m (2 ^ (n + j))) (ltb (m / 2 ^ n) (2 ^ j))
    (λ e. lt-ltb (m / 2 ^ n) (2 ^ j) ((div-lt_iff_lt-mul (pow_pos n)).1 (rw (sym p) (ltb-true m (2 ^ (n + j)) e))))
    (λ e. lt-ltb m (2 ^ (n + j)) (rw p ((div-lt_iff_lt-mul (pow_pos n)).0 (ltb-true (m / 2 ^ n) (2 ^ j) e))))
  where
    p : 2 ^ (n + j) ≡ 2 ^ j * 2 ^ n
    p = let q = pow-add 2 n j in omega arith

-- a word is 0 if its first bit is and the others are
halves_zero : (m : ℕ) → (not (eqb (m % 2) 1) && eqb (m / 2) 0) ≡ eqb m 0
halves_zero m = go (ℕ_discrete (m % 2) 1) (ℕ_discrete m 0)
  where
    go : Dec (m % 2 ≡ 1) → Dec (m ≡ 0) → (not (eqb (m % 2) 1) && eqb (m / 2) 0) ≡ eqb m 0
    go (yes a) (yes b) = absurd (omega arith)
    go (yes a) (no b) = rw (eq-eqb (m % 2) 1 a, ne_eqb m 0 b)
    go (no a) (yes b) = rw (ne_eqb (m % 2) 1 a, eq-eqb (m / 2) 0 (omega arith), eq-eqb m 0 b)
    go (no a) (no b) = rw (ne_eqb (m % 2) 1 a, ne_eqb (m / 2) 0 (λ e. omega arith), ne_eqb m 0 b)

-- n slots that are all 0, and no mark bit past them
slots_blank : (ws : List ℕ) (m k v n : ℕ) → (all blank (slots_at ws m k v n) && ltb m (2 ^ n)) ≡ (zeros_at ws k n && (zeros_at ws v n && eqb m 0))
unfolding slots_at zeros_at
slots_blank ws m k v zero = go (ℕ_discrete m 0)
  where
    go : Dec (m ≡ 0) → ltb m 1 ≡ eqb m 0
    go (yes e) = rw e
    go (no e) = rw (ne_eqb m 0 e, le-ltb m 1 (omega arith))
slots_blank ws m k v (suc n) =
    let p : suc n ≡ 1 + n = omega arith in
    let q : ltb m (2 ^ suc n) ≡ ltb (m / 2) (2 ^ n) = rw p (shift_below m 1 n) in
    rw (q, ← halves_zero m) (go (eqb (word ws k) 0) (not (eqb (m % 2) 1)) (eqb (word ws v) 0) _ _ _ _ _ (slots_blank ws (m / 2) (suc k) (suc v) n))
  where
    go : (a t z s l x y e : Bool) → (s && l) ≡ (x && (y && e)) → ((a && (t && z)) && s && l) ≡ ((a && x) && ((z && y) && (t && e)))
    go false t z s l x y e h = refl
    go true true true s l x y e h = h
    go true true false s l true y e h = refl
    go true true false s l false y e h = refl
    go true false z s l false y e h = refl
    go true false false s l true y e h = refl
    go true false true s l true true e h = refl
    go true false true s l true false e h = refl

-- the slots of a chunk from its count n on, and the bits of its mark word from B on
pub unused_is : (ws : List ℕ) (m k v n b : ℕ) → n ≤ b
    → (all blank (drop n (slots_at ws m k v b)) && ltb m (2 ^ b)) ≡ (zeros_at ws (k + n) (b - n) && (zeros_at ws (v + n) (b - n) && eqb (m / 2 ^ n) 0))
unused_is ws m k v n b h =
    let e : b ≡ n + (b - n) = omega arith in
    let q : ltb m (2 ^ b) ≡ ltb (m / 2 ^ n) (2 ^ (b - n)) = ap (λ (x : ℕ). ltb m (2 ^ x)) e ∙ shift_below m n (b - n) in
    rw (slots_drop ws m k v n b h, q) (slots_blank ws (m / 2 ^ n) (k + n) (v + n) (b - n))

-- "level h has no marks": no mark bit among n slots nor past them is a mark word of 0
pub unmarked_is : (ws : List ℕ) (m k v n : ℕ) → (not (has_tombstone (slots_at ws m k v n)) && eqb (m / 2 ^ n) 0) ≡ eqb m 0
unfolding slots_at
unmarked_is ws m k v zero = let e : m / 2 ^ 0 ≡ m = omega arith in rw e
unmarked_is ws m k v (suc n) =
    rw (shift_suc m n, ← halves_zero m, ← unmarked_is ws (m / 2) (suc k) (suc v) n) (go (eqb (m % 2) 1) _ _)
  where
    go : (t s e : Bool) → (not (t || s) && e) ≡ (not t && (not s && e))
    go true s e = refl
    go false s e = refl
