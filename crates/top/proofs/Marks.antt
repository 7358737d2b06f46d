-- Mark words: one bit set, and the mark words of pages when one record changes.
use Prim.Native.Nat.{ℕ, zero, suc, ◌+◌, ◌-◌, ◌*◌, ◌/◌, ◌%◌, ◌^◌, ◌≤◌, ◌<◌}
use mathlib.Core.Path.{◌≡◌, ap, ◌∙◌}
use mathlib.Core.Bool.{Bool, true, false}
use mathlib.Core.List.{List, [], ◌∷◌}
use native.Mathlib.Nat.{pow-succ', div-one, mul_left_comm}
use native.Mathlib.Omega.{arith}
use lib.Dec.{eqb}
use lib.Pow.{pow_mono}
use lib.ListN.{length, take, drop, get_or, set, length-drop, length-take, get_or-map}
use lib.Seq.{take-set-lt, take-set-le, drop-set-lt, drop-set-add, drop-drop, length-take-le, get_or-take, get_or-drop}
use Rattle.levels.specs.Record.{Rec}
use Rattle.words.specs.Stores.{bit, mark_word}
use Rattle.words.proofs.Slots.{shift_suc, bits_high, bit_of, mark_bit, mark_low, blank_rec}
use Rattle.words.proofs.Top.{marks_of}
use Rattle.top.specs.Top.{set_bit}

bit_rest : (b : Bool) (m : ℕ) → (bit b + 2 * m) % 2 ≡ bit b
bit_rest true m = omega arith
bit_rest false m = omega arith

pub mark_set : (rs : List Rec) (j : ℕ) (r : Rec) → j < length rs → mark_word (set rs j r) ≡ set_bit (mark_word rs) j r.tombstone
unfolding mark_word set_bit
mark_set [] j r h = absurd (omega arith)
mark_set (x ∷ rs) zero r h = rw (bits_high x.tombstone (mark_word rs))
mark_set (x ∷ rs) (suc j) r h =
    rw (bit_rest x.tombstone (mark_word rs), bits_high x.tombstone (mark_word rs), mark_set rs j r (omega arith))

doubled : (x w p h t r : ℕ) → x + w * p ≡ h + t * p → r + 2 * x + w * (2 * p) ≡ r + 2 * h + t * (2 * p)
doubled x w p h t r e = rw (mul_left_comm w 2 p, mul_left_comm t 2 p) (omega (arith, e))

-- a bit that is set comes and the one that was there goes
bit_moves : (m j : ℕ) (t : Bool) → set_bit m j t + bit (eqb (m / 2 ^ j % 2) 1) * 2 ^ j ≡ m + bit t * 2 ^ j
unfolding set_bit
bit_moves m zero t = rw (div-one, bit_of m) (omega arith)
bit_moves m (suc j) t =
    let w = bit (eqb (m / 2 ^ suc j % 2) 1) in
    let k : set_bit (m / 2) j t + w * 2 ^ j ≡ m / 2 + bit t * 2 ^ j = rw (← shift_suc m j) at (bit_moves (m / 2) j t) in
    let n : m % 2 + 2 * (m / 2) ≡ m = omega arith in
    rw (n, ← pow-succ' 2 j) at (doubled (set_bit (m / 2) j t) w (2 ^ j) (m / 2) (bit t) (m % 2) k)

bit_on : (m j : ℕ) → eqb (m / 2 ^ j % 2) 1 ≡ false → set_bit m j true ≡ m + 2 ^ j
bit_on m j e = omega (arith, rw e at (bit_moves m j true))

pub bit_off : (m j : ℕ) → eqb (m / 2 ^ j % 2) 1 ≡ true → set_bit m j false + 2 ^ j ≡ m
bit_off m j e = omega (arith, rw e at (bit_moves m j false))

pub bit_kept_on : (m j : ℕ) → eqb (m / 2 ^ j % 2) 1 ≡ true → set_bit m j true ≡ m
bit_kept_on m j e = omega (arith, rw e at (bit_moves m j true))

pub bit_kept_off : (m j : ℕ) → eqb (m / 2 ^ j % 2) 1 ≡ false → set_bit m j false ≡ m
bit_kept_off m j e = omega (arith, rw e at (bit_moves m j false))

-- the mark word of page q
pub marks_at : (B n q : ℕ) (S : List Rec) → q < n → get_or (marks_of B n S) q 0 ≡ mark_word (take B (drop (q * B) S))
unfolding marks_of
marks_at B zero q S h = absurd (omega arith)
marks_at B (suc n) zero S h = let z : 0 * B ≡ 0 = omega arith in rw z
marks_at B (suc n) (suc q) S h =
    let z : suc q * B ≡ B + q * B = omega arith in
    marks_at B n q (drop B S) (omega arith) ∙ rw (z, drop-drop)

-- bit b of the mark word of page q belongs to record q × B + b
pub marks_bit : (B n q b : ℕ) (S : List Rec) → q < n → b < B → q * B + b < length S → eqb (get_or (marks_of B n S) q 0 / 2 ^ b % 2) 1 ≡ (get_or S (q * B + b) blank_rec).tombstone
marks_bit B n q b S h l i =
    let p = take B (drop (q * B) S) in
    let f : get_or (drop (q * B) S) b blank_rec ≡ get_or S (q * B + b) blank_rec = get_or-drop (q * B) S b blank_rec in
    rw (marks_at B n q S h)
    (mark_bit p b ∙ get_or-map (λ (r : Rec). r.tombstone) p b blank_rec ∙ ap (λ (r : Rec). r.tombstone) (get_or-take B (drop (q * B) S) b blank_rec l ∙ f))

-- a record that changes changes its bit of its page's mark word
pub marks_set : (B n q b : ℕ) (S : List Rec) (r : Rec) → q < n → b < B → n * B ≤ length S → marks_of B n (set S (q * B + b) r) ≡ set (marks_of B n S) q (set_bit (get_or (marks_of B n S) q 0) b r.tombstone)
unfolding marks_of
marks_set B zero q b S r h l i = absurd (omega arith)
marks_set B (suc n) zero b S r h l i =
    let z : 0 * B + b ≡ b = omega arith in
    rw (z, take-set-lt B S b r l, drop-set-lt B S b r l, mark_set (take B S) b r (rw (length-take-le B S (omega arith)) l))
marks_set B (suc n) (suc q) b S r h l i =
    let z : suc q * B + b ≡ B + (q * B + b) = omega arith in
    rw (z, take-set-le B S (B + (q * B + b)) r (omega arith), drop-set-add B S (q * B + b) r, marks_set B n q b (drop B S) r (omega arith) l (rw length-drop (omega arith)))

-- a mark word of a page has no bit from B on
pub marks_low : (B n q : ℕ) (S : List Rec) → q < n → get_or (marks_of B n S) q 0 < 2 ^ B
marks_low B n q S h =
    rw (marks_at B n q S h) (mark_low B (take B (drop (q * B) S)) (rw length-take (omega arith)))

-- the code's word of bit j alone, added and taken away
pub one_bit : (j : ℕ) → j < 16 → (1 * 2 ^ j % 4294967296 ≡ 2 ^ j) × (2 ^ j ≤ 32768)
one_bit j h =
    let l : 2 ^ j ≤ 32768 = pow_mono {i = j} {j = 15} (omega arith) in
    (omega arith, l)

pub bit_comes : (m j : ℕ) → j < 16 → eqb (m / 2 ^ j % 2) 1 ≡ false → m + 1 * 2 ^ j % 4294967296 ≡ set_bit m j true
bit_comes m j h e = omega (arith, one_bit j h, bit_on m j e)

pub bit_goes : (m j : ℕ) → j < 16 → eqb (m / 2 ^ j % 2) 1 ≡ true → m - 1 * 2 ^ j % 4294967296 ≡ set_bit m j false
bit_goes m j h e = omega (arith, one_bit j h, bit_off m j e)
