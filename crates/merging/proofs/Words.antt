-- What writing a block leaves, word by word.
use Prim.Native.Nat.{ℕ, zero, suc, ◌+◌, ◌*◌, ◌≤◌, ◌<◌}
use mathlib.Core.Path.{◌≡◌, ◌∙◌, refl}
use mathlib.Core.List.{List, [], ◌∷◌, ◌++◌}
use mathlib.Core.Logic.{◌≢◌}
use native.Mathlib.Decide.{dec_lt}
use native.Mathlib.Omega.{arith}
use lib.Arith.{digits_lt}
use lib.ListN.{length, get_or, set, take, length-append, length-take}
use lib.Seq.{get_or-set_same, get_or-set_other, sets, length-sets}
use Rattle.blocks.specs.declared.Offsets.{Offsets}
use Rattle.blocks.specs.declared.Buffer.{Buffer}
use Rattle.blocks.specs.Blocks.{Sized, start_of, written}
use Rattle.blocks.proofs.Laws.{in_store}
use Rattle.sides.specs.declared.Chunk.{Chunk}
use Rattle.merging.proofs.Blocks.{recs_from}

-- a word that is not among those stored
sets_out : (xs : List ℕ) (a : ℕ) (ys : List ℕ) (k : ℕ) → (a ≤ k → a + length ys ≤ k) → get_or (sets xs a ys) k 0 ≡ get_or xs k 0
sets_out xs a [] k h = refl
sets_out xs a (y ∷ ys) k h =
    sets_out (set xs a y) (suc a) ys k (λ l. let g = h (omega arith) in omega arith)
    ∙ get_or-set_other xs a k y 0 (λ e. let g = h (omega arith) in omega arith)

-- a store of the same length has the same layout
pub sized_on : (z : Offsets) (xs ys : List ℕ) → Sized z xs → length ys ≡ length xs → Sized z ys
sized_on z xs ys s e =
    record { b_low = s.b_low; b_high = s.b_high; places = s.places; base_high = s.base_high; marks_end = s.marks_end; keys_end = s.keys_end; pays_end = s.pays_end; words = e ∙ s.words }

pub written_length : (z : Offsets) (xs : List ℕ) (q : ℕ) (buf : Buffer) → length (written z xs q buf) ≡ length xs
unfolding written
written_length z xs q buf = length-sets xs (start_of z q) (buf.n ∷ buf.marks ∷ (take z.b buf.keys ++ take z.b buf.pays))

module _ (z : Offsets) (xs : List ℕ) (q : ℕ) (buf : Buffer) where
  -- a word that is not of place q
  pub written_out : (k : ℕ) → (start_of z q ≤ k → start_of z q + (2 + 2 * z.b) ≤ k) → get_or (written z xs q buf) k 0 ≡ get_or xs k 0
  unfolding written
  written_out k h =
      let ks = length-take z.b buf.keys in
      let vs = length-take z.b buf.pays in
      let n = length-append (take z.b buf.keys) (take z.b buf.pays) in
      sets_out xs (start_of z q) (buf.n ∷ buf.marks ∷ (take z.b buf.keys ++ take z.b buf.pays)) k (λ l. let g = h l in omega arith)

  module _ (s : Sized z xs) (h : q < z.p) where
    pub written_count : get_or (written z xs q buf) (start_of z q) 0 ≡ buf.n
    unfolding written
    written_count =
        sets_out (set xs (start_of z q) buf.n) (suc (start_of z q)) (buf.marks ∷ (take z.b buf.keys ++ take z.b buf.pays)) (start_of z q) (λ l. absurd (omega arith))
        ∙ get_or-set_same xs (start_of z q) buf.n 0 (omega (arith, in_store z xs s q 0 h (omega arith)))

-- the words of another place
pub written_other : (z : Offsets) (xs : List ℕ) (q : ℕ) (buf : Buffer) (p j : ℕ) → p ≢ q → j < 2 + 2 * z.b → get_or (written z xs q buf) (start_of z p + j) 0 ≡ get_or xs (start_of z p + j) 0
unfolding start_of
written_other z xs q buf p j n l = written_out z xs q buf (start_of z p + j) (apart (dec_lt p q))
  where
    apart : Dec (p < q) → start_of z q ≤ start_of z p + j → start_of z q + (2 + 2 * z.b) ≤ start_of z p + j
    apart (yes y) g = absurd (let d = digits_lt {q = p} {m = q} {r = j} {c = 2 + 2 * z.b} y l in omega arith)
    apart (no m) g = let d = digits_lt {q = q} {m = p} {r = 1 + 2 * z.b} {c = 2 + 2 * z.b} (omega arith) (omega arith) in omega arith

-- the words before the places
pub written_low : (z : Offsets) (xs : List ℕ) (q : ℕ) (buf : Buffer) (k : ℕ) → k < z.base → get_or (written z xs q buf) k 0 ≡ get_or xs k 0
unfolding start_of
written_low z xs q buf k h = written_out z xs q buf k (λ l. absurd (omega arith))

-- two stores that agree on a chunk's words hold the same records there
pub recs_agree : (xs ys : List ℕ) (c : Chunk) (j n : ℕ) → get_or xs c.marks 0 ≡ get_or ys c.marks 0
    → ((i : ℕ) → i < j + n → (get_or xs (c.keys + i) 0 ≡ get_or ys (c.keys + i) 0) × (get_or xs (c.pays + i) 0 ≡ get_or ys (c.pays + i) 0)) → recs_from xs c j n ≡ recs_from ys c j n
unfolding recs_from
recs_agree xs ys c j zero m f = refl
recs_agree xs ys c j (suc n) m f = let k = f j (omega arith) in rw (m, k.0, k.1, recs_agree xs ys c (suc j) n m (λ i h. f i (omega arith)))
