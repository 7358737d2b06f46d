-- Counts and bits of a buffer that grows.
use Prim.Native.Nat.{ℕ, zero, suc, ◌+◌, ◌-◌, ◌*◌, ◌/◌, ◌%◌, ◌^◌, ◌≤◌, ◌<◌}
use mathlib.Core.Path.{◌≡◌, ◌∙◌, refl, sym, ap}
use mathlib.Core.Bool.{Bool, true, false}
use mathlib.Core.List.{List, [], ◌∷◌, ◌++◌}
use native.Mathlib.Numerals.{add-one}
use native.Mathlib.Nat.{pow-suc, mul-le-mul_right}
use native.Mathlib.Omega.{arith}
use lib.ListN.{get_or, set, length, take, drop, length-drop}
use lib.Seq.{length-take-le, take-suc, get_or-drop, get_or-take}
use Rattle.slices.specs.Slices.{put_at}
use Rattle.slices.proofs.Put.{put_none, put_more}
use Rattle.blocks.specs.declared.Offsets.{Offsets}
use Rattle.blocks.specs.declared.Buffer.{Buffer}
use Rattle.blocks.specs.Blocks.{start_of, pushed, empty_buffer}
use Rattle.joins.specs.Joins.{Clean, appended, joined, Pullable, pulled, Lefts, rested_out}
use Rattle.stream.specs.declared.Progress.{Progress}
use Rattle.sides.specs.Sides.{last_size}
use Rattle.levels.specs.Basics.{if◌then◌otherwise◌}
use borrow.Author.Tests.{eqb-false}
use lib.Dec.{eqb}

pub push_clean : (a : Buffer) (k m v : ℕ) → m < 2 → Clean a → Clean (pushed a k m v)
push_clean a k m v h c =
    let b = c.bits in
    let e : m * 2 ^ a.n ≤ 1 * 2 ^ a.n = mul-le-mul_right (2 ^ a.n) (let w : m ≤ 1 = omega arith in w) in
    record { bits = rw (add-one a.n, pow-suc 2 a.n) (omega arith) }

module _ (b : ℕ) (xs : List ℕ) (at : ℕ) (a : Buffer) (c : Clean a) where
  pub appended_n : (j : ℕ) → (appended b xs at a j).n ≡ a.n + j
  unfolding appended
  appended_n zero = omega arith
  appended_n (suc j) = let e = appended_n j in omega arith

  pub appended_clean : (j : ℕ) → Clean (appended b xs at a j)
  unfolding appended
  appended_clean zero = c
  appended_clean (suc j) = push_clean (appended b xs at a j) _ _ _ (omega arith) (appended_clean j)

  pub appended_more : (j : ℕ) → pushed (appended b xs at a j) (get_or xs (at + 2 + j) 0) (get_or xs (at + 1) 0 / 2 ^ j % 2) (get_or xs (at + 2 + b + j) 0) ≡ appended b xs at a (j + 1)
  unfolding appended
  appended_more j = rw (add-one j)

module _ (a : Buffer) (keys pays : List ℕ) (marks : ℕ) (c : Clean a) where
  pub joined_n : (j : ℕ) → (joined a keys pays marks j).n ≡ a.n + j
  unfolding joined
  joined_n zero = omega arith
  joined_n (suc j) = let e = joined_n j in omega arith

  pub joined_clean : (j : ℕ) → Clean (joined a keys pays marks j)
  unfolding joined
  joined_clean zero = c
  joined_clean (suc j) = push_clean (joined a keys pays marks j) _ _ _ (omega arith) (joined_clean j)

  pub joined_more : (j : ℕ) → pushed (joined a keys pays marks j) (get_or keys j 0) (marks / 2 ^ j % 2) (get_or pays j 0) ≡ joined a keys pays marks (j + 1)
  unfolding joined
  joined_more j = rw (add-one j)

-- what is joined hangs on the records that are read
pub joined_same : (a : Buffer) (keys pays keys' pays' : List ℕ) (m n : ℕ) → ((j : ℕ) → j < n → (get_or keys j 0 ≡ get_or keys' j 0) × (get_or pays j 0 ≡ get_or pays' j 0))
    → joined a keys pays m n ≡ joined a keys' pays' m n
unfolding joined
joined_same a keys pays keys' pays' m zero h = refl
joined_same a keys pays keys' pays' m (suc n) h =
    let p = h n (omega arith) in
    rw (joined_same a keys pays keys' pays' m n (λ j l. h j (omega arith)), p.0, p.1)

-- the n first of them, as a part of their array
pub joined_firsts : (a : Buffer) (keys pays : List ℕ) (m n : ℕ) → joined a (take n keys) (take n pays) m n ≡ joined a keys pays m n
joined_firsts a keys pays m n = joined_same a (take n keys) (take n pays) keys pays m n (λ j l. (get_or-take n keys j 0 l, get_or-take n pays j 0 l))

-- the records of a block are its keys and payloads joined
pub joined_block : (b : ℕ) (xs : List ℕ) (at : ℕ) (a : Buffer) (n : ℕ)
    → joined a (take n (drop (at + 2) xs)) (take n (drop (at + 2 + b) xs)) (get_or xs (at + 1) 0) n ≡ appended b xs at a n
unfolding joined appended
joined_block b xs at a n = joined_firsts a (drop (at + 2) xs) (drop (at + 2 + b) xs) (get_or xs (at + 1) 0) n ∙ go n
  where
    go : (m : ℕ) → joined a (drop (at + 2) xs) (drop (at + 2 + b) xs) (get_or xs (at + 1) 0) m ≡ appended b xs at a m
    go zero = refl
    go (suc m) = rw (go m, get_or-drop (at + 2) xs m 0, get_or-drop (at + 2 + b) xs m 0)

pub empty_clean : Clean empty_buffer
empty_clean = record { bits = omega arith }

-- a last block that leaves room is there
pub last_pull : (z : Offsets) (xs out : List ℕ) (m n : ℕ) → 1 ≤ n → last_size z xs out m + n ≤ z.b → (1 ≤ m) × (get_or xs (start_of z (get_or out (m - 1) 0)) 0 ≡ last_size z xs out m)
unfolding last_size
last_pull z xs out m n l h = go (eqb m 0) refl h
  where
    go : (t : Bool) → eqb m 0 ≡ t → (if t then z.b otherwise get_or xs (start_of z (get_or out (m - 1) 0)) 0) + n ≤ z.b → (1 ≤ m) × (get_or xs (start_of z (get_or out (m - 1) 0)) 0 ≡ (if t then z.b otherwise get_or xs (start_of z (get_or out (m - 1) 0)) 0))
    go true e h = absurd (omega arith)
    go false e h = (omega (arith, eqb-false m 0 e), refl)

pub pull_able : (z : Offsets) (xs out : List ℕ) (w : Progress) (n : ℕ) → Lefts z xs out w → 1 ≤ n → w.buf.n ≤ n → last_size z xs out w.m + n ≤ z.b → Pullable z xs out w
pull_able z xs out w n k l g h =
    let p = last_pull z xs out w.m n l h in
    let e = p.1 in
    record { sized = k.sized; m_low = p.0; m_high = k.m_high; place = k.places (w.m - 1) (omega (arith, p.0)); few = omega arith }

module _ (z : Offsets) (xs out : List ℕ) (w : Progress) where
  pub pulled_n : (pulled z xs out w).buf.n ≡ get_or xs (start_of z (get_or out (w.m - 1) 0)) 0 + w.buf.n
  unfolding pulled
  pulled_n =
      let at = start_of z (get_or out (w.m - 1) 0) in
      let n = get_or xs at 0 in
      let a = appended z.b xs at empty_buffer n in
      joined_n a w.buf.keys w.buf.pays w.buf.marks (appended_clean z.b xs at empty_buffer empty_clean n) w.buf.n ∙ rw (appended_n z.b xs at empty_buffer empty_clean n) (omega arith)

  pub pulled_clean : Clean (pulled z xs out w).buf
  unfolding pulled
  pulled_clean =
      let at = start_of z (get_or out (w.m - 1) 0) in
      let n = get_or xs at 0 in
      joined_clean (appended z.b xs at empty_buffer n) w.buf.keys w.buf.pays w.buf.marks (appended_clean z.b xs at empty_buffer empty_clean n) w.buf.n

  pub pulled_y : (pulled z xs out w).y ≡ w.y
  unfolding pulled
  pulled_y = refl

-- the entries of a list copied in one go are those copied one by one
pub rested_put : (out : List ℕ) (m : ℕ) (ys : List ℕ) (from n : ℕ) → from + n ≤ length ys → m + n ≤ length out → put_at m (take n (drop from ys)) out ≡ rested_out out m ys from n
unfolding rested_out
rested_put out m ys from zero h l = put_none m out
rested_put out m ys from (suc n) h l =
    let row = take n (drop from ys) in
    let k : length row ≡ n = length-take-le n (drop from ys) (rw length-drop (omega arith)) in
    let v = get_or ys (from + n) 0 in
    let t : take (suc n) (drop from ys) ≡ row ++ (v ∷ []) = take-suc (drop from ys) n 0 (rw length-drop (omega arith)) ∙ ap (λ (w : ℕ). row ++ (w ∷ [])) (get_or-drop from ys n 0) in
    ap (λ (zs : List ℕ). put_at m zs out) t
    ∙ (sym (put_more m v row out (rw k (omega arith))) ∙ (ap (λ (i : ℕ). set (put_at m row out) (m + i) v) k ∙ ap (λ (zs : List ℕ). set zs (m + n) v) (rested_put out m ys from n (omega arith) (omega arith))))
