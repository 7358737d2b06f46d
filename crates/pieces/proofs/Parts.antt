-- Parts of a list of words: n words from word a on. How parts of parts, of joined lists and of padded lists are found.
use Prim.Native.Nat.{ℕ, zero, suc, ◌+◌, ◌-◌, ◌≤◌, ◌<◌}
use mathlib.Core.Path.{◌≡◌, refl, sym, ap, ◌∙◌}
use mathlib.Core.Bool.{Bool, true, and-eq-true_iff}
use mathlib.Core.List.{List, [], ◌∷◌, ◌++◌}
use native.Mathlib.Nat.{suc-add, zero-add, suc-sub-suc, add-zero}
use native.Mathlib.Omega.{arith}
use lib.ListN.{length, take, drop, get_or, replicate, length-append, length-drop, length-replicate, take-append-drop}
use lib.Seq.{take_at, drop_at, get_or-take, get_or-drop, take-nil, take-take, drop-drop, take-add, drop-cons, length-take-le, take_all, drop-append_seam}
use Rattle.levels.specs.Basics.{all}
use Rattle.levels.proofs.Lists.{get_d_replicate_self}
use Rattle.pieces.specs.Pieces.{pad, part}

pub part_length : (ws : List ℕ) (a n : ℕ) → a + n ≤ length ws → length (part ws a n) ≡ n
unfolding part
part_length ws a n h = length-take-le n (drop a ws) (rw length-drop (omega arith))

-- a word of a part is a word of the whole
pub part_word : (ws : List ℕ) (a n j : ℕ) → j < n → get_or (part ws a n) j 0 ≡ get_or ws (a + j) 0
unfolding part
part_word ws a n j h = get_or-take n (drop a ws) j 0 h ∙ get_or-drop a ws j 0

-- the part that stands between two others
pub part_mid : (p x q : List ℕ) (a n : ℕ) → length p ≡ a → length x ≡ n → part (p ++ (x ++ q)) a n ≡ x
unfolding part
part_mid p x q a n e f = ap (take n) (drop_at p (x ++ q) a e) ∙ take_at x q n f

pub part_last : (p x : List ℕ) (a n : ℕ) → length p ≡ a → length x ≡ n → part (p ++ x) a n ≡ x
unfolding part
part_last p x a n e f = ap (take n) (drop_at p x a e) ∙ take_all n x (omega arith)

drop_take : {A : Type 0} (b m : ℕ) (l : List A) → drop b (take (b + m) l) ≡ take m (drop b l)
drop_take zero m l = rw zero-add
drop_take (suc b) m [] = rw suc-add (sym (take-nil m))
drop_take (suc b) m (x ∷ l) = rw suc-add (drop_take b m l)

-- a part of a part
pub part_part : (ws : List ℕ) (a n b m : ℕ) → b + m ≤ n → part (part ws a n) b m ≡ part ws (a + b) m
unfolding part
part_part ws a n b m h =
    let e : n ≡ b + (n - b) = omega arith in
    rw e (ap (take m) (drop_take b (n - b) (drop a ws)) ∙ take-take m (n - b) (drop b (drop a ws)) (omega arith) ∙ ap (take m) (drop-drop b a ws))

-- a part in two
pub part_split : (ws : List ℕ) (a n m : ℕ) → part ws a (n + m) ≡ part ws a n ++ part ws (a + n) m
unfolding part
part_split ws a n m = take-add n m (drop a ws) ∙ rw drop-drop

-- one word more in front
pub part_cons : (ws : List ℕ) (a n : ℕ) → a < length ws → part ws a (suc n) ≡ get_or ws a 0 ∷ part ws (suc a) n
unfolding part
part_cons ws a n h = rw (drop-cons ws a 0)

-- a part of zeros
pub part_zeros : (ws : List ℕ) (n a : ℕ) → a + n ≤ length ws → ((j : ℕ) → j < n → get_or ws (a + j) 0 ≡ 0) → part ws a n ≡ replicate n 0
unfolding part
part_zeros ws zero a h f = refl
part_zeros ws (suc n) a h f =
    let z : get_or ws a 0 ≡ 0 = rw add-zero at (f 0 (omega arith)) in
    rw (part_cons ws a n (omega arith), z, part_zeros ws n (suc a) (omega arith) (λ j l. let e : a + suc j ≡ suc a + j = omega arith in rw e at (f (suc j) (omega arith))))

-- a padded list
pub pad_length : (n : ℕ) (xs : List ℕ) → length xs ≤ n → length (pad n xs) ≡ n
pad_length n xs h = simp (length-append, length-replicate) (omega arith)

pub pad_cons : (n x : ℕ) (xs : List ℕ) → pad (suc n) (x ∷ xs) ≡ x ∷ pad n xs
pad_cons n x xs = rw suc-sub-suc

-- padding does not show in a word that is read
pub pad_word : (n : ℕ) (xs : List ℕ) (i : ℕ) → get_or (pad n xs) i 0 ≡ get_or xs i 0
pad_word n xs i = go xs i (n - length xs)
  where
    go : (xs : List ℕ) (i m : ℕ) → get_or (xs ++ replicate m 0) i 0 ≡ get_or xs i 0
    go [] i m = get_d_replicate_self m i 0
    go (x ∷ xs) zero m = refl
    go (x ∷ xs) (suc i) m = go xs i m

-- Padding with any z that a test tells from all else.
module _ {A : Type 0} (t : A → Bool) (z : A) where
  -- z over and over passes, and so does what follows a list that is padded
  pub padding_pass : t z ≡ true → (n : ℕ) → all t (replicate n z) ≡ true
  padding_pass p zero = refl
  padding_pass p (suc n) = rw (p, padding_pass p n)

  pub pad_pass : t z ≡ true → (K : ℕ) (xs : List A) → all t (drop (length xs) (xs ++ replicate (K - length xs) z)) ≡ true
  pad_pass p K xs = rw (drop-append_seam xs (replicate (K - length xs) z)) (padding_pass p (K - length xs))

  -- what passes is z over and over, and after the first n elements it is the padding of those n
  pub padding_is : ((x : A) → t x ≡ true → x ≡ z) → (xs : List A) → all t xs ≡ true → xs ≡ replicate (length xs) z
  padding_is f [] e = refl
  padding_is f (x ∷ xs) e = let k = (and-eq-true_iff (t x) (all t xs)).0 e in rw (f x k.0, ← padding_is f xs k.1)

  pub unpadded : ((x : A) → t x ≡ true → x ≡ z) → (K n : ℕ) (xs : List A) → length xs ≡ K → n ≤ K → all t (drop n xs) ≡ true → take n xs ++ replicate (K - length (take n xs)) z ≡ xs
  unpadded f K n xs l h e =
      let a : length (take n xs) ≡ n = length-take-le n xs (omega arith) in
      rw (a, ← l, ← length-drop n xs, ← padding_is f (drop n xs) e) (take-append-drop n xs)
