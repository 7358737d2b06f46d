-- How many blocks of a level are new, which have no place yet and are to be written, and how many are old.
use Prim.Native.Nat.{ℕ, suc, ◌+◌, ◌≤◌}
use mathlib.Core.Path.{◌≡◌, refl}
use mathlib.Core.List.{[], ◌∷◌, ◌++◌, reverse_aux}
use mathlib.Core.Option.{Option, none, some}
use native.Mathlib.Omega.{arith}
use lib.ListN.{length}
use Rattle.levels.specs.Record.{Block, Level}
use Rattle.levels.specs.Place.{places_of}
use Rattle.levels.specs.Taking.{fresh}

-- what the place of an old block weighs
abbrev pub weight : (ℕ → ℕ) → Block → ℕ
weight f b = elim b.place [ none ↦ 0 | some p ↦ f p ]

-- the places of a level, weighed
abbrev pub weights : (ℕ → ℕ) → Level → ℕ
weights f [] = 0
weights f (b ∷ bs) = weight f b + weights f bs

-- the old blocks of a level
abbrev pub olds : Level → ℕ
olds l = weights (λ p. 1) l

-- each block is new or old
pub count_all : (l : Level) → fresh l + olds l ≡ length l
count_all [] = refl
count_all (b ∷ bs) = go b.place (count_all bs)
  where
    go : (p : Option ℕ) → fresh bs + olds bs ≡ length bs → fresh (record { place = p; recs = b.recs } ∷ bs) + olds (record { place = p; recs = b.recs } ∷ bs) ≡ suc (length bs)
    go none ih = omega arith
    go (some p) ih = omega arith

-- the old blocks are part of the level
pub olds_most : (l : Level) → olds l ≤ length l
olds_most l = omega (arith, count_all l)

-- levels end to end
pub fresh_append : (k l : Level) → fresh (k ++ l) ≡ fresh k + fresh l
fresh_append [] l = omega arith
fresh_append (b ∷ bs) l = omega (arith, fresh_append bs l)

pub weights_append : (f : ℕ → ℕ) (k l : Level) → weights f (k ++ l) ≡ weights f k + weights f l
weights_append f [] l = omega arith
weights_append f (b ∷ bs) l = omega (arith, weights_append f bs l)

-- an old block lists its place
pub places_olds : (l : Level) → length (places_of l) ≡ olds l
places_olds [] = refl
places_olds (b ∷ bs) = go b.place (places_olds bs)
  where
    go : (p : Option ℕ) → length (places_of bs) ≡ olds bs → length (places_of (record { place = p; recs = b.recs } ∷ bs)) ≡ olds (record { place = p; recs = b.recs } ∷ bs)
    go none ih = omega arith
    go (some p) ih = omega arith

-- the same blocks turned round
pub reverse_fresh : (l m : Level) → fresh (reverse_aux l m) ≡ fresh l + fresh m
reverse_fresh [] m = omega arith
reverse_fresh (b ∷ bs) m = omega (arith, reverse_fresh bs (b ∷ m))

pub reverse_weights : (f : ℕ → ℕ) (l m : Level) → weights f (reverse_aux l m) ≡ weights f l + weights f m
reverse_weights f [] m = omega arith
reverse_weights f (b ∷ bs) m = omega (arith, reverse_weights f bs (b ∷ m))
