-- What is said of the blocks of a level: their sizes and the pair rule ("Form check", "Waste rules").
use Rattle.std.specs.Prelude.{ℕ, ◌+◌, ◌<◌, ◌≤◌, [], ◌∷◌}
use Rattle.levels.specs.Record.{Level, size}

-- "a listed block has 1 to B records"
abbrev pub Sized : ℕ → Level → Type 0
Sized B [] = Unit {0}
Sized B (b ∷ bs) = (1 ≤ size b) × (size b ≤ B) × Sized B bs

-- n records beside the first block of a level hold more than B with it
abbrev pub Apart : ℕ → ℕ → Level → Type 0
Apart B n [] = Unit {0}
Apart B n (e ∷ es) = B < size e + n

-- "Pair: two neighbouring blocks of a level hold more than B records together."
abbrev pub Pairs : ℕ → Level → Type 0
Pairs B [] = Unit {0}
Pairs B (b ∷ bs) = Apart B (size b) bs × Pairs B bs

-- a level that is well filled: the pair rule and the sizes
pub record Well (B : ℕ) (l : Level) : Type 0 where
  pub pairs : Pairs B l
  pub sized : Sized B l
