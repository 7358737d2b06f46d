-- Where a key stands among keys in a row.
use Rattle.std.specs.Prelude.{ℕ, suc, ◌≤◌, Bool, true, false, ◌||◌, List, [], ◌∷◌, ltb, eqb, Result, Ok, Err}

-- each key is at least `low`, and above the key before it
abbrev pub Rising : ℕ → List ℕ → Type 0
Rising low [] = Unit {0}
Rising low (x ∷ xs) = (low ≤ x) × Rising (suc x) xs

-- how many keys are below k
unfoldable pub count_below : ℕ → List ℕ → ℕ
count_below k [] = 0
count_below k (x ∷ xs) = elim (ltb x k) [ true ↦ suc (count_below k xs) | false ↦ count_below k xs ]

-- whether k is one of them
unfoldable pub among : ℕ → List ℕ → Bool
among k [] = false
among k (x ∷ xs) = eqb x k || among k xs

-- an entry that is there (`Ok`), or would stand there (`Err`)
abbrev pub ranked : Bool → ℕ → Result ℕ ℕ
ranked true i = Ok i
ranked false i = Err i

-- where k stands: so many keys are below it, and it is one of them or not
abbrev pub rank_of : ℕ → List ℕ → Result ℕ ℕ
rank_of k xs = ranked (among k xs) (count_below k xs)
