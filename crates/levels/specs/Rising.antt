-- "keys rise strictly in each level", as a fact.
use Rattle.std.specs.Prelude.{ℕ, suc, ◌<◌, ◌≤◌, List, [], ◌∷◌}
use Rattle.levels.specs.Record.{Rec}

-- each key is at least `low`, and above the key before it
abbrev pub Rising : ℕ → List Rec → Type 0
Rising low [] = Unit {0}
Rising low (r ∷ rs) = (low ≤ r.key) × Rising (suc r.key) rs

-- every key is below `high`
abbrev pub Below : ℕ → List Rec → Type 0
Below high [] = Unit {0}
Below high (r ∷ rs) = (r.key < high) × Below high rs

-- every row is sorted
abbrev pub Risings : List (List Rec) → Type 0
Risings [] = Unit {0}
Risings (l ∷ ls) = Rising 0 l × Risings ls
