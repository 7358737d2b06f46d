-- The rows of a store (level 0, then the levels from 1 on) when one row, or two neighbours, change: what is looked up.
use Prim.Native.Nat.{ℕ, zero, suc, ◌<◌}
use mathlib.Core.Path.{◌≡◌, sym, ◌∙◌, ap}
use mathlib.Core.List.{List, [], ◌∷◌}
use mathlib.Core.Option.{Option}
use native.Mathlib.Omega.{arith}
use lib.ListN.{length, get_or, set}
use Rattle.levels.specs.Basics.{or_else}
use Rattle.levels.specs.Record.{Rec}
use Rattle.levels.specs.Map.{find, decides, present, look_up}
use Rattle.levels.specs.Rising.{Rising, Risings}
use Rattle.levels.proofs.Basics.{or_assoc, or_none}
use Rattle.levels.proofs.View.{present_or}

-- a row of sorted rows is sorted, and a sorted row may replace it
pub risings_at : (ls : List (List Rec)) (j : ℕ) → Risings ls → Rising 0 (get_or ls j [])
risings_at [] j r = tt
risings_at (l ∷ ls) zero r = r.0
risings_at (l ∷ ls) (suc j) r = risings_at ls j r.1

pub risings_set : (ls : List (List Rec)) (j : ℕ) (l : List Rec) → Rising 0 l → Risings ls → Risings (set ls j l)
risings_set [] j l v r = tt
risings_set (a ∷ ls) zero l v r = (v, r.1)
risings_set (a ∷ ls) (suc j) l v r = (r.0, risings_set ls j l v r.1)

-- two neighbours that together decide as before: so do all rows
pub decides_pair : (k : ℕ) (ls : List (List Rec)) (j : ℕ) (u l : List Rec) → suc j < length ls
    → or_else (find k u) (find k l) ≡ or_else (find k (get_or ls j [])) (find k (get_or ls (suc j) [])) → decides k (set (set ls j u) (suc j) l) ≡ decides k ls
unfolding decides
decides_pair k [] j u l h e = absurd (omega arith)
decides_pair k (a ∷ []) j u l h e = absurd (omega arith)
decides_pair k (a ∷ b ∷ ls) zero u l h e =
    sym (or_assoc (find k u) (find k l) (decides k ls)) ∙ ap (λ (o : Option Rec). or_else o (decides k ls)) e ∙ or_assoc (find k a) (find k b) (decides k ls)
decides_pair k (a ∷ b ∷ ls) (suc j) u l h e = ap (λ (o : Option Rec). or_else (find k a) o) (decides_pair k (b ∷ ls) j u l (omega arith) e)

-- so a lookup is the same
pub look_up_pair : (k : ℕ) (ls : List (List Rec)) (j : ℕ) (u l : List Rec) → suc j < length ls
    → or_else (find k u) (find k l) ≡ or_else (find k (get_or ls j [])) (find k (get_or ls (suc j) [])) → look_up k (set (set ls j u) (suc j) l) ≡ look_up k ls
unfolding look_up
look_up_pair k ls j u l h e = ap present (decides_pair k ls j u l h e)

-- The last two rows: it is enough that the same is present in them. (Above the last two it is not: a tombstone dropped there would uncover a record below.)
pub look_up_last : (k : ℕ) (ls : List (List Rec)) (j : ℕ) (u l : List Rec) → suc (suc j) ≡ length ls
    → present (or_else (find k u) (find k l)) ≡ present (or_else (find k (get_or ls j [])) (find k (get_or ls (suc j) []))) → look_up k (set (set ls j u) (suc j) l) ≡ look_up k ls
unfolding look_up decides
look_up_last k [] j u l h e = absurd (omega (arith, h))
look_up_last k (a ∷ []) j u l h e = absurd (omega (arith, h))
look_up_last k (a ∷ b ∷ []) zero u l h e = rw (or_none (find k l), or_none (find k b)) e
look_up_last k (a ∷ b ∷ c ∷ ls) zero u l h e = absurd (omega (arith, h))
look_up_last k (a ∷ b ∷ ls) (suc j) u l h e = present_or (find k a) (decides k (set (set (b ∷ ls) j u) (suc j) l)) (decides k (b ∷ ls)) (look_up_last k (b ∷ ls) j u l (omega (arith, h)) e)
