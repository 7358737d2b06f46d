-- Levels side by side, of which the first ones are past their next record.
use Prim.Native.Nat.{ℕ, zero, suc, ◌+◌, ◌<◌}
use mathlib.Core.Path.{◌≡◌, refl, sym, ap, ◌∙◌}
use mathlib.Core.List.{List, [], ◌∷◌, map}
use native.Mathlib.Omega.{arith}
use native.Mathlib.Numerals.{add-one}
use lib.ListN.{length, set, get_or, length-map, length-set}
use Rattle.std.specs.Prelude.{All}
use Rattle.std.proofs.lemmas.List.Elements.{All-set}
use Rattle.std.proofs.lemmas.List.{map-set, get_or-map}
use Rattle.levels.specs.Record.{Rec}
use Rattle.chunks.specs.Peel.{past}
use Rattle.walk.specs.declared.Cursor.{Cursor}
use Rattle.walk.specs.Walk.{Good, rest}

-- the first n lists past key k
abbrev pub stepped : ℕ → ℕ → List (List Rec) → List (List Rec)
stepped k zero xs = xs
stepped k (suc n) [] = []
stepped k (suc n) (x ∷ xs) = past k x ∷ stepped k n xs

pub stepped_length : (k n : ℕ) (xs : List (List Rec)) → length (stepped k n xs) ≡ length xs
stepped_length k zero xs = refl
stepped_length k (suc n) [] = refl
stepped_length k (suc n) (x ∷ xs) = ap suc (stepped_length k n xs)

-- one more
pub stepped_next : (k n : ℕ) (xs : List (List Rec)) (d : List Rec) → n < length xs → set (stepped k n xs) n (past k (get_or (stepped k n xs) n d)) ≡ stepped k (suc n) xs
stepped_next k zero [] d h = absurd (omega arith)
stepped_next k zero (x ∷ xs) d h = refl
stepped_next k (suc n) [] d h = absurd (omega arith)
stepped_next k (suc n) (x ∷ xs) d h = ap (λ (ys : List (List Rec)). past k x ∷ ys) (stepped_next k n xs d (omega arith))

-- all of them
pub stepped_all : (k n : ℕ) (xs : List (List Rec)) → n ≡ length xs → stepped k n xs ≡ map (past k) xs
stepped_all k zero [] h = refl
stepped_all k zero (x ∷ xs) h = absurd (omega arith)
stepped_all k (suc n) [] h = refl
stepped_all k (suc n) (x ∷ xs) h = ap (λ (ys : List (List Rec)). past k x ∷ ys) (stepped_all k n xs (omega arith))

-- one level past its next record, among levels of which those before it are
pub one_stepped : (ws : List ℕ) (k : ℕ) (xs : List (List Rec)) (cs : List Cursor) (n : ℕ) (c d : Cursor) → length cs ≡ 3 → All (Good ws) cs → map (rest ws) cs ≡ stepped k n xs → n < length cs → Good ws c → rest ws c ≡ past k (rest ws (get_or cs n d))
    → (length (set cs n c) ≡ 3) × (All (Good ws) (set cs n c) × (map (rest ws) (set cs n c) ≡ stepped k (n + 1) xs))
one_stepped ws k xs cs n c d m a e h g q =
    let z : List Rec = [] in
    let y : get_or (stepped k n xs) n z ≡ rest ws (get_or cs n d) = rw (← e) (get_or-map (rest ws) cs n d z h) in
    let l : length cs ≡ length (stepped k n xs) = sym (length-map cs (rest ws)) ∙ ap (λ (ys : List (List Rec)). length ys) e in
    (length-set cs n c ∙ m, (All-set (Good ws) cs n c g a, map-set (rest ws) cs n c ∙ rw (e, q, ← y, add-one n) (stepped_next k n xs z (omega (arith, l, stepped_length k n xs)))))
