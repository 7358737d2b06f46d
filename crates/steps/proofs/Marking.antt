-- The marks of lists are the places that the lists name.
use Prim.Native.Nat.{ℕ, zero, suc, ◌+◌, ◌≤◌, ◌<◌}
use mathlib.Core.Path.{◌≡◌, refl, sym, ap, ◌∙◌}
use mathlib.Core.Bool.{Bool, true, false, ◌||◌, or_assoc}
use mathlib.Core.List.{List, [], ◌∷◌, ◌++◌}
use native.Mathlib.Numerals.{add-one}
use native.Mathlib.Omega.{arith}
use lib.Dec.{eqb}
use lib.ListN.{length, take, get_or, replicate, length-set, length-replicate}
use lib.Seq.{take_all}
use Rattle.levels.specs.Basics.{member, each}
use Rattle.blocks.specs.Blocks.{Marks, marked}
use Rattle.merging.proofs.Settle.{marks_set}
use Rattle.lists.specs.Flat.{part_of}
use Rattle.lists.specs.Lists.{list_of, lists_of}
use Rattle.steps.specs.Running.{named, Markable}
use Rattle.levels.proofs.Each.{each_more}
use Rattle.levels.proofs.Lists.{get_d_replicate_self}

pub marked_length : (used : List Bool) (list : List ℕ) (n : ℕ) → length (marked used list n) ≡ length used
unfolding marked
marked_length used list zero = refl
marked_length used list (suc n) = length-set (marked used list n) (get_or list n 0) true ∙ marked_length used list n

-- one entry more of a list, before others
or_turn : (a b c : Bool) → (a || (b || c)) ≡ (b || (a || c))
or_turn true true c = refl
or_turn true false c = refl
or_turn false true c = refl
or_turn false false c = refl

member_next : (q n : ℕ) (list ps : List ℕ) → n < length list → member q (take (suc n) list ++ ps) ≡ (eqb q (get_or list n 0) || member q (take n list ++ ps))
member_next q n [] ps h = absurd (omega arith)
member_next q zero (p ∷ list) ps h = refl
member_next q (suc n) (p ∷ list) ps h = ap (λ (b : Bool). eqb q p || b) (member_next q n list ps (omega arith)) ∙ or_turn (eqb q p) (eqb q (get_or list n 0)) (member q (take n list ++ ps))

pub marked_marks : (used : List Bool) (list ps : List ℕ) (n : ℕ) → n ≤ length list → length used ≡ 8192 → ((i : ℕ) → i < n → get_or list i 0 < 8192) → Marks used ps → Marks (marked used list n) (take n list ++ ps)
unfolding marked
marked_marks used list ps zero h l f m q = m q
marked_marks used list ps (suc n) h l f m q =
    let k = marked_marks used list ps n (omega arith) l (λ i j. f i (omega arith)) m in
    marks_set (marked used list n) (take n list ++ ps) (get_or list n 0) (omega (arith, marked_length used list n, f n (omega arith))) k q ∙ sym (member_next q n list ps (omega arith))

-- the lists of the first i levels are marked
abbrev pub Marked : ℕ → List ℕ → List ℕ → List Bool → ℕ → Type 0
Marked h lists ns used i = Marks used (named (each (list_of h lists ns) 0 i)) × (length used ≡ 8192)

pub marks_first : Marks (replicate 8192 false) [] × (length (replicate 8192 false) ≡ 8192)
marks_first = (λ q. get_d_replicate_self 8192 q false, length-replicate 8192 false)

-- a list more is named: places may be named in any order
member_append : (q : ℕ) (xs ys : List ℕ) → member q (xs ++ ys) ≡ (member q xs || member q ys)
member_append q [] ys = refl
member_append q (x ∷ xs) ys = rw (member_append q xs ys, or_assoc)

named_more : (q : ℕ) (ls : List (List ℕ)) (l : List ℕ) → member q (l ++ named ls) ≡ member q (named (ls ++ (l ∷ [])))
named_more q [] l = refl
named_more q (k ∷ ls) l = rw (member_append q l (k ++ named ls), member_append q k (named ls), member_append q k (named (ls ++ (l ∷ []))), ← named_more q ls l, member_append q l (named ls)) (or_turn (member q l) (member q k) (member q (named ls)))

-- the list of level i + 1 is marked too
module _ (h : ℕ) (lists ns : List ℕ) (k : Markable h lists ns) (i : ℕ) (low : i < h) (list : List ℕ) (el : list ≡ take (get_or ns i 0) (part_of h lists (i + 1))) where
  list_is : list ≡ list_of h lists ns i
  list_is = el ∙ ap (λ (x : ℕ). take (get_or ns i 0) (part_of h lists x)) (add-one i)

  pub marks_low : (x : ℕ) → x < length list → get_or list x 0 < 8192
  marks_low = rw list_is (k.low i low)

  pub marks_more : (used used' : List Bool) → Marked h lists ns used i → used' ≡ marked used list (length list) → Marked h lists ns used' (i + 1)
  marks_more used used' m e =
      let xs : List ℕ = list_of h lists ns i in
      let ls : List (List ℕ) = each (list_of h lists ns) 0 i in
      let n = rw (take_all (length xs) xs (omega arith)) at (marked_marks used xs (named ls) (length xs) (omega arith) m.1 (k.low i low) m.0) in
      let f = list_of h lists ns in
      rw (e, list_is, add-one i) (λ q. n q ∙ named_more q ls xs ∙ ap (λ (x : List (List ℕ)). member q (named x)) (sym (each_more f i)), marked_length used xs (length xs) ∙ m.1)

-- all of them
pub marks_are : (h : ℕ) (lists ns : List ℕ) (i : ℕ) (used : List Bool) → i ≡ h → Marked h lists ns used i → Marks used (named (lists_of h lists ns)) × (length used ≡ 8192)
unfolding lists_of
marks_are h lists ns i used e m = rw e at m
