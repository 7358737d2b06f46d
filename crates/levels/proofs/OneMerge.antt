-- Document 02, card 5: "One merge, or none." The merges into level 1 that a put or delete makes.
use Prim.Native.Nat.{ℕ, suc, ◌+◌, ◌*◌, ◌≤◌}
use mathlib.Core.Path.{◌≡◌, refl, sym, ◌∙◌, ap, subst}
use mathlib.Core.Bool.{Bool, true, false, not, ◌&&◌, ◌||◌}
use mathlib.Core.List.{List, [], ◌∷◌}
use mathlib.Core.Logic.{◌≢◌}
use native.Mathlib.Omega.{arith}
use lib.Dec.{ltb, eqb}
use lib.ListN.{length, take}
use borrow.Author.Tests.{lt-ltb, le-ltb, eqb-true, eqb-false, eq-eqb, ne_eqb}
use Rattle.geometry.specs.declared.Geometry.{Geometry}
use Rattle.geometry.specs.Geometry.{Valid, top_capacity_of, window_of}
use Rattle.geometry.proofs.Laws.{window_first}
use Rattle.levels.specs.Basics.{if◌then◌otherwise◌, is_some, total}
use Rattle.levels.specs.Map.{find}
use Rattle.levels.specs.Store.{Store}
use Rattle.levels.specs.Call.{Merge}
use Rattle.levels.specs.Put.{merges_for}
use Rattle.levels.specs.Count.{blocks_merged, total_into}
use Rattle.levels.specs.Every.{Every, First, Later}
use Rattle.levels.specs.Sound.{Fits, Sound}
use Rattle.levels.specs.InCall.{MergeFacts, Deepest}
use Rattle.levels.proofs.Every.{every_turn}
use Rattle.levels.proofs.MergeBounds.{top_writes_growth}
use Rattle.levels.proofs.CallMerges.{for_none, for_full, from_is, call_merges, first_out, later_deepest}

-- Of the merges of a list the first is into level 1, and no later one is.
pub record OneFirst (ms : List Merge) : Type 0 where
  pub first : First (λ m. suc m.level ≡ 1) ms
  pub later : Later (λ m. suc m.level ≢ 1) ms

-- sums over the merges into level 1: of merges that are not, and of the first alone
into_none : (f : Merge → ℕ) (ms : List Merge) → Every (λ m. suc m.level ≢ 1) ms → total_into 1 f ms ≡ 0
into_none f [] h = refl
into_none f (m ∷ ms) h = rw (ne_eqb (suc m.level) 1 h.0) (omega (arith, into_none f ms h.1))

pub into_first : (f : Merge → ℕ) (ms : List Merge) → OneFirst ms → total_into 1 f ms ≡ total f (take 1 ms)
into_first f [] h = refl
into_first f (m ∷ ms) h = rw (eq-eqb (suc m.level) 1 h.first) (ap (λ (n : ℕ). f m + n) (into_none f ms h.later))

-- Card 5's reading 4: merges into level 1 are 1 exactly if the list is not empty.
pub none_empty : (ms : List Merge) → OneFirst ms → total_into 1 (λ m. 1) ms ≡ 0 → ms ≡ []
none_empty [] h e = refl
none_empty (m ∷ ms) h e = absurd (omega (arith, into_first (λ (x : Merge). 1) (m ∷ ms) h, e))

pub empty_none : (ms : List Merge) → ms ≡ [] → total_into 1 (λ m. 1) ms ≡ 0
empty_none ms e = ap (total_into 1 (λ (m : Merge). 1)) e

pub filled_one : (m : Merge) (ms : List Merge) → OneFirst (m ∷ ms) → total_into 1 (λ m. 1) (m ∷ ms) ≡ 1
filled_one m ms h = into_first (λ (x : Merge). 1) (m ∷ ms) h

-- so of every list whose first merge is out of level 0 and whose later ones are out of the deepest level over its capacity
pub one_first : (g : Geometry) (ms : List Merge) → First (λ m. m.level ≡ 0) ms → Later (Deepest g) ms → OneFirst ms
one_first g [] a b = record { first = tt; later = tt }
one_first g (m ∷ ms) a b = record { first = ap suc a; later = every_turn (Deepest g) (λ (x : Merge). suc x.level ≢ 1) ms (λ x d e. omega (arith, e, d.listed)) b }

-- a level 0 of c records that is full and has not the key, against one that has it or has room: n is the most that it takes
pub full_without : (has : Bool) (c n : ℕ) → c ≤ n → ◌≡◌ {A = ℕ} (if eqb c n && not has then 1 otherwise 0) (if has || ltb c n then 0 otherwise 1)
full_without has c n h = go has (eqb c n) refl
  where
    go : (has t : Bool) → eqb c n ≡ t → ◌≡◌ {A = ℕ} (if t && not has then 1 otherwise 0) (if has || ltb c n then 0 otherwise 1)
    go true true e = refl
    go true false e = refl
    go false true e = rw (le-ltb c n (omega (arith, eqb-true c n e)))
    go false false e = let d = eqb-false c n e in rw (lt-ltb c n (omega arith))

module _ (g : Geometry) (s : Store) (v : Valid g) (f : Fits g s) (o : Sound g s) (k : ℕ) where
  pub call_one_first : OneFirst (merges_for g s k)
  call_one_first = one_first g (merges_for g s k) (first_out g s v f o k) (later_deepest g s v f o k)

  -- "exactly one if level 0 holds K(0) × B records and the key isn't among them, and none otherwise"
  pub call_one : total_into 1 (λ m. 1) (merges_for g s k) ≡ (if eqb (length s.top) (top_capacity_of g) && not (is_some (find k s.top)) then 1 otherwise 0)
  call_one = go (is_some (find k s.top) || ltb (length s.top) (top_capacity_of g)) refl ∙ sym (full_without (is_some (find k s.top)) (length s.top) (top_capacity_of g) f.top_fits)
    where
      go : (t : Bool) → (is_some (find k s.top) || ltb (length s.top) (top_capacity_of g)) ≡ t → total_into 1 (λ m. 1) (merges_for g s k) ≡ (if t then 0 otherwise 1)
      go true e = empty_none (merges_for g s k) (for_none g s k e)
      go false e = let m = for_full g s k e ∙ from_is g s in ap (total_into 1 (λ (x : Merge). 1)) m ∙ filled_one _ _ (subst OneFirst m call_one_first)

  -- the first, out of level 0, writes at most (G + 1) × w blocks
  pub call_first_writes : First (λ m. blocks_merged m ≤ (g.g + 1) * g.w) (merges_for g s k)
  call_first_writes = go (merges_for g s k) (first_out g s v f o k) (call_merges g s v f o k)
    where
      go : (ms : List Merge) → First (λ m. m.level ≡ 0) ms → Every (MergeFacts g s) ms → First (λ m. blocks_merged m ≤ (g.g + 1) * g.w) ms
      go [] a b = tt
      go (m ∷ ms) a b =
          let w : m.window ≡ g.w = b.0.window_is ∙ ap (window_of g) a ∙ window_first g in
          omega (arith, top_writes_growth g s m v b.0 a, ap (λ (n : ℕ). (g.g + 1) * n) w)
