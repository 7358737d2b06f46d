-- The deepest level over its capacity, by the lengths of the lists.
use Prim.Native.Nat.{ℕ, zero, suc, ◌≤◌, ◌<◌}
use mathlib.Core.Path.{◌≡◌, refl, sym, ap, ◌∙◌}
use mathlib.Core.Bool.{true, false}
use mathlib.Core.List.{List, []}
use native.Mathlib.Omega.{arith}
use borrow.Author.Tests.{lt-ltb, le-ltb}
use lib.Dec.{ltb}
use lib.ListN.{length, get_or}
use Rattle.geometry.specs.declared.Geometry.{Geometry}
use Rattle.geometry.specs.Geometry.{capacity_of}
use Rattle.levels.specs.Store.{Store}
use Rattle.levels.specs.Call.{deepest_over}
use Rattle.std.specs.Prelude.{Option, Some, None, is_some, unwrap_or}
use Rattle.std.proofs.lemmas.Bool.{true≢false}
use Rattle.cascade.specs.Cascade.{deepest_for, numbered}

-- the lengths are those of the levels
pub deepest_is : (g : Geometry) (t : Store) (ns : List ℕ) → ((j : ℕ) → get_or ns j 0 ≡ length (get_or t.levels j [])) → (i : ℕ) → deepest_for g ns i ≡ deepest_over g i t
unfolding deepest_for deepest_over
deepest_is g t ns e zero = refl
deepest_is g t ns e (suc i) =
    ap (λ (x : ℕ). by x (deepest_for g ns i)) (e i) ∙ ap (by (length (get_or t.levels i []))) (deepest_is g t ns e i)
  where
    by : ℕ → ℕ → ℕ
    by x y = elim (ltb (capacity_of g (suc i)) x) [ true ↦ suc i | false ↦ y ]

-- level j + 1 is over its capacity, or it is passed
module _ (g : Geometry) (ns : List ℕ) (j level k : ℕ) (el : level ≡ suc j) (ek : k ≡ capacity_of g level) where
  room : k ≡ capacity_of g (suc j)
  room = ek ∙ ap (capacity_of g) el

  pub deepest_here : k < get_or ns j 0 → level ≡ deepest_for g ns level
  unfolding deepest_for
  deepest_here h = rw (el, lt-ltb (capacity_of g (suc j)) (get_or ns j 0) (omega (arith, room)), deepest_for)

  pub deepest_past : get_or ns j 0 ≤ k → deepest_for g ns level ≡ deepest_for g ns j
  unfolding deepest_for
  deepest_past h = rw (el, le-ltb (capacity_of g (suc j)) (get_or ns j 0) (omega (arith, room)), deepest_for)

-- the level that a number stands for
pub numbered_some : (d level : ℕ) → level ≡ d → 1 ≤ level → Some level ≡ numbered d
numbered_some zero level e h = absurd (omega arith)
numbered_some (suc d) level e h = ap Some e

pub numbered_none : (d : ℕ) → 0 ≡ d → None ≡ numbered d
numbered_none zero e = refl
numbered_none (suc d) e = absurd (omega arith)

pub some_numbered : (d level : ℕ) → Some level ≡ numbered d → (level ≡ d) × (1 ≤ level)
some_numbered zero level e = absurd (true≢false (ap is_some e))
some_numbered (suc d) level e = let q : level ≡ suc d = ap (λ (o : Option ℕ). unwrap_or o 0) e in (q, omega arith)

pub none_numbered : (d : ℕ) → None ≡ numbered d → d ≡ 0
none_numbered zero e = refl
none_numbered (suc d) e = absurd (true≢false (sym (ap is_some e)))
