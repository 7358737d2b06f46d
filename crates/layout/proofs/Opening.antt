-- What the first look at lent words says, and when: reasons 1 to 3.
use Prim.Native.Nat.{ℕ, zero, suc, ◌≤◌, ◌<◌}
use mathlib.Core.Path.{◌≡◌, refl, sym, ap, ◌∙◌, subst}
use mathlib.Core.Bool.{Bool, true, false}
use mathlib.Core.List.{List}
use native.Mathlib.Omega.{arith}
use lib.Dec.{ltb, eqb}
use lib.ListN.{length}
use borrow.Author.Tests.{lt-ltb, le-ltb, eqb-true, eq-eqb, ne_eqb}
use Rattle.geometry.specs.declared.Geometry.{Geometry}
use Rattle.std.specs.Prelude.{Ok, Err}
use Rattle.geometry.specs.declared.Refusal.{Refusal}
use Rattle.geometry.specs.declared.Refusal.TheVariants.{TooShort, BrokenLimit, WrongLength, Damaged}
use Rattle.geometry.specs.Refusals.{number_of}
use Rattle.geometry.specs.Geometry.{Valid, is_legal, built_of}
use Rattle.geometry.proofs.Laws.{legal_valid, valid_legal, built_valid, built_broken}
use Rattle.layout.specs.declared.Layout.{Layout}
use Rattle.layout.specs.Layouts.{header_length, old, geometry_at, layout_at, size_reason, Proper}
use Rattle.layout.specs.Opening.{pick_opened, fit_of, opened_of, Sized}
use Rattle.layout.proofs.Old.{old_proper, store_length_low}

-- reasons 1 to 3
pub size_none : (n : ℕ) (g : Geometry) → Valid g → n ≡ (old g).length → size_reason n g ≡ 0
unfolding size_reason
size_none n g v l =
    rw (le-ltb n 12 (omega (arith, store_length_low g v)), size_reason, valid_legal g v, size_reason, eq-eqb n (old g).length l, size_reason)

pub size_legal : (n : ℕ) (g : Geometry) → size_reason n g ≡ 0 → Valid g × (n ≡ (old g).length)
unfolding size_reason
size_legal n g e = go (ltb n 12) (is_legal g) (eqb n (old g).length) refl refl e
  where
    go : (a b c : Bool) → is_legal g ≡ b → eqb n (old g).length ≡ c → ◌≡◌ {A = ℕ} (elim a [ true ↦ 1 | false ↦ elim b [ false ↦ 2 | true ↦ elim c [ true ↦ 0 | false ↦ 3 ] ] ]) 0 → Valid g × (n ≡ (old g).length)
    go true b c l m z = absurd (omega arith)
    go false false c l m z = absurd (omega arith)
    go false true false l m z = absurd (omega arith)
    go false true true l m z = (legal_valid g l, eqb-true _ _ m)

-- no other
pub size_most : (n : ℕ) (g : Geometry) → size_reason n g ≤ 3
unfolding size_reason
size_most n g = go (ltb n 12) (is_legal g) (eqb n (old g).length)
  where
    go : (a b c : Bool) → ◌≤◌ (elim a [ true ↦ 1 | false ↦ elim b [ false ↦ 2 | true ↦ elim c [ true ↦ 0 | false ↦ 3 ] ] ]) 3
    go true b c = omega arith
    go false false c = omega arith
    go false true true = omega arith
    go false true false = omega arith

-- "1. The store has fewer than 12 words."
pub size_short : (n : ℕ) (g : Geometry) → n ≤ 11 → size_reason n g ≡ 1
unfolding size_reason
size_short n g h = rw (lt-ltb n header_length (omega arith), size_reason)

-- "2. The geometry .. breaks a limit above."
pub size_broken : (n : ℕ) (g : Geometry) → 12 ≤ n → is_legal g ≡ false → size_reason n g ≡ 2
unfolding size_reason
size_broken n g h l = rw (le-ltb n header_length h, l, size_reason)

-- "3. The length differs from the layout's."
pub size_other : (n : ℕ) (g : Geometry) → 12 ≤ n → is_legal g ≡ true → (n ≡ (old g).length → ⊥) → size_reason n g ≡ 3
unfolding size_reason
size_other n g h l k = rw (le-ltb n header_length h, l, ne_eqb n (old g).length k, size_reason)

-- the two cases of an answer to the reason r
pub pick_ready : (r : ℕ) (s g : Layout) → pick_opened r s ≡ Ok g → (g ≡ s) × (r ≡ 0)
pick_ready zero s g e = let w : s ≡ g = cc in (sym w, refl)
pick_ready (suc zero) s g e = absurd (let z : ◌≡◌ {A = ℕ} 0 1 = cc in omega arith)
pick_ready (suc (suc zero)) s g e = absurd (let z : ◌≡◌ {A = ℕ} 0 1 = cc in omega arith)
pick_ready (suc (suc (suc zero))) s g e = absurd (let z : ◌≡◌ {A = ℕ} 0 1 = cc in omega arith)
pick_ready (suc (suc (suc (suc n)))) s g e = absurd (let z : ◌≡◌ {A = ℕ} 0 1 = cc in omega arith)

pub pick_refused : (r : ℕ) (s : Layout) (n : Refusal) → r ≤ 4 → pick_opened r s ≡ Err n → (r ≡ number_of n) × (1 ≤ number_of n)
pick_refused zero s n h e = absurd (let z : ◌≡◌ {A = ℕ} 0 1 = cc in omega arith)
pick_refused (suc zero) s n h e = let w : TooShort ≡ n = cc in rw (sym w) (refl, omega arith)
pick_refused (suc (suc zero)) s n h e = let w : BrokenLimit ≡ n = cc in rw (sym w) (refl, omega arith)
pick_refused (suc (suc (suc zero))) s n h e = let w : WrongLength ≡ n = cc in rw (sym w) (refl, omega arith)
pick_refused (suc (suc (suc (suc r)))) s n h e = let w : Damaged ≡ n = cc in rw (sym w) (omega arith, omega arith)

-- the answers of `fit`, by what the code has found out
pub fit_short : (n : ℕ) (s : Geometry) → n < 12 → Err TooShort ≡ fit_of n s
unfolding fit_of
fit_short n s h = rw (size_short n s (omega arith))

pub fit_broken : (n : ℕ) (s : Geometry) (m : Refusal) → 12 ≤ n → built_of s ≡ Err m → Err m ≡ fit_of n s
unfolding fit_of
fit_broken n s m h e =
    let b = built_broken s m e in
    rw (size_broken n s h b.1, ← b.0)

pub fit_other : (n : ℕ) (s t : Geometry) (z : Layout) → 12 ≤ n → built_of s ≡ Ok t → z ≡ old t → (n ≡ z.length → ⊥) → Err WrongLength ≡ fit_of n s
unfolding fit_of
fit_other n s t z h e q k =
    let b = built_valid s t e in
    rw (b.0, size_other n t h (valid_legal t b.1) (λ x. k (x ∙ ap (λ (y : Layout). y.length) (sym q))))

pub fit_ready : (n : ℕ) (s t : Geometry) (z : Layout) → 12 ≤ n → built_of s ≡ Ok t → z ≡ old t → n ≡ z.length → Ok z ≡ fit_of n s
unfolding fit_of
fit_ready n s t z h e q k =
    let b = built_valid s t e in
    ap Ok q ∙ rw (b.0, size_none n t b.1 (k ∙ ap (λ (y : Layout). y.length) q))

-- a store of fewer than 12 words has no geometry to look at
pub opened_short : (ws : List ℕ) → length ws < 12 → Err TooShort ≡ opened_of ws
unfolding opened_of
opened_short ws h = fit_short (length ws) (geometry_at ws) h

-- format's words: what `Ok` says of n words and six numbers
pub fitted_ready : (n : ℕ) (s : Geometry) (z : Layout) → fit_of n s ≡ Ok z → (z ≡ old s) × (Valid s × ((n ≡ z.length) × (size_reason n s ≡ 0)))
unfolding fit_of
fitted_ready n s z e =
    let k = pick_ready (size_reason n s) (old s) z e in
    let r = size_legal n s k.1 in
    (k.0, (r.0, (r.1 ∙ ap (λ (y : Layout). y.length) (sym k.0), k.1)))

pub fitted_refused : (n : ℕ) (s : Geometry) (m : Refusal) → fit_of n s ≡ Err m → (size_reason n s ≡ number_of m) × (1 ≤ number_of m)
unfolding fit_of
fitted_refused n s m e = pick_refused (size_reason n s) (old s) m (omega (arith, size_most n s)) e

-- what `Ok` says of lent words
pub opened_ready : (ws : List ℕ) (z : Layout) → opened_of ws ≡ Ok z → Sized z ws
unfolding opened_of layout_at
opened_ready ws z e =
    let k = fitted_ready (length ws) (geometry_at ws) z e in
    record { layout = k.0; fitted = record { proper = subst Proper (sym k.0) (old_proper (geometry_at ws) k.1.0); words = k.1.1.0 } }

pub opened_none : (ws : List ℕ) (z : Layout) → opened_of ws ≡ Ok z → size_reason (length ws) (geometry_at ws) ≡ 0
unfolding opened_of
opened_none ws z e = (fitted_ready (length ws) (geometry_at ws) z e).1.1.1

pub opened_refused : (ws : List ℕ) (n : Refusal) → opened_of ws ≡ Err n → (size_reason (length ws) (geometry_at ws) ≡ number_of n) × (1 ≤ number_of n)
unfolding opened_of
opened_refused ws n e = fitted_refused (length ws) (geometry_at ws) n e

-- the other way: lent words of the right number with a legal geometry are not turned down
pub sized_opened : (ws : List ℕ) → Valid (geometry_at ws) → length ws ≡ (layout_at ws).length → opened_of ws ≡ Ok (layout_at ws)
unfolding opened_of fit_of layout_at
sized_opened ws v l = rw (size_none (length ws) (geometry_at ws) v l)
